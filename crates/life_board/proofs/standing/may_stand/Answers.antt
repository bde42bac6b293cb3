use Rattle.std.proofs.Common.{◌<◌, ◌≤◌, pos, ◌+ℤ◌, ⊎_elim, below_more, false-eqb, get_or, length, slice_index, arith}
use Rattle.std.proofs.lemmas.Bool.{cases_lt}
use Rattle.life_model.specs.Cell.{origin, plus}
use Rattle.life_tile.specs.Standing.{HasNoneInRow}
use Rattle.life_tile.proofs.Listed.{no_bit}
use Rattle.life_board.specs.Squares.{members_of}
use Rattle.life_board.proofs.States.{live_at}
use Rattle.life_board.proofs.standing.may_stand.Goals as goal

pub loop-y-init : goal.loop-y-init
loop-y-init c = λ v before. record {
  none = λ j d inside one led all. no_bit _ j (c.requires.kept.void.above v before) one;
}

pub loop-y-preserved : goal.loop-y-preserved
loop-y-preserved c =
    below_more (λ v. HasNoneInRow (members_of c.args.square.now) c.args.cells.now 0 (slice_index c.args.square.now.tile.rows v) (c.args.square.now.left, c.args.square.now.top +ℤ pos v))
    c.loop-y.y c.loop-y.invariant (c.may_stand_in_row.ensures c.if-may_stand_in_row.false)

pub returns : goal.returns
returns c = λ told d all.
    let square = c.args.square.now in
    let some : 0 < length c.args.cells.now = omega (arith, false-eqb _ 0 c.if-is_empty.ensures) in
    let h = live_at square.left square.top square.tile (plus (get_or c.args.cells.now 0 origin) d) (all 0 origin some) in
    ⊎_elim
    (λ (done : h.i < c.loop-y.y). (c.loop-y.invariant h.i done).none h.row.j d h.row.inside h.row.set_bit h.row.is all)
    (λ (past : c.loop-y.y ≤ h.i).
    let over : c.args.square.now.end ≤ c.loop-y.y = c.loop-y-test.false in
    no_bit (slice_index c.args.square.now.tile.rows h.i) h.row.j (c.requires.kept.void.below h.i (omega arith) h.inside) h.row.set_bit)
    (cases_lt h.i c.loop-y.y)
