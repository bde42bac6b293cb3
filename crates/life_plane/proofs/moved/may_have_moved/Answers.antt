use Rattle.std.proofs.Common.{◌<◌, ◌-◌, get_or, length, sym, ap, ◌∙◌, true≢false, false-eqb, arith}
use Rattle.life_model.specs.Cell.{opposite, origin, plus}
use Rattle.life_plane.specs.Field.{has}
use Rattle.life_plane.proofs.Listed.{place_of}
use Rattle.life_plane.proofs.Offsets.{plus_back}
use Rattle.life_plane.proofs.moved.may_have_moved.Goals as goal

pub returns : goal.returns
returns c = λ same d led.
    let all = c.args.list.now in
    let cells = c.args.cells.now in
    let some : 0 < length cells = omega (arith, false-eqb _ 0 (c.if-is_empty.ensures)) in
    let first = get_or cells 0 origin in
    let last = get_or cells (length cells - 1) origin in
    let at = place_of all (plus first d) (led 0 some) in
    let past = c.loop-to-test.false in
    let here = at.1 in
    true≢false (sym (led (length cells - 1) (omega arith))
    ∙ ap (λ e. has all (plus last e)) (sym (ap (λ q. plus q (opposite first)) at.2 ∙ plus_back first d))
    ∙ c.loop-to.invariant at.0 (omega arith))
