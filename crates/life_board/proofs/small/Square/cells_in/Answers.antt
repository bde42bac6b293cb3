use Rattle.std.proofs.Common.{◌≡◌, suc, ◌+◌, ◌<◌, FitsSigned, w32, to_z, pos, ◌+ℤ◌, T, All, List, reverse, sym, subst, ap, ◌∙◌, arith}
use Rattle.std.proofs.lemmas.Int.{ints, to_z-of_z}
use Rattle.life_model.specs.Cell.{Cell}
use Rattle.life_model.specs.Generation.{from_list, is_rising}
use Rattle.life_cells.specs.Limits.{IsPlace}
use Rattle.life_slots.specs.Cells.{block_cells}
use Rattle.life_board.proofs.Rises.{all_rows, from_turned, none_listed, places, rise_block, row_listed}
use Rattle.life_board.proofs.small.Square.cells_in.Goals as goal

pub loop-y-init : goal.loop-y-init
loop-y-init c = record { inside = c.requires.void.order; pushed = c.clear.ensures.items ∙ none_listed c.args.self.now.left c.args.self.now.top c.args.self.now.tile.rows c.args.self.now.first c.requires.void.above }

pub loop-y-preserved : goal.loop-y-preserved
loop-y-preserved c =
    let place = c.requires.place in
    let test = c.loop-y-test.true in
    let end = c.requires.void.inside in
    let small : c.loop-y.y < 64 = omega arith in
    let cast : to_z w32 c.loop-y.y ≡ pos c.loop-y.y = omega (arith, ints) in
    let left : FitsSigned w32 c.args.self.now.left = omega (arith, ints) in
    let top : FitsSigned w32 c.args.self.now.top = omega (arith, ints) in
    let down : FitsSigned w32 (c.args.self.now.top +ℤ pos c.loop-y.y) = omega (arith, ints) in
    let more : suc c.loop-y.y ≡ c.loop-y.y + 1 = omega arith in
    record {
      inside = omega arith;
      pushed =
          row_listed c.args.self.now.left c.args.self.now.top c.args.self.now.tile.rows c.loop-y.y c.loop-y.cells.items c.push_row.new.cells.items
          c.loop-y.invariant.pushed (simp (to_z-of_z, cast) at c.in_ok-push_row.ensures)
          ∙ ap (λ n. reverse (block_cells c.args.self.now.left c.args.self.now.top c.args.self.now.tile.rows n)) more;
    }

pub from_ordered-requires-clause-rising : goal.from_ordered-requires-clause-rising
from_ordered-requires-clause-rising c =
    subst (λ (cs : List Cell). T (is_rising cs)) (sym (all_rows c.args.self.now.left c.args.self.now.top c.args.self.now.tile.rows c.args.self.now.first c.args.self.now.end c.loop-y.y c.loop-y.cells.items
    c.requires.void c.loop-y.invariant.inside c.loop-y-test.false c.loop-y.invariant.pushed))
    (rise_block c.args.self.now.left c.args.self.now.top c.args.self.now.tile.rows 64)

pub from_ordered-requires-clause-placed : goal.from_ordered-requires-clause-placed
from_ordered-requires-clause-placed c =
    subst (λ (cs : List Cell). All IsPlace cs) (sym (all_rows c.args.self.now.left c.args.self.now.top c.args.self.now.tile.rows c.args.self.now.first c.args.self.now.end c.loop-y.y c.loop-y.cells.items
    c.requires.void c.loop-y.invariant.inside c.loop-y-test.false c.loop-y.invariant.pushed))
    (places c.args.self.now.left c.args.self.now.top c.args.self.now.tile c.args.self.now.age c.requires.young c.requires.within)

pub returns : goal.returns
returns c =
    c.from_ordered.ensures
    ∙ ap from_list (all_rows c.args.self.now.left c.args.self.now.top c.args.self.now.tile.rows c.args.self.now.first c.args.self.now.end c.loop-y.y c.loop-y.cells.items
    c.requires.void c.loop-y.invariant.inside c.loop-y-test.false c.loop-y.invariant.pushed)
    ∙ from_turned c.args.self.now.left c.args.self.now.top c.args.self.now.tile
