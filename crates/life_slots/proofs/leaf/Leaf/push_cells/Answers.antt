use Rattle.std.proofs.Common.{◌≡◌, FitsSigned, w32, to_z, pos, ◌+ℤ◌, subst, arith}
use Rattle.std.proofs.lemmas.Int.{ints, to_z-of_z}
use Rattle.life_slots.specs.Lists.{AddsCells}
use Rattle.life_slots.proofs.LeafCells.{none_added, row_added}
use Rattle.life_slots.proofs.leaf.Leaf.push_cells.Goals as goal

pub loop-y-init : goal.loop-y-init
loop-y-init c = record { adds = λ G shows. none_added G c.args.place c.args.cells.now.items }

pub loop-y-preserved : goal.loop-y-preserved
loop-y-preserved c =
    let requires = c.requires in
    let cast : to_z w32 c.loop-y.y ≡ pos c.loop-y.y = omega (arith, ints) in
    let left : FitsSigned w32 c.args.place.0 = omega (arith, ints) in
    let top : FitsSigned w32 c.args.place.1 = omega (arith, ints) in
    let down : FitsSigned w32 (c.args.place.1 +ℤ pos c.loop-y.y) = omega (arith, ints) in
    record {
      adds = λ G shows.
          row_added c.args.self.now G c.args.place.0 c.args.place.1 shows c.loop-y.y (omega arith) (omega arith) c.args.cells.now.items c.loop-y.cells.items c.push_row.new.cells.items
          (simp (to_z-of_z, cast, c.from.ensures) at c.in_ok-push_row.ensures)
          (c.loop-y.invariant.adds G shows);
    }

pub returns : goal.returns
returns c = λ G shows.
    let all : c.loop-y.y ≡ 32 = omega arith in
    subst (λ n. AddsCells 32 n c.args.place G c.args.cells.now.items c.loop-y.cells.items) all (c.loop-y.invariant.adds G shows)
