-- The leaf has those cells that the loop has come to.
use Rattle.std.proofs.Common.{take}
use Rattle.life_model.specs.Generation.{from_list}
use Rattle.life_slots.specs.Leaves.{ShowsLeaf}
use Rattle.life_advance.specs.Leaps.Sites.{corner}
use Rattle.life_advance.proofs.leaps.building.leaf_of.Given as goal

abbrev pub invariant-loop-cell : goal.invariant-loop-cell
invariant-loop-cell l = ShowsLeaf l.leaf (from_list (take l.cell-index l.cells)) (corner l.site)
