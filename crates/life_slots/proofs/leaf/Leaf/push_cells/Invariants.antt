use Rattle.life_model.specs.Generation.{Generation}
use Rattle.life_slots.specs.Leaves.{ShowsLeaf}
use Rattle.life_slots.specs.Lists.{AddsCells}
use Rattle.life_slots.proofs.leaf.Leaf.push_cells.Given as goal

abbrev pub invariant-loop-y : goal.invariant-loop-y
invariant-loop-y l = record {
  adds : (G : Generation) → ShowsLeaf l.self G l.place → AddsCells 32 l.y l.place G l.initial.cells.items l.cells.items;
}
