use Rattle.std.proofs.Common.{◌≡◌, ℕ, pos, ◌<◌, take}
use Rattle.std.specs.List.{list_any}
use Rattle.life_model.specs.Cell.{plus, same_cell}
use Rattle.life_plane.specs.Flags.{as_bit}
use Rattle.life_slots.specs.Leaves.{leaf_cell}
use Rattle.life_slots.proofs.leaf.Leaf.of.Given as goal

abbrev pub invariant-loop-cell : goal.invariant-loop-cell
invariant-loop-cell l = record {
  shows : (x y : ℕ) → x < 32 → y < 32 → leaf_cell l.leaf x y ≡ as_bit (list_any (same_cell (plus l.place (pos x, pos y))) (take l.cell-index l.cells));
}
