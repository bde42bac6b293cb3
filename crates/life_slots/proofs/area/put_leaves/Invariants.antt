use Rattle.std.proofs.Common.{◌≡◌, ℕ, ◌+◌, ◌<◌, ◌≤◌, ◌⊎◌, length, slice_index}
use Rattle.life_plane.specs.Area.{tile_cell}
use Rattle.life_slots.specs.Leaves.{leaf_cell}
use Rattle.life_slots.proofs.area.put_leaves.Given as goal

abbrev pub invariant-loop-y : goal.invariant-loop-y
invariant-loop-y l = record {
  room : length l.area.rows ≡ 64;
  west : (y : ℕ) → y < l.y → (x : ℕ) → x < 32 → tile_cell l.area x (l.top + y) ≡ leaf_cell l.west x y;
  east : (y : ℕ) → y < l.y → (x : ℕ) → x < 32 → tile_cell l.area (x + 32) (l.top + y) ≡ leaf_cell l.east x y;
  others : (y : ℕ) → (y < l.top) ⊎ (l.top + l.y ≤ y) → slice_index l.area.rows y ≡ slice_index l.initial.area.rows y;
}
