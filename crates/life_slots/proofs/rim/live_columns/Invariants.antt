use Rattle.std.proofs.Common.{◌≡◌, ℕ, ◌<◌, ◌↔◌}
use Rattle.std.specs.Int.{bit_at}
use Rattle.life_plane.specs.Area.{tile_cell}
use Rattle.life_slots.proofs.rim.live_columns.Given as goal

abbrev pub invariant-loop-row : goal.invariant-loop-row
invariant-loop-row l = (x : ℕ) → x < 64 → (bit_at l.columns x ≡ 0) ↔ ((y : ℕ) → y < l.row-index → tile_cell l.tile x y ≡ 0)
