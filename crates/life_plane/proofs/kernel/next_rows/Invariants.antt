use Rattle.std.proofs.Common.{◌≡◌, ℕ, ◌<◌, slice_index, length}
use Rattle.std.specs.Int.{bit_at}
use Rattle.life_model.specs.Rule.{Rule}
use Rattle.life_plane.specs.Windows.{next_in_window}
use Rattle.life_plane.proofs.kernel.next_rows.Given as goal

abbrev pub invariant-loop-y : goal.invariant-loop-y
invariant-loop-y g l = record {
  room : length l.rows ≡ 8;
  done : (rule : Rule) → g.B.Branch.is_of l.branch rule → (y : ℕ) → y < l.y → (x : ℕ) → x < 64 → bit_at (slice_index l.rows y) x ≡ next_in_window rule l.window x y;
}
