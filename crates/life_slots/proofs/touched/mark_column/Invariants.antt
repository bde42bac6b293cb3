use Rattle.std.proofs.Common.{◌≡◌, ℕ, ◌+◌, ◌*◌, ◌%◌, ◌/◌, ◌<◌, length, slice_index}
use Rattle.std.specs.Int.{bit_at}
use Rattle.life_slots.specs.Work.{band_mark}
use Rattle.life_slots.proofs.touched.mark_column.Given as goal

abbrev pub invariant-loop-row : goal.invariant-loop-row
invariant-loop-row l = record {
  length : length l.marks ≡ length l.initial.marks;
  kept : (k band : ℕ) → band_mark l.initial.marks k band ≡ 1 → band_mark l.marks k band ≡ 1;
  marked : (m band : ℕ) → m < 9 → m % 3 ≡ l.side → m / 3 < l.row → band < 8 → band_mark l.marks (slice_index l.links m) band ≡ 0 → bit_at l.column (8 * (m / 3) + band) ≡ 0;
}
