use Rattle.std.proofs.Common.{◌≡◌, ℕ, ◌%◌, ◌<◌, length, slice_index}
use Rattle.life_slots.specs.Work.{band_mark, touch_of}
use Rattle.life_slots.proofs.touched.Touched.mark.Given as goal

abbrev pub invariant-loop-side : goal.invariant-loop-side
invariant-loop-side l = record {
  length : length l.marks ≡ length l.initial.marks;
  kept : (k band : ℕ) → band_mark l.initial.marks k band ≡ 1 → band_mark l.marks k band ≡ 1;
  marked : (m band : ℕ) → m < 9 → m % 3 < l.side → band < 8 → band_mark l.marks (slice_index l.links m) band ≡ 0 → touch_of l.self.columns m band ≡ 0;
}
