-- Marks of bands.
use Rattle.std.proofs.Common.{◌≡◌, ℕ, ◌<◌, List, sym, ◌∙◌, arith}
use Rattle.std.specs.Int.{bit_at}
use Rattle.std.proofs.lemmas.Nat.Bits.{bit_at-lt, bit_at_ones}
use Rattle.life_slots.proofs.Splits.{not_one}
use Rattle.life_slots.specs.declared.bands.Bands.{Bands}
use Rattle.life_slots.specs.Work.{band_mark}

-- where a band is not marked, it was not before
pub clear_before : (before after : List Bands) (k band : ℕ) → (band_mark before k band ≡ 1 → band_mark after k band ≡ 1) → band_mark after k band ≡ 0 → band_mark before k band ≡ 0
clear_before before after k band kept clear =
    not_one (band_mark before k band) (bit_at-lt _ band) (λ one. let now : 1 ≡ 0 = sym (kept one) ∙ clear in omega arith)

pub all_marked : (band : ℕ) → band < 8 → bit_at 255 band ≡ 1
all_marked band small = bit_at_ones 8 band small
