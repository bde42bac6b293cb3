-- Stretches that are compared.
use Rattle.std.proofs.Common.{◌≡◌, ℕ, ◌+◌, ◌-◌, ◌*◌, ◌<◌, List, length, slice_index_or, subst}
use Rattle.life_strays.specs.Totals.{IsUneven}

pub uneven_by : (totals : List ℕ) (count lesser greater high low : ℕ) → lesser + count < length totals →
    greater + count < length totals →
    ((d : ℕ) → high ≡ slice_index_or totals (greater + count) d - slice_index_or totals greater d) →
    ((d : ℕ) → low ≡ slice_index_or totals (lesser + count) d - slice_index_or totals lesser d) →
    (count + 1) * low < count * high → IsUneven totals
uneven_by totals count lesser greater high low has_lesser has_greater highs lows more = record {
  count = count;
  lesser = lesser;
  greater = greater;
  has_lesser = has_lesser;
  has_greater = has_greater;
  more = λ d.
      subst (λ n. (count + 1) * n < count * (slice_index_or totals (greater + count) d - slice_index_or totals greater d))
      (lows d) (subst (λ n. (count + 1) * low < count * n) (highs d) more);
}
