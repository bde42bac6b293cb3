-- Conway's Life: a cell is live next if exactly one of four twos is set, and the one or the cell is.
use Rattle.std.proofs.Common.{◌≡◌, ℕ, zero, suc, ◌+◌, ◌-◌, ◌*◌, ◌<◌, ◌%◌, ◌^◌, ◌==◌, if◌then◌else◌, bit_and, bit_or, bit_xor, min, max, refl, ap, ◌∙◌, arith, w64}
use Rattle.std.specs.Int.{bit_at, bit_not}
use Rattle.std.proofs.lemmas.Nat.{or_lt}
use Rattle.std.proofs.lemmas.Nat.Bits.{bit_at_and, bit_at_or, bit_at_xor, bit_at_not, bit_at-lt}
use Rattle.life_model.specs.Rule.{born, stays}
use Rattle.life_cells.specs.Rules.{life}
use Rattle.life_plane.specs.Bits.{next_state}

-- exactly one of four bits is set
exactly_one : (a b c d e f i j : ℕ) → a < 2 → b < 2 → c < 2 → d < 2 → e < 2 → f < 2 → i < 2 → j < 2 → e + 2 * f ≡ a + b → i + 2 * j ≡ c + d →
    min ((e + i) % 2) (1 - max f j) ≡ (if a + b + c + d == 1 then 1 else 0)
exactly_one a b c d e f i j as_ bs cs ds es fs is_ js p q = grind arith

-- s twos and o ones make 3, or 2 beside a live cell
decide : (s o h : ℕ) → s < 5 → o < 2 → h < 2 → min (if s == 1 then 1 else 0) (max o h) ≡ next_state life h (o + 2 * s)
unfolding born stays
decide zero zero zero p q r = refl
decide zero zero (suc zero) p q r = refl
decide zero (suc zero) zero p q r = refl
decide zero (suc zero) (suc zero) p q r = refl
decide (suc zero) zero zero p q r = refl
decide (suc zero) zero (suc zero) p q r = refl
decide (suc zero) (suc zero) zero p q r = refl
decide (suc zero) (suc zero) (suc zero) p q r = refl
decide (suc (suc zero)) zero zero p q r = refl
decide (suc (suc zero)) zero (suc zero) p q r = refl
decide (suc (suc zero)) (suc zero) zero p q r = refl
decide (suc (suc zero)) (suc zero) (suc zero) p q r = refl
decide (suc (suc (suc zero))) zero zero p q r = refl
decide (suc (suc (suc zero))) zero (suc zero) p q r = refl
decide (suc (suc (suc zero))) (suc zero) zero p q r = refl
decide (suc (suc (suc zero))) (suc zero) (suc zero) p q r = refl
decide (suc (suc (suc (suc zero)))) zero zero p q r = refl
decide (suc (suc (suc (suc zero)))) zero (suc zero) p q r = refl
decide (suc (suc (suc (suc zero)))) (suc zero) zero p q r = refl
decide (suc (suc (suc (suc zero)))) (suc zero) (suc zero) p q r = refl
decide (suc (suc (suc (suc (suc s))))) o h p q r = absurd (omega arith)
decide s (suc (suc o)) h p q r = absurd (omega arith)
decide s o (suc (suc h)) p q r = absurd (omega arith)

pub life_at : (e f i j ones here above below beside carried x : ℕ) → f < 2 ^ 64 → j < 2 ^ 64 → x < 64 →
    bit_at e x + 2 * bit_at f x ≡ bit_at above x + bit_at below x →
    bit_at i x + 2 * bit_at j x ≡ bit_at beside x + bit_at carried x →
    bit_at (bit_and (bit_and (bit_xor e i) (bit_not w64 (bit_or f j))) (bit_or ones here)) x
    ≡ next_state life (bit_at here x) (bit_at ones x + 2 * (bit_at above x + bit_at below x + bit_at beside x + bit_at carried x))
life_at e f i j ones here above below beside carried x f_fits j_fits inside outer inner =
    let bound : bit_at above x + bit_at below x + bit_at beside x + bit_at carried x < 5 =
    omega (arith, bit_at-lt above x, bit_at-lt below x, bit_at-lt beside x, bit_at-lt carried x) in
    bit_at_and (bit_and (bit_xor e i) (bit_not w64 (bit_or f j))) (bit_or ones here) x
    ∙ ap (λ n. min n (bit_at (bit_or ones here) x))
    (bit_at_and (bit_xor e i) (bit_not w64 (bit_or f j)) x
    ∙ (λ k. min (bit_at_xor e i x k) ((bit_at_not w64 (bit_or f j) x (or_lt 64 f j f_fits j_fits) inside ∙ ap (λ n. 1 - n) (bit_at_or f j x)) k))
    ∙ exactly_one _ _ _ _ _ _ _ _ (bit_at-lt above x) (bit_at-lt below x) (bit_at-lt beside x) (bit_at-lt carried x) (bit_at-lt e x) (bit_at-lt f x) (bit_at-lt i x) (bit_at-lt j x) outer inner)
    ∙ ap (min _) (bit_at_or ones here x)
    ∙ decide _ _ _ bound (bit_at-lt ones x) (bit_at-lt here x)
