-- What holds of each element of a list.
use Rattle.std.proofs.Common.{◌≡◌, ℕ, ◌+◌, ◌<◌, List}
use Rattle.std.proofs.Common.{length, get_or, inl, inr, subst, arith}
use Rattle.std.proofs.lemmas.Bool.{cases_lt}
use Rattle.std.proofs.lemmas.List.{get_or_default}

-- what holds of each element before one, and of that one, holds of each before the next
pub all_more : {A : Type 0} (P : A → Type 0) (xs : List A) (i : ℕ) (e : A) → i < length xs →
    ((k : ℕ) (d : A) → k < i → P (get_or xs k d)) → P (get_or xs i e) →
    (k : ℕ) (d : A) → k < i + 1 → P (get_or xs k d)
all_more P xs i e h so_far here k d below =
    elim (cases_lt k i) [
      | inl before ↦ so_far k d before
      | inr after ↦
          subst (λ n. P (get_or xs n d)) (let z : i ≡ k = omega arith in z) (subst P (get_or_default xs i e d h) here)
    ]
