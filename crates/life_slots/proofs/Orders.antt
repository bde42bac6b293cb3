-- The order of places is total, and tells places apart.
use Rattle.std.proofs.Common.{◌≡◌, ℤ, ◌⊎◌, inl, inr, ⊎_elim, Bool, true, false, ◌||◌, refl}
use Rattle.std.specs.Ordering.{int_cmp}
use Rattle.std.specs.Cmp.{IsTotalOrder, Equal-is}
use Rattle.std.proofs.lemmas.Cmp.{then_total, on_total, int_cmp_total}
use Rattle.std.proofs.lemmas.Map.Lookups.{CmpEqualImpliesEq, exact_pairs, exact_signed}
use Rattle.std.specs.BTreeMap.{is_at}
use Rattle.life_slots.specs.Places.{place_cmp}

pub place_total : IsTotalOrder place_cmp
place_total = then_total (on_total (λ (p : ℤ × ℤ). p.0) int_cmp_total) (on_total (λ (p : ℤ × ℤ). p.1) int_cmp_total)

pub place_exact : CmpEqualImpliesEq place_cmp
place_exact = exact_pairs int_cmp int_cmp exact_signed exact_signed

pub true_or_false : (b : Bool) → (b ≡ true) ⊎ (b ≡ false)
true_or_false true = inl refl
true_or_false false = inr refl

pub either_true : (a b : Bool) → (a || b) ≡ true → (a ≡ true) ⊎ (b ≡ true)
either_true true b is = inl refl
either_true false b is = inr is

pub same_or_other : (p q : ℤ × ℤ) → (p ≡ q) ⊎ (is_at (place_cmp p) q ≡ false)
same_or_other p q =
    ⊎_elim (λ at. inl (place_exact p q ((Equal-is (place_cmp p q)).0 at))) (λ other. inr other) (true_or_false (is_at (place_cmp p) q))
