-- What divides the times of all steps divides the time of each sum.
use Rattle.std.proofs.Common.{◌≡◌, ℕ, ℤ, pos, ◌+ℤ◌, ◌*◌, ◌%◌, ◌≤◌, List, [], ◌∷◌, sym, ap, ◌∙◌, arith}
use Rattle.std.specs.Prelude.{unsigned_abs}
use Rattle.std.proofs.Math.IntN.{◌*ℤ◌, *ℤ_comm, *ℤ-zero}
use Rattle.std.proofs.lemmas.Int.{ints, unsigned_abs-mul}
use Rattle.life_model.specs.Generation.{Generation}
use Rattle.life_growth.specs.Meeting.Sums.{Step, sum_of, times}
use Rattle.life_growth.proofs.RelationsLemmas.Products.{spreads}
use Rattle.life_growth.proofs.RelationsLemmas.Signed.{times-scaled}
use Rattle.life_things.specs.Clear.{StaysClear}
use Rattle.life_things.specs.Times.{DividesTimes}
use Rattle.life_things.proofs.LatticeLemmas.Likeness.{Times, whole}
use Rattle.life_things.proofs.LatticeLemmas.Lowering.{regrouped}
use Rattle.life_things.proofs.LatticeLemmas.Rising.{no_rest}

in_turn : (k g : ℕ) (z : ℤ) → (pos k *ℤ (pos g *ℤ z)) ≡ (pos g *ℤ (pos k *ℤ z))
in_turn k g z = sym (regrouped (pos k) (pos g) z) ∙ ap (λ a. a *ℤ z) (*ℤ_comm (pos k) (pos g)) ∙ regrouped (pos g) (pos k) z

sum_whole : (g : ℕ) (us : List Step) (often : List ℕ) → DividesTimes g us → Times g (sum_of us often).0
sum_whole g [] often divides = (pos 0, sym (*ℤ-zero (pos g)))
sum_whole g (u ∷ us) [] divides = (pos 0, sym (*ℤ-zero (pos g)))
sum_whole g (u ∷ us) (k ∷ often) divides =
    let here = whole g u.0 divides.0 in
    let rest = sum_whole g us often divides.1 in
    let first : (times k u).0 ≡ (pos g *ℤ (pos k *ℤ here.0)) =
    ap (λ (v : Step). v.0) (times-scaled k u) ∙ ap (λ a. pos k *ℤ a) here.1 ∙ in_turn k g here.0 in
    ((pos k *ℤ here.0) +ℤ rest.0, (λ i. first i +ℤ rest.1 i) ∙ sym (spreads (pos g) (pos k *ℤ here.0) rest.0))

-- where the difference of the times isn't divided, they never stand together
pub apart_in_time : (g : ℕ) (s : Step) (us : List Step) → 1 ≤ g → DividesTimes g us →
    (unsigned_abs s.0 % g ≡ 0 → ⊥) → (P Q : Generation) → StaysClear P Q s us
apart_in_time g s us some divides rest P Q d sum =
    let w = sum_whole g us sum.0 divides in
    let time = ap (λ (v : Step). v.0) sum.1 in
    let size = unsigned_abs-mul (pos g) w.0 in
    let same : unsigned_abs s.0 ≡ unsigned_abs (pos g *ℤ w.0) = (let e = w.1 in omega (arith, ints)) in
    absurd (rest (no_rest (unsigned_abs s.0) (unsigned_abs w.0) g some
    (let z : unsigned_abs s.0 ≡ unsigned_abs w.0 * g = omega arith in z)))
