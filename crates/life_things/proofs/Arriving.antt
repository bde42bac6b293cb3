-- When one step comes to a time, and where that is.
use Rattle.std.proofs.Common.{◌≡◌, ◌≢◌, ℕ, zero, suc, ℤ, pos, negsuc, ◌+ℤ◌, ◌*◌, ◌^◌, [], ◌∷◌, sym, refl, ap, subst, ◌∙◌, arith}
use Rattle.std.proofs.Math.IntN.{◌*ℤ◌}
use Rattle.std.proofs.lemmas.Int.{ints}
use Rattle.life_model.specs.Cell.{Cell}
use Rattle.life_model.specs.Generation.{Generation}
use Rattle.life_growth.specs.Meeting.Sums.{Step, and_then, times}
use Rattle.life_growth.proofs.RelationsLemmas.Singles.{same_product}
use Rattle.life_growth.proofs.RelationsLemmas.Signed.{times-scaled}
use Rattle.life_things.specs.Clear.{IsClear, StaysClear}
use Rattle.life_things.specs.Fields.{IsFieldOf}
use Rattle.life_things.specs.Lattice.Short.{IsWithin}
use Rattle.life_things.specs.declared.field.Field.{Field}
use Rattle.life_things.proofs.Going.{at_another_time, at_no_step, by_numbers, each_number, no_step_at}

same_rounds : (m n : ℕ) (z : ℤ) → z ≢ pos 0 → (pos m *ℤ z) ≡ (pos n *ℤ z) → m ≡ n
same_rounds m n (pos zero) some e = absurd (some refl)
same_rounds m n (pos (suc a)) some e = same_product m n (suc a) (omega arith) (omega (arith, ints))
same_rounds m n (negsuc a) some e = same_product m n (suc a) (omega arith) (omega (arith, ints))

time_then : (s u : Step) (n : ℕ) → (and_then s (times n u)).0 ≡ (s.0 +ℤ (pos n *ℤ u.0))
time_then s u n = ap (λ (v : Step). s.0 +ℤ v.0) (times-scaled n u)

-- the step comes to the time once at most
one_time : (s u : Step) (m n : ℕ) → u.0 ≢ pos 0 → (and_then s (times m u)).0 ≡ pos 0 →
    (and_then s (times n u)).0 ≡ pos 0 → m ≡ n
one_time s u m n later one two =
    same_rounds m n u.0 later
    (let first = sym (time_then s u m) ∙ one in
    let second = sym (time_then s u n) ∙ two in
    omega (arith, ints))

module _ (P Q : Generation) (s u : Step) where
  pub never_then : ((n : ℕ) → (s.0 +ℤ (pos n *ℤ u.0)) ≢ pos 0) → StaysClear P Q s (u ∷ [])
  never_then none =
      by_numbers P Q s u [] (λ n. at_another_time P Q (and_then s (times n u)) (λ e. none n (sym (time_then s u n) ∙ e)))

  module _ (n : ℕ) (later : u.0 ≢ pos 0) (at : (s.0 +ℤ (pos n *ℤ u.0)) ≡ pos 0) where
    pub once_then : IsClear P (and_then s (times n u)).1 Q → StaysClear P Q s (u ∷ [])
    once_then clear =
        by_numbers P Q s u [] (λ m d sum.
        let here = ap (λ (w : Step). w.0) sum.1 in
        let now : (and_then s (times m u)).0 ≡ pos 0 = omega (arith, ints) in
        let same : n ≡ m = one_time s u n m later (time_then s u n ∙ at) now in
        at_no_step P Q (and_then s (times m u)) now (subst (λ k. IsClear P (and_then s (times k u)).1 Q) same clear) d sum)

    pub then_once : StaysClear P Q s (u ∷ []) → IsClear P (and_then s (times n u)).1 Q
    then_once clear =
        no_step_at P Q (and_then s (times n u)) (time_then s u n ∙ at) (each_number P Q s u [] clear n)

-- two steps that lead to no time together, where one of them is made `n` times
pub never_after : (P Q : Generation) (s u v : Step) (n : ℕ) →
    ((k : ℕ) → (s.0 +ℤ ((pos n *ℤ u.0) +ℤ (pos k *ℤ v.0))) ≢ pos 0) → StaysClear P Q (and_then s (times n u)) (v ∷ [])
never_after P Q s u v n none =
    never_then P Q (and_then s (times n u)) v (λ k e.
    none k (let start = time_then s u n in omega (arith, ints)))

-- what is not in the field is not near
pub out_of_columns : (f : Field) (P Q : Generation) (d : Cell) → IsFieldOf f P Q → ¬ IsWithin (2 ^ 34) d.0 → IsClear P d Q
out_of_columns f P Q d field far c e in_P in_Q near =
    let inside = field.holds d c e in_P in_Q near in
    let left = field.narrow.left in
    let right = field.narrow.right in
    far (record { low = omega (arith, ints); high = omega (arith, ints) })

pub out_of_rows : (f : Field) (P Q : Generation) (d : Cell) → IsFieldOf f P Q → ¬ IsWithin (2 ^ 34) d.1 → IsClear P d Q
out_of_rows f P Q d field far c e in_P in_Q near =
    let inside = field.holds d c e in_P in_Q near in
    let top = field.narrow.top in
    let bottom = field.narrow.bottom in
    far (record { low = omega (arith, ints); high = omega (arith, ints) })
