-- When ash began.
use Rattle.std.proofs.Common.{◌≡◌, ◌↔◌, ℕ, ◌+◌, ◌-◌, ◌<◌, ◌≤◌, List, Result, Ok, Err, IfOk, inl, inr, sym, ap, subst, ◌∙◌, arith}
use Rattle.std.specs.List.{All, AllPairs}
use Rattle.std.proofs.lemmas.Bool.{cases_lt}
use Rattle.life_model.specs.Evolution.{generation}
use Rattle.life_model.specs.Generation.{Generation, contains}
use Rattle.life_model.specs.Rule.{Rule}
use Rattle.life_objects.specs.Apart.{AreApartForEver, AreDisjoint}
use Rattle.life_objects.specs.Ash.{IsAsh}
use Rattle.life_objects.specs.Onset.{HasAsh, IsAshOnset, IsMadeOf}
use Rattle.life_objects.specs.Union.{generations, union_of}
use Rattle.life_objects.proofs.Beginning.{ash_then}
use Rattle.life_objects.proofs.Lists.{AllPairs-map, AllPairs-weaker}
use Rattle.life_objects.proofs.Times.{disjoint_ever}
use Rattle.life_model.proofs.Recurrences.{generation-zero}
use Rattle.life_objects.proofs.Ashes.{AreApartForEver-later}
use Rattle.life_objects.proofs.Many.{generations-add}
use Rattle.life_orbit.specs.Course.{Course, IsCourse}
use Rattle.life_apart.specs.Onsets.Pasts.{IsCourseBy, pasts, sets_of}
use Rattle.life_apart.specs.Onsets.Since.{AreAllApartSince, AreApartCourses, AreApartFrom}
use Rattle.life_apart.proofs.OnsetsLemmas.Pasts.{pasts_at, pasts_before}

-- what follows from two statements about a result
pub both_ok : {E X : Type 0} {P Q S : X → Type 0} (r : Result X E) → IfOk r P → IfOk r Q → ((x : X) → P x → Q x → S x) →
    IfOk r S
both_ok (Ok x) p q then = then x p q
both_ok (Err e) p q then = tt

module _ (R : Rule) where
  -- what is apart from some generation on is so from each later one on
  from_later : (Ps : List Generation) (s t : ℕ) → s ≤ t → AreApartFrom R Ps s → AreApartFrom R Ps t
  from_later Ps s t le apart =
      let e : s + (t - s) ≡ t = omega arith in
      subst (λ Qs. AllPairs (AreApartForEver R) Qs)
      (generations-add R Ps s (t - s) ∙ ap (generations R Ps) e)
      (AllPairs-map (AreApartForEver R) (λ P. generation R P (t - s)) (generations R Ps s)
      (AllPairs-weaker (AreApartForEver R) (λ P Q. AreApartForEver R (generation R P (t - s)) (generation R Q (t - s)))
      (AreApartForEver-later R (t - s)) (generations R Ps s) apart))

  pub disjoint_now : (Ps : List Generation) → AllPairs (AreApartForEver R) Ps → AllPairs AreDisjoint Ps
  disjoint_now Ps apart =
      AllPairs-weaker (AreApartForEver R) AreDisjoint
      (λ P Q far c in_P in_Q. disjoint_ever R 0 P Q far c
      (ap (λ H. contains H c) (generation-zero R P) ∙ in_P) (ap (λ H. contains H c) (generation-zero R Q) ∙ in_Q))
      Ps apart

  module _ (os : List Course) (rule : All (IsCourseBy R) os) (courses : All IsCourse os) (since age now : ℕ)
      (before : now < age) (apart : AreAllApartSince R (pasts age os) since) where
    here : generations R (pasts age os) now ≡ pasts (age - now) os
    here = pasts_at R os rule courses age now (omega arith)

    pub apart_now : since ≤ now → AllPairs (AreApartForEver R) (pasts (age - now) os)
    apart_now le =
        subst (λ Qs. AllPairs (AreApartForEver R) Qs) here (from_later (pasts age os) since now le apart.apart)

    module _ (b : ℕ) (G : Generation) (ash : IsAsh R b (generation R G age) (sets_of os)) where
      told : HasAsh R b (generation R G now) ↔ IsMadeOf R (generation R G now) (pasts (age - now) os)
      told =
          ash_then R b age now G (pasts (age - now) os) (sets_of os) (omega arith) ash
          (pasts_before R os rule courses (age - now))

      pub too_early : now < since → HasAsh R b (generation R G now) → ⊥
      too_early early has =
          let h : since ≤ now =
          apart.first now (subst (λ Qs. AllPairs (AreApartForEver R) Qs) (sym here) (told.0 has).apart) in
          absurd (omega arith)

      pub together_tells : since ≤ now → HasAsh R b (generation R G now) ↔ (union_of (pasts (age - now) os) ≡ generation R G now)
      together_tells le = (
        λ has. (told.0 has).together,
        λ same. told.1 (record { together = same; apart = apart_now le }),
      )

  pub onset_found : (b t : ℕ) (G : Generation) → HasAsh R b (generation R G t) →
      ((n : ℕ) → n < t → HasAsh R b (generation R G n) → ⊥) → IsAshOnset R b G t
  onset_found b t G has none = record {
    ash = has;
    first = λ n ash.
        elim (cases_lt n t) [
          | inl early ↦ absurd (none n early ash)
          | inr late ↦ late
        ];
  }

  pub parts_of_ash : (b age : ℕ) (G : Generation) (os : List Course) → All (IsCourseBy R) os → All IsCourse os →
      IsAsh R b (generation R G age) (sets_of os) → AreApartCourses R os
  parts_of_ash b age G os rule courses ash = record { rule = rule; courses = courses; apart = ash.apart }
