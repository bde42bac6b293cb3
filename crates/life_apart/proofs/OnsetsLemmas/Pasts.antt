-- What sets that recur were some generations ago.
use Rattle.std.proofs.Common.{◌≡◌, ℕ, ◌+◌, ◌-◌, ◌*◌, ◌≤◌, List, [], ◌∷◌, sym, refl, ap, subst, ◌∙◌, arith}
use Rattle.std.specs.List.{All}
use Rattle.std.proofs.lemmas.List.Elements.{All-cons, All-head, All-nil, All-tail}
use Rattle.life_model.specs.Cell.{opposite}
use Rattle.life_model.specs.Evolution.{generation}
use Rattle.life_model.specs.Generation.{Generation}
use Rattle.life_model.specs.Rule.{Rule}
use Rattle.life_model.proofs.Recurrences.{generation-add}
use Rattle.life_objects.specs.Drift.{multiple_of}
use Rattle.life_objects.specs.Onset.{AreBefore, Recurs}
use Rattle.life_objects.specs.Union.{generations}
use Rattle.life_objects.proofs.Beginning.{becomes, one_before}
use Rattle.life_objects.proofs.Recurring.{RecursBy-later, RecursBy-moved}
use Rattle.life_orbit.specs.Course.{Course, IsCourse}
use Rattle.life_orbit.specs.Past.{IsPast}
use Rattle.life_apart.specs.Onsets.Pasts.{IsCourseBy, past_of, pasts, sets_of}

module _ (o : Course) (is : IsCourse o) where
  again : Recurs o.rule o.set
  again = record { steps = o.period; by = o.displacement; recurs = is.recurs }

  pub past_is : (n : ℕ) → IsPast n o (past_of n o)
  past_is n = record {
    recurs = RecursBy-moved o.rule (generation o.rule o.set (n * o.period - n)) o.period o.displacement
        (opposite (multiple_of n o.displacement))
        (RecursBy-later o.rule o.set o.period o.displacement is.recurs (n * o.period - n));
    becomes = becomes o.rule o.set (record { steps = o.period; by = o.displacement; recurs = is.recurs }) n;
  }

  past_recurs : (n : ℕ) → Recurs o.rule (past_of n o)
  past_recurs n = record { steps = o.period; by = o.displacement; recurs = (past_is n).recurs }

  -- what it was, some generations later
  past_at : (age t : ℕ) → t ≤ age → generation o.rule (past_of age o) t ≡ past_of (age - t) o
  past_at age t le =
      one_before o.rule (generation o.rule (past_of age o) t) (past_of (age - t) o) (age - t)
      (record {
        steps = o.period;
        by = o.displacement;
        recurs = RecursBy-later o.rule (past_of age o) o.period o.displacement (past_is age).recurs t;
      })
      (past_recurs (age - t))
      (generation-add o.rule (past_of age o) t (age - t)
      ∙ ap (generation o.rule (past_of age o)) (let e : t + (age - t) ≡ age = omega arith in e)
      ∙ (past_is age).becomes ∙ sym (past_is (age - t)).becomes)

module _ (R : Rule) where
  by_rule : (o : Course) (P : Generation) (n : ℕ) → o.rule ≡ R → generation R P n ≡ generation o.rule P n
  by_rule o P n e = ap (λ S. generation S P n) (sym e)

  pub pasts_at : (os : List Course) → All (IsCourseBy R) os → All IsCourse os → (age t : ℕ) → t ≤ age →
      generations R (pasts age os) t ≡ pasts (age - t) os
  pasts_at [] rule courses age t le = refl
  pasts_at (o ∷ os) rule courses age t le =
      let here : generation R (past_of age o) t ≡ past_of (age - t) o =
      by_rule o (past_of age o) t (All-head (IsCourseBy R) o os rule)
      ∙ past_at o (All-head IsCourse o os courses) age t le in
      λ i. here i ∷ pasts_at os (All-tail (IsCourseBy R) o os rule) (All-tail IsCourse o os courses) age t le i

  pasts_become : (os : List Course) → All (IsCourseBy R) os → All IsCourse os → (n : ℕ) →
      generations R (pasts n os) n ≡ sets_of os
  pasts_become [] rule courses n = refl
  pasts_become (o ∷ os) rule courses n =
      let here : generation R (past_of n o) n ≡ o.set =
      by_rule o (past_of n o) n (All-head (IsCourseBy R) o os rule)
      ∙ (past_is o (All-head IsCourse o os courses) n).becomes in
      λ i. here i ∷ pasts_become os (All-tail (IsCourseBy R) o os rule) (All-tail IsCourse o os courses) n i

  recurs_by : (o : Course) (P : Generation) → o.rule ≡ R → Recurs o.rule P → Recurs R P
  recurs_by o P e r = subst (λ S. Recurs S P) e r

  pasts_recur : (os : List Course) → All (IsCourseBy R) os → All IsCourse os → (n : ℕ) → All (Recurs R) (pasts n os)
  pasts_recur [] rule courses n = All-nil (Recurs R)
  pasts_recur (o ∷ os) rule courses n =
      All-cons (Recurs R) (past_of n o) (pasts n os)
      (recurs_by o (past_of n o) (All-head (IsCourseBy R) o os rule) (past_recurs o (All-head IsCourse o os courses) n))
      (pasts_recur os (All-tail (IsCourseBy R) o os rule) (All-tail IsCourse o os courses) n)

  pub pasts_before : (os : List Course) → All (IsCourseBy R) os → All IsCourse os → (n : ℕ) →
      AreBefore R n (sets_of os) (pasts n os)
  pasts_before os rule courses n = record {
    recur = pasts_recur os rule courses n;
    become = pasts_become os rule courses n;
  }
