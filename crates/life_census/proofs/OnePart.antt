-- How a pattern recurs that has fallen apart into exactly one part.
use Rattle.std.proofs.Common.{◌≡◌, ℕ, ◌+◌, ◌-◌, ◌*◌, ◌≤◌, Bool, List, [], ◌∷◌, slice_index_or, inl, inr, sym, refl, ap, subst, ◌∙◌, arith}
use Rattle.std.specs.List.{All}
use Rattle.std.proofs.lemmas.List.Elements.{All-head}
use Rattle.life_model.specs.Rule.{Rule}
use Rattle.life_model.specs.Generation.{Generation}
use Rattle.life_model.specs.Evolution.{generation}
use Rattle.life_model.specs.Recurrence.{RecursBy, Recurrence, Settles}
use Rattle.life_model.proofs.Moves.{move_one, nothing_or_some}
use Rattle.life_model.proofs.Recurrences.{generation-add}
use Rattle.life_objects.specs.Ash.{IsAsh, IsObject}
use Rattle.life_objects.specs.Onset.{IsAshOnset}
use Rattle.life_objects.specs.Union.{generations}
use Rattle.life_objects.proofs.Ashes.{IsAsh-later}
use Rattle.life_objects.proofs.Recurring.{RecursBy-later, RecursBy-sooner}
use Rattle.life_objects.proofs.Unions.{union-empty}
use Rattle.life_answer.specs.Answers.{outcome_of}
use Rattle.life_answer.specs.Census.{census_of, fallen_of, unless_one}
use Rattle.life_answer.specs.Parts.{objects_in, single}
use Rattle.life_answer.specs.declared.finding.Outcome.TheVariants.{Ash, Recurs}
use Rattle.life_answer.specs.declared.part.Part.{Part}
use Rattle.life_answer.proofs.OneParts.{found_as_one, one_part, one_recurs, one_reported}
use Rattle.life_apart.specs.Sets.{IsCourseBy, sets_of}
use Rattle.life_orbit.specs.Course.{Course, IsCourse}
use Rattle.life_census.specs.Counted.{AreCounted}

one_set : (R : Rule) (n : ℕ) (os : List Course) (P : Generation) → generations R (sets_of os) n ≡ P ∷ [] →
    (o : Course) × (os ≡ o ∷ [])
one_set R n [] P e = absurd cc
one_set R n (o ∷ []) P e = (o, refl)
one_set R n (o ∷ (other ∷ os)) P e = absurd cc

-- what is counted as one part is one set
pub record IsOne (os : List Course) (parts : List Part) : Type 0 where
  pub course : Course
  pub part : Part
  pub courses : os ≡ course ∷ []
  pub counted : parts ≡ part ∷ []

pub counted_as_one : (near : Bool) (R : Rule) (b : ℕ) (H : Generation) (os : List Course) (parts : List Part) →
    All (IsCourseBy R) os → AreCounted near os parts → IsAsh R b H (sets_of os) → objects_in parts ≡ 1 → IsOne os parts
counted_as_one near R b H os parts of counted ash one =
    let objects = (IsAsh-later R b H (sets_of os) ash 0).objects in
    let told = counted R b 0 of objects in
    let found = one_part R b near (generations R (sets_of os) 0) objects (sym (ap objects_in told) ∙ one) in
    let set = one_set R 0 os found.0 found.1 in
    record { course = set.0; part = single _; courses = set.1; counted = told ∙ found.2 }

-- ---- how it recurs

module _ (R : Rule) (G : Generation) (b age : ℕ) (o : Course) (course : IsCourse o) (of : IsCourseBy R o)
    (ash : IsAsh R b (generation R G age) (o.set ∷ [])) (r : Recurrence) (s : Settles R G (2 * b) r) (early : r.onset ≤ age) where
  abbrev H : Generation
  H = generation R G r.onset

  alone : generation R G age ≡ o.set
  alone = sym ash.together ∙ union-empty o.set

  becomes : generation R H (age - r.onset) ≡ o.set
  becomes =
      generation-add R G r.onset (age - r.onset)
      ∙ ap (generation R G) (let e : r.onset + (age - r.onset) ≡ age = omega arith in e) ∙ alone

  recurs : RecursBy R o.set o.period o.displacement
  recurs = subst (λ S. RecursBy S o.set o.period o.displacement) of course.recurs

  -- the set recurs as the pattern does
  as_pattern : RecursBy R o.set r.period r.displacement
  as_pattern =
      subst (λ K. RecursBy R K r.period r.displacement) becomes
      (RecursBy-later R H r.period r.displacement s.recurs (age - r.onset))

  pub one_period : o.period ≡ r.period
  one_period =
      let no_later = course.least r.period r.displacement
      (subst (λ S. RecursBy S o.set r.period r.displacement) (sym of) as_pattern) in
      let no_sooner = s.least o.period o.displacement
      (RecursBy-sooner R H r.period r.displacement s.recurs (age - r.onset) o.period o.displacement
      (subst (λ K. RecursBy R K o.period o.displacement) (sym becomes) recurs)) in
      omega arith

  pub one_way : o.displacement ≡ r.displacement
  one_way = elim (nothing_or_some o.set) [
    | inl none ↦ absurd ((All-head (IsObject R b) o.set [] ash.objects).nonempty none)
    | inr some ↦
        move_one o.set some.0 o.displacement r.displacement some.1
        (sym recurs.again ∙ ap (generation R o.set) one_period ∙ as_pattern.again)
  ]

pub reported_one : (near : Bool) (R : Rule) (G : Generation) (b age onset : ℕ) (o : Course) (part : Part) → IsCourse o →
    IsCourseBy R o → IsAsh R b (generation R G age) (o.set ∷ []) → IsAshOnset R b G onset → objects_in (part ∷ []) ≡ 1 →
    census_of near R G b ≡ Ash onset (part ∷ []) →
    Recurs onset o.period o.displacement.0 o.displacement.1 part.code ≡ fallen_of near R G b
reported_one near R G b age onset o part course of ash first one found =
    let q = one_recurs near R G b onset (part ∷ []) found one in
    let as_one = q.2 in
    let r = as_one.recurrence in
    let before : onset ≤ age = first.first age (o.set ∷ [], ash) in
    let from = as_one.from_onset in
    let early : r.onset ≤ age = omega arith in
    let same_period = one_period R G b age o course of ash r as_one.settles early in
    let same_way = one_way R G b age o course of ash r as_one.settles early in
    let same_code : part.code ≡ q.0 = (let e = q.1 in cc) in
    (λ i. Recurs onset (same_period i) (same_way i).0 (same_way i).1 (same_code i))
    ∙ sym (found_as_one R G b onset q.0 as_one)
    ∙ sym (one_reported (outcome_of R G (2 * b)) onset (part ∷ []) one)
    ∙ ap (unless_one (outcome_of R G (2 * b))) (sym found)

-- The first of these sets and the first of these parts are the only ones where there is one part.
pub reported_as_one : (near : Bool) (R : Rule) (G : Generation) (b age onset : ℕ) (os : List Course) (parts : List Part)
    (o : Course) (part : Part) → o ≡ slice_index_or os 0 o → part ≡ slice_index_or parts 0 part → All IsCourse os →
    All (IsCourseBy R) os → AreCounted near os parts → IsAsh R b (generation R G age) (sets_of os) → IsAshOnset R b G onset →
    objects_in parts ≡ 1 → census_of near R G b ≡ Ash onset parts →
    Recurs onset o.period o.displacement.0 o.displacement.1 part.code ≡ fallen_of near R G b
reported_as_one near R G b age onset os parts o part first_set first_part courses of counted ash first one found =
    let alone = counted_as_one near R b (generation R G age) os parts of counted ash one in
    let set : os ≡ o ∷ [] =
    alone.courses ∙ ap (λ c. c ∷ []) (sym (first_set ∙ ap (λ cs. slice_index_or cs 0 o) alone.courses)) in
    let told : parts ≡ part ∷ [] =
    alone.counted ∙ ap (λ p. p ∷ []) (sym (first_part ∙ ap (λ ps. slice_index_or ps 0 part) alone.counted)) in
    reported_one near R G b age onset o part (All-head IsCourse o [] (subst (All IsCourse) set courses))
    (All-head (IsCourseBy R) o [] (subst (All (IsCourseBy R)) set of))
    (subst (λ cs. IsAsh R b (generation R G age) (sets_of cs)) set ash) first (subst (λ ps. objects_in ps ≡ 1) told one)
    (found ∙ ap (λ ps. Ash onset ps) told)
