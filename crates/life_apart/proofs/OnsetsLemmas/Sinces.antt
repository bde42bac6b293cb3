-- Since when any two of several sets that recur are apart.
use Rattle.std.proofs.Common.{◌≡◌, ◌⊎◌, ℕ, ◌+◌, ◌-◌, ◌*◌, ◌<◌, ◌≤◌, List, length, get_or, Bool, true, false, inl, inr}
use Rattle.std.proofs.Common.{sym, refl, ap, subst, ◌∙◌, true≢false, arith}
use Rattle.std.proofs.lemmas.Bool.{cases_lt}
use Rattle.std.proofs.lemmas.List.{get_or_read}
use Rattle.life_model.specs.Cell.{Cell, origin, same_cell}
use Rattle.life_model.specs.Evolution.{generation}
use Rattle.life_model.specs.Generation.{Generation}
use Rattle.life_model.specs.Rule.{Rule}
use Rattle.life_model.proofs.Cells.{same_cell-is}
use Rattle.life_model.proofs.Recurrences.{generation-add}
use Rattle.life_objects.specs.Apart.{AreApartForEver}
use Rattle.life_objects.proofs.Ashes.{AreApartForEver-later}
use Rattle.life_objects.proofs.Lists.{AllPairs-map, AllPairs-unmap}
use Rattle.life_objects.proofs.Times.{AreApartForEver-swap}
use Rattle.life_orbit.specs.Course.{Course, IsCourse}
use Rattle.life_orbit.specs.Past.{AreApartSince, IsPast}
use Rattle.life_orbit.proofs.Backwards.{apart_at_one_velocity, pasts_of}
use Rattle.life_orbit.proofs.Clearances.{still}
use Rattle.life_apart.specs.Onsets.Pasts.{past_of, pasts}
use Rattle.life_apart.specs.Onsets.Since.{AreAllApartSince, AreApartCourses, AreApartFrom, ArePlacesApartFrom, IsMoverApartFrom}
use Rattle.life_apart.specs.Onsets.Since.{IsNeeded}
use Rattle.life_apart.proofs.OnsetsLemmas.Pasts.{past_is}

module _ (R : Rule) (os : List Course) (are : AreApartCourses R os) where
  -- two sets in different places stay apart for ever
  pub pair_ever : (i j : ℕ) (e : Course) → i < length os → j < length os → (i ≡ j → ⊥) →
      AreApartForEver R (get_or os i e).set (get_or os j e).set
  pair_ever i j e within other differ =
      let each = AllPairs-unmap (AreApartForEver R) (λ o. o.set) os are.apart in
      elim (cases_lt i j) [
        | inl before ↦ each i j e before other
        | inr more ↦ elim (cases_lt j i) [
          | inl after ↦ AreApartForEver-swap R (get_or os j e).set (get_or os i e).set (each j i e after within)
          | inr most ↦ absurd (differ (let z : i ≡ j = omega arith in z))
        ]
      ]

  module _ (age : ℕ) where
    -- if any two sets are apart from generation n on, so are those in two places
    pub places_from : (n : ℕ) → AreApartFrom R (pasts age os) n → (i j : ℕ) (e : Course) → i < length os → j < length os →
        (i ≡ j → ⊥) →
        AreApartForEver R (generation R (past_of age (get_or os i e)) n) (generation R (past_of age (get_or os j e)) n)
    places_from n apart i j e within other differ =
        let each = AllPairs-unmap
        (λ P Q. AreApartForEver R (generation R P n) (generation R Q n)) (past_of age) os
        (AllPairs-unmap (AreApartForEver R) (λ P. generation R P n) (pasts age os) apart) in
        elim (cases_lt i j) [
          | inl before ↦ each i j e before other
          | inr more ↦ elim (cases_lt j i) [
            | inl after ↦ AreApartForEver-swap R (generation R (past_of age (get_or os j e)) n)
                (generation R (past_of age (get_or os i e)) n) (each j i e after within)
            | inr most ↦ absurd (differ (let z : i ≡ j = omega arith in z))
          ]
        ]

    -- what is apart from some generation on is so from each later one on
    pub apart_later : (P Q : Generation) (s t : ℕ) → s ≤ t → AreApartForEver R (generation R P s) (generation R Q s) →
        AreApartForEver R (generation R P t) (generation R Q t)
    apart_later P Q s t le apart =
        let e : s + (t - s) ≡ t = omega arith in
        subst (λ H. AreApartForEver R H (generation R Q t)) (generation-add R P s (t - s) ∙ ap (generation R P) e)
        (subst (AreApartForEver R (generation R (generation R P s) (t - s)))
        (generation-add R Q s (t - s) ∙ ap (generation R Q) e)
        (AreApartForEver-later R (t - s) (generation R P s) (generation R Q s) apart))

    pub places_later : (s t i j : ℕ) → s ≤ t → ArePlacesApartFrom R age os s i j → ArePlacesApartFrom R age os t i j
    places_later s t i j le places =
        elim places [
          | inl same ↦ inl same
          | inr apart ↦ inr (λ e.
              apart_later (past_of age (get_or os i e)) (past_of age (get_or os j e)) s t le (apart e))
        ]

    -- ---- two sets that stay where they are

    both_rest : (o w : Course) → o.rule ≡ R → w.rule ≡ R → IsCourse o → IsCourse w → o.displacement ≡ origin →
        w.displacement ≡ origin → AreApartForEver R o.set w.set → AreApartForEver R (past_of age o) (past_of age w)
    both_rest o w rule other_rule is_o is_w rests other_rests apart =
        subst (λ S. AreApartForEver S (past_of age o) (past_of age w)) rule
        (apart_at_one_velocity o.rule o.set w.set (past_of age o) (past_of age w) o.period w.period w.period o.period
        o.displacement w.displacement age
        (pasts_of o w (past_of age o) (past_of age w) o.period w.period w.period o.period o.displacement w.displacement age
        (rule ∙ sym other_rule) refl refl refl refl is_o is_w (let z : w.period * o.period ≡ o.period * w.period = omega arith in z)
        is_w.recurs.later is_o.recurs.later (past_is o is_o age) (past_is w is_w age))
        (still w.period o.displacement rests ∙ sym (still o.period w.displacement other_rests))
        (subst (λ S. AreApartForEver S o.set w.set) (sym rule) apart))

    rests_or_moves : (d : Cell) → (d ≡ origin) ⊎ (d ≡ origin → ⊥)
    rests_or_moves d =
        let by : (t : Bool) → same_cell d origin ≡ t → (d ≡ origin) ⊎ (d ≡ origin → ⊥) = elim [
          | true ↦ λ e. inl ((same_cell-is d origin).0 e)
          | false ↦ λ e. inr (λ same. true≢false (sym ((same_cell-is d origin).1 same) ∙ e))
        ] in
        by (same_cell d origin) refl

    module _ (t : ℕ) (movers : (i : ℕ) → i < length os → IsMoverApartFrom R age os t i) where
      module _ (i j : ℕ) (e : Course) (before : i < j) (within : j < length os) where
        abbrev one : Course
        one = get_or os i e

        abbrev other : Course
        other = get_or os j e

        differ : i ≡ j → ⊥
        differ same = absurd (omega arith)

        straight : ArePlacesApartFrom R age os t i j →
            AreApartForEver R (generation R (past_of age one) t) (generation R (past_of age other) t)
        straight places = elim places [
          | inl same ↦ absurd (differ same)
          | inr apart ↦ apart e
        ]

        swapped : ArePlacesApartFrom R age os t j i →
            AreApartForEver R (generation R (past_of age one) t) (generation R (past_of age other) t)
        swapped places = elim places [
          | inl same ↦ absurd (differ (sym same))
          | inr apart ↦ AreApartForEver-swap R (generation R (past_of age other) t) (generation R (past_of age one) t) (apart e)
        ]

        pair_from : AreApartForEver R (generation R (past_of age one) t) (generation R (past_of age other) t)
        pair_from =
            elim (rests_or_moves one.displacement) [
              | inr moves ↦ straight (movers i (omega arith) e moves j within)
              | inl rests ↦ elim (rests_or_moves other.displacement) [
                | inr moves ↦ swapped (movers j within e moves i (omega arith))
                | inl other_rests ↦ AreApartForEver-later R t (past_of age one) (past_of age other)
                    (both_rest one other (are.rule i e (omega arith)) (are.rule j e within)
                    (are.courses i e (omega arith)) (are.courses j e within) rests other_rests
                    (pair_ever i j e (omega arith) within differ))
              ]
            ]

      pub all_from : AreApartFrom R (pasts age os) t
      all_from =
          AllPairs-map (AreApartForEver R) (λ P. generation R P t) (pasts age os)
          (AllPairs-map (λ P Q. AreApartForEver R (generation R P t) (generation R Q t)) (past_of age) os
          (λ i j e before within. pair_from i j e before within))

    pub all_since : (t : ℕ) → ((i : ℕ) → i < length os → IsMoverApartFrom R age os t i) → IsNeeded R age os t →
        AreAllApartSince R (pasts age os) t
    all_since t movers needed = record { apart = all_from t movers; first = needed }

-- what is read in two places
module _ (R : Rule) (os : List Course) (are : AreApartCourses R os) (i j : ℕ) (within : i < length os) (inside : j < length os)
    (differ : i ≡ j → ⊥) (one other : Course) (first : one ≡ get_or os i one) (second : other ≡ get_or os j other) where
  here : (e : Course) → one ≡ get_or os i e
  here = get_or_read os i one within first

  there : (e : Course) → other ≡ get_or os j e
  there = get_or_read os j other inside second

  rule_of : one.rule ≡ R
  rule_of = ap (λ (o : Course). o.rule) first ∙ are.rule i one within

  pub read_ever : AreApartForEver one.rule one.set other.set
  read_ever =
      subst (λ S. AreApartForEver S one.set other.set) (sym rule_of)
      (subst (λ (o : Course). AreApartForEver R o.set other.set) (sym (here one))
      (subst (λ (o : Course). AreApartForEver R (get_or os i one).set o.set) (sym (there one))
      (pair_ever R os are i j one within inside differ)))

  module _ (age t : ℕ)
      (told : (P Q : Generation) → IsPast age one P → IsPast age other Q → AreApartSince one.rule P Q t) where
    since : AreApartSince R (past_of age one) (past_of age other) t
    since =
        subst (λ S. AreApartSince S (past_of age one) (past_of age other) t) rule_of
        (told (past_of age one) (past_of age other)
        (past_is one (subst IsCourse (sym first) (are.courses i one within)) age)
        (past_is other (subst IsCourse (sym second) (are.courses j other inside)) age))

    pub read_apart : ArePlacesApartFrom R age os t i j
    read_apart =
        inr (λ e. subst (λ (o : Course). AreApartForEver R (generation R (past_of age o) t)
        (generation R (past_of age (get_or os j e)) t)) (here e)
        (subst (λ (o : Course). AreApartForEver R (generation R (past_of age one) t) (generation R (past_of age o) t)) (there e)
        since.apart))

    pub read_needed : IsNeeded R age os t
    read_needed n apart =
        since.first n
        (subst (λ (o : Course). AreApartForEver R (generation R (past_of age o) n) (generation R (past_of age other) n))
        (sym (here one))
        (subst (λ (o : Course). AreApartForEver R (generation R (past_of age (get_or os i one)) n)
        (generation R (past_of age o) n)) (sym (there one))
        (places_from R os are age n apart i j one within inside differ)))
