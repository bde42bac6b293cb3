-- Where a relation between the steps shows how few are to be made.
use mir.Syntax.{w128}
use mir.Val.{of_z, to_z}
use Rattle.std.proofs.Common.{◌≡◌, ℕ, zero, suc, ◌<◌, ◌≤◌, ℤ, pos, List, [], ◌∷◌, map, inl, inr, sym, ap, subst, ◌∙◌, arith}
use Rattle.std.proofs.lemmas.Bool.{cases_lt}
use Rattle.life_model.specs.Generation.{Generation}
use Rattle.life_growth.specs.Meeting.Sums.{Step, times}
use Rattle.life_growth.specs.Relations.Relations.{IsRelation, IsSumOf, above, below, left_out, number_at, step_at}
use Rattle.life_growth.proofs.RelationsLemmas.Relations.{few_numbers, from_few}
use Rattle.life_growth.proofs.RelationsLemmas.Signed.{is_relation}
use Rattle.life_things.specs.Clear.{StaysClear, StaysClearBetween, left_to}
use Rattle.life_things.specs.Lattice.Numbers.{StayBy, number_limit, numbers_of, total_above}
use Rattle.life_things.specs.Lattice.Short.{IsWithin}
use Rattle.life_things.specs.declared.lattice.numbers.Numbers.{Numbers}
use Rattle.life_things.proofs.Going.{rest_is}
use Rattle.life_things.proofs.LatticeLemmas.Within.{read_back}

module _ (P Q : Generation) (s : Step) (us : List Step) (ups downs : List ℕ) (relation : IsRelation us ups downs) where
  -- it is clear where the step in a place is made less often than the relation has it
  abbrev pub ClearAt : ℕ → Type 0
  ClearAt i = StaysClearBetween P Q s (step_at us i) (left_out us i) 0 (number_at ups i)

  pub by_places : ((i : ℕ) → ClearAt i) → StaysClear P Q s us
  by_places each d sum =
      let few = few_numbers us ups downs (left_to s d) relation sum in
      each few.0 few.1 (omega arith) few.2 d
      (subst (IsSumOf (left_out us few.0)) (rest_is s (times few.1 (step_at us few.0)) d) few.3)

  pub to_place : StaysClear P Q s us → (i : ℕ) → ClearAt i
  to_place clear i n late early d sum =
      clear d (from_few us ups downs (left_to s d) relation
      (i, n, early, subst (IsSumOf (left_out us i)) (sym (rest_is s (times n (step_at us i)) d)) sum))

-- ---- by numbers

abbrev ups : Numbers → List ℕ
ups n = map above (numbers_of n)

abbrev downs : Numbers → List ℕ
downs n = map below (numbers_of n)

-- as the machine has it
pub above_is : (x : ℤ) (n : ℕ) → IsWithin number_limit x → n ≡ above (to_z w128 (of_z w128 x)) → n ≡ above x
above_is x n h e = e ∙ ap above (read_back number_limit x (omega arith) h)

-- a place with a number above 0, before place k
abbrev SomePlace : ℕ → Numbers → Type 0
SomePlace k n = (i : ℕ) × (i < k) × (1 ≤ number_at (ups n) i)

none_above : (x : ℤ) → x ≡ pos 0 → above x ≡ 0
none_above x e = ap above e

four_place : (n : Numbers) → 1 ≤ total_above n → SomePlace 4 n
four_place n some =
    elim (cases_lt 0 (above n.first)) [
      | inl first ↦ (0, omega arith, first)
      | inr no_first ↦ elim (cases_lt 0 (above n.second)) [
        | inl second ↦ (1, omega arith, second)
        | inr no_second ↦ elim (cases_lt 0 (above n.third)) [
          | inl third ↦ (2, omega arith, third)
          | inr no_third ↦ (3, omega arith, omega arith)
        ]
      ]
    ]

three_place : (n : Numbers) → 1 ≤ total_above n → n.fourth ≡ pos 0 → SomePlace 3 n
three_place n some fourth =
    let none = none_above n.fourth fourth in
    elim (cases_lt 0 (above n.first)) [
      | inl first ↦ (0, omega arith, first)
      | inr no_first ↦ elim (cases_lt 0 (above n.second)) [
        | inl second ↦ (1, omega arith, second)
        | inr no_second ↦ (2, omega arith, omega arith)
      ]
    ]

two_place : (n : Numbers) → 1 ≤ total_above n → n.third ≡ pos 0 → n.fourth ≡ pos 0 → SomePlace 2 n
two_place n some third fourth =
    let none = none_above n.third third in
    let nor = none_above n.fourth fourth in
    elim (cases_lt 0 (above n.first)) [
      | inl first ↦ (0, omega arith, first)
      | inr no_first ↦ (1, omega arith, omega arith)
    ]

module _ (P Q : Generation) (s : Step) (n : Numbers) (some : 1 ≤ total_above n) where
  -- it is clear where one step is made less often than its number, and then the others
  abbrev pub Below : Step → ℤ → List Step → Type 0
  Below u a us = StaysClearBetween P Q s u us 0 (above a)

  module _ (u v : Step) (stay : StayBy (u ∷ v ∷ []) n) (third : n.third ≡ pos 0) (fourth : n.fourth ≡ pos 0) where
    two_relation : IsRelation (u ∷ v ∷ []) (ups n) (downs n)
    two_relation =
        let at = two_place n some third fourth in is_relation (u ∷ v ∷ []) (numbers_of n) at.0 stay at.1 at.2

    abbrev TwoClear : ℕ → Type 0
    TwoClear = ClearAt P Q s (u ∷ v ∷ []) (ups n) (downs n) two_relation

    two_each : Below u n.first (v ∷ []) → Below v n.second (u ∷ []) → (i : ℕ) → TwoClear i
    two_each one two zero = one
    two_each one two (suc zero) = two
    two_each one two (suc (suc zero)) = λ m late early. let none = none_above n.third third in absurd (omega arith)
    two_each one two (suc (suc (suc zero))) = λ m late early. let none = none_above n.fourth fourth in absurd (omega arith)
    two_each one two (suc (suc (suc (suc i)))) = λ m late early. absurd (omega arith)

    pub two_by : Below u n.first (v ∷ []) → Below v n.second (u ∷ []) → StaysClear P Q s (u ∷ v ∷ [])
    two_by one two = by_places P Q s (u ∷ v ∷ []) (ups n) (downs n) two_relation (two_each one two)

    pub two_first : StaysClear P Q s (u ∷ v ∷ []) → Below u n.first (v ∷ [])
    two_first clear = to_place P Q s (u ∷ v ∷ []) (ups n) (downs n) two_relation clear 0

    pub two_second : StaysClear P Q s (u ∷ v ∷ []) → Below v n.second (u ∷ [])
    two_second clear = to_place P Q s (u ∷ v ∷ []) (ups n) (downs n) two_relation clear 1

  module _ (u v w : Step) (stay : StayBy (u ∷ v ∷ w ∷ []) n) (fourth : n.fourth ≡ pos 0) where
    three_relation : IsRelation (u ∷ v ∷ w ∷ []) (ups n) (downs n)
    three_relation =
        let at = three_place n some fourth in is_relation (u ∷ v ∷ w ∷ []) (numbers_of n) at.0 stay at.1 at.2

    abbrev ThreeClear : ℕ → Type 0
    ThreeClear = ClearAt P Q s (u ∷ v ∷ w ∷ []) (ups n) (downs n) three_relation

    three_each : Below u n.first (v ∷ w ∷ []) → Below v n.second (u ∷ w ∷ []) → Below w n.third (u ∷ v ∷ []) →
        (i : ℕ) → ThreeClear i
    three_each one two three zero = one
    three_each one two three (suc zero) = two
    three_each one two three (suc (suc zero)) = three
    three_each one two three (suc (suc (suc zero))) = λ m late early. let none = none_above n.fourth fourth in absurd (omega arith)
    three_each one two three (suc (suc (suc (suc i)))) = λ m late early. absurd (omega arith)

    pub three_by : Below u n.first (v ∷ w ∷ []) → Below v n.second (u ∷ w ∷ []) → Below w n.third (u ∷ v ∷ []) →
        StaysClear P Q s (u ∷ v ∷ w ∷ [])
    three_by one two three =
        by_places P Q s (u ∷ v ∷ w ∷ []) (ups n) (downs n) three_relation (three_each one two three)

    pub three_first : StaysClear P Q s (u ∷ v ∷ w ∷ []) → Below u n.first (v ∷ w ∷ [])
    three_first clear = to_place P Q s (u ∷ v ∷ w ∷ []) (ups n) (downs n) three_relation clear 0

    pub three_second : StaysClear P Q s (u ∷ v ∷ w ∷ []) → Below v n.second (u ∷ w ∷ [])
    three_second clear = to_place P Q s (u ∷ v ∷ w ∷ []) (ups n) (downs n) three_relation clear 1

    pub three_third : StaysClear P Q s (u ∷ v ∷ w ∷ []) → Below w n.third (u ∷ v ∷ [])
    three_third clear = to_place P Q s (u ∷ v ∷ w ∷ []) (ups n) (downs n) three_relation clear 2

  module _ (u v w z : Step) (stay : StayBy (u ∷ v ∷ w ∷ z ∷ []) n) where
    four_relation : IsRelation (u ∷ v ∷ w ∷ z ∷ []) (ups n) (downs n)
    four_relation =
        let at = four_place n some in is_relation (u ∷ v ∷ w ∷ z ∷ []) (numbers_of n) at.0 stay at.1 at.2

    abbrev FourClear : ℕ → Type 0
    FourClear = ClearAt P Q s (u ∷ v ∷ w ∷ z ∷ []) (ups n) (downs n) four_relation

    four_each : Below u n.first (v ∷ w ∷ z ∷ []) → Below v n.second (u ∷ w ∷ z ∷ []) →
        Below w n.third (u ∷ v ∷ z ∷ []) → Below z n.fourth (u ∷ v ∷ w ∷ []) → (i : ℕ) → FourClear i
    four_each one two three four zero = one
    four_each one two three four (suc zero) = two
    four_each one two three four (suc (suc zero)) = three
    four_each one two three four (suc (suc (suc zero))) = four
    four_each one two three four (suc (suc (suc (suc i)))) = λ m late early. absurd (omega arith)

    pub four_by : Below u n.first (v ∷ w ∷ z ∷ []) → Below v n.second (u ∷ w ∷ z ∷ []) →
        Below w n.third (u ∷ v ∷ z ∷ []) → Below z n.fourth (u ∷ v ∷ w ∷ []) → StaysClear P Q s (u ∷ v ∷ w ∷ z ∷ [])
    four_by one two three four =
        by_places P Q s (u ∷ v ∷ w ∷ z ∷ []) (ups n) (downs n) four_relation (four_each one two three four)

    pub four_first : StaysClear P Q s (u ∷ v ∷ w ∷ z ∷ []) → Below u n.first (v ∷ w ∷ z ∷ [])
    four_first clear = to_place P Q s (u ∷ v ∷ w ∷ z ∷ []) (ups n) (downs n) four_relation clear 0

    pub four_second : StaysClear P Q s (u ∷ v ∷ w ∷ z ∷ []) → Below v n.second (u ∷ w ∷ z ∷ [])
    four_second clear = to_place P Q s (u ∷ v ∷ w ∷ z ∷ []) (ups n) (downs n) four_relation clear 1

    pub four_third : StaysClear P Q s (u ∷ v ∷ w ∷ z ∷ []) → Below w n.third (u ∷ v ∷ z ∷ [])
    four_third clear = to_place P Q s (u ∷ v ∷ w ∷ z ∷ []) (ups n) (downs n) four_relation clear 2

    pub four_fourth : StaysClear P Q s (u ∷ v ∷ w ∷ z ∷ []) → Below z n.fourth (u ∷ v ∷ w ∷ [])
    four_fourth clear = to_place P Q s (u ∷ v ∷ w ∷ z ∷ []) (ups n) (downs n) four_relation clear 3
