-- A set that goes on from a start by steps.
use Rattle.std.proofs.Common.{◌≡◌, ℕ, pos, ◌+◌, ◌<◌, ◌≤◌, List, [], ◌∷◌, inl, inr, refl, ap, subst, ◌∙◌, arith}
use Rattle.std.proofs.Math.IntN.{◌*ℤ◌, *ℤ-zero}
use Rattle.std.proofs.lemmas.Bool.{cases_lt}
use Rattle.std.proofs.lemmas.Int.{ints}
use Rattle.life_model.specs.Cell.{Cell}
use Rattle.life_model.specs.Generation.{Generation}
use Rattle.life_growth.specs.Meeting.Sums.{Step, and_then, rest_after, stay, sum_of, times}
use Rattle.life_growth.proofs.MeetingLemmas.Reach.{step_is}
use Rattle.life_growth.proofs.MeetingLemmas.Blocks.{no_numbers}
use Rattle.life_growth.specs.Relations.Relations.{product}
use Rattle.life_growth.proofs.RelationsLemmas.Products.{product-stay, product-then, product-times}
use Rattle.life_things.specs.Fields.{IsFieldOf, IsInField}
use Rattle.life_things.specs.declared.field.Field.{Field}
use Rattle.life_things.specs.Clear.{IsClear, StaysClear, StaysClearBetween, StaysClearOutside, left_to}

-- ---- one step less

-- what is left to go, before a step is made some times and after it
left_before : (s u v : Step) (d : Cell) → v ≡ left_to (and_then s u) d → and_then u v ≡ left_to s d
left_before s u v d e =
    let first = ap (λ (w : Step). w.0) e in
    let second = ap (λ (w : Step). w.1.0) e in
    let third = ap (λ (w : Step). w.1.1) e in
    step_is (and_then u v) (left_to s d) (omega (arith, ints)) (omega (arith, ints)) (omega (arith, ints))

left_after : (s u v : Step) (d : Cell) → and_then u v ≡ left_to s d → v ≡ left_to (and_then s u) d
left_after s u v d e =
    let first = ap (λ (w : Step). w.0) e in
    let second = ap (λ (w : Step). w.1.0) e in
    let third = ap (λ (w : Step). w.1.1) e in
    step_is v (left_to (and_then s u) d) (omega (arith, ints)) (omega (arith, ints)) (omega (arith, ints))

pub rest_is : (s u : Step) (d : Cell) → rest_after (left_to s d) u ≡ left_to (and_then s u) d
rest_is s u d =
    step_is (rest_after (left_to s d) u) (left_to (and_then s u) d) (omega (arith, ints)) (omega (arith, ints))
    (omega (arith, ints))

module _ (P Q : Generation) (s u : Step) (us : List Step) where
  abbrev Here : ℕ → Type 0
  Here n = StaysClear P Q (and_then s (times n u)) us

  pub each_number : StaysClear P Q s (u ∷ us) → (n : ℕ) → Here n
  each_number clear n d sum =
      clear d (n ∷ sum.0, left_before s (times n u) (sum_of us sum.0) d sum.1)

  none_first : (d : Cell) → stay ≡ left_to s d → Here 0 → IsClear P d Q
  none_first d e here =
      here d ([], no_numbers us ∙ left_after s (times 0 u) stay d (step_is (and_then stay stay) stay refl refl refl ∙ e))

  pub by_numbers : ((n : ℕ) → Here n) → StaysClear P Q s (u ∷ us)
  by_numbers each d ([], e) = none_first d e (each 0)
  by_numbers each d (n ∷ often, e) = each n d (often, left_after s (times n u) (sum_of us often) d e)

  module _ (from until : ℕ) where
    -- outside the span it is clear, so what is between decides it
    pub by_span : StaysClearOutside P Q s u us from until → StaysClearBetween P Q s u us from until →
        StaysClear P Q s (u ∷ us)
    by_span outside between =
        by_numbers (λ n.
        elim (cases_lt n from) [
          | inl early ↦ outside.before n early
          | inr late ↦ elim (cases_lt n until) [
            | inl within ↦ between n (omega arith) within
            | inr past ↦ outside.after n (omega arith)
          ]
        ])

    pub to_span : StaysClear P Q s (u ∷ us) → StaysClearBetween P Q s u us from until
    to_span clear n late early = each_number clear n

  pub between_more : (from n : ℕ) → StaysClearBetween P Q s u us from n → Here n →
      StaysClearBetween P Q s u us from (n + 1)
  between_more from n so_far now m late h =
      elim (cases_lt m n) [
        | inl early ↦ so_far m late early
        | inr last ↦ subst Here (let z : n ≡ m = omega arith in z) now
      ]

-- ---- no step

pub at_no_step : (P Q : Generation) (s : Step) → s.0 ≡ pos 0 → IsClear P s.1 Q → StaysClear P Q s []
at_no_step P Q s e clear d sum =
    subst (λ x. IsClear P x Q)
    (let second = ap (λ (w : Step). w.1.0) sum.1 in
    let third = ap (λ (w : Step). w.1.1) sum.1 in
    let one : s.1.0 ≡ d.0 = omega (arith, ints) in
    let two : s.1.1 ≡ d.1 = omega (arith, ints) in
    λ i. (one i, two i)) clear

pub no_step_at : (P Q : Generation) (s : Step) → s.0 ≡ pos 0 → StaysClear P Q s [] → IsClear P s.1 Q
no_step_at P Q s e clear =
    clear s.1 ([], step_is stay (left_to s s.1) (omega (arith, ints)) (omega (arith, ints)) (omega (arith, ints)))

pub at_another_time : (P Q : Generation) (s : Step) → (s.0 ≡ pos 0 → ⊥) → StaysClear P Q s []
at_another_time P Q s other d sum =
    let first = ap (λ (w : Step). w.0) sum.1 in
    absurd (other (omega (arith, ints)))

-- ---- gauges

-- the product with g is 0 of each sum of the steps
abbrev pub IsLevel : Step → List Step → Type 0
IsLevel g us = (often : List ℕ) → product g (sum_of us often) ≡ pos 0

pub level_none : (g : Step) → IsLevel g []
level_none g often = product-stay g

pub level_more : (g u : Step) (us : List Step) → product g u ≡ pos 0 → IsLevel g us → IsLevel g (u ∷ us)
level_more g u us e level [] = product-stay g
level_more g u us e level (n ∷ often) =
    let both = product-then g (times n u) (sum_of us often) in
    let here : product g (times n u) ≡ pos 0 = product-times g u n ∙ ap (λ x. pos n *ℤ x) e ∙ *ℤ-zero (pos n) in
    let rest = level often in
    omega (arith, ints)

pub rest-product : (g s v : Step) (d : Cell) → v ≡ left_to s d → product g v ≡ pos 0 → product g (pos 0, d) ≡ product g s
rest-product g s v d e none =
    let whole : and_then s v ≡ (pos 0, d) =
    (let first = ap (λ (w : Step). w.0) e in
    let second = ap (λ (w : Step). w.1.0) e in
    let third = ap (λ (w : Step). w.1.1) e in
    step_is (and_then s v) (pos 0, d) (omega (arith, ints)) (omega (arith, ints)) (omega (arith, ints))) in
    let both = product-then g s v in
    let same = ap (product g) whole in
    omega (arith, ints)

-- where no place near Q has the same product, none is reached
pub by_gauge : (P Q : Generation) (g s : Step) (us : List Step) → IsLevel g us →
    ((d : Cell) → product g (pos 0, d) ≡ product g s → IsClear P d Q) → StaysClear P Q s us
by_gauge P Q g s us level none d sum =
    none d (rest-product g s (sum_of us sum.0) d sum.1 (level sum.0))

-- numbers outside a span lead to no place of the field
pub outside_by : (P Q : Generation) (f : Field) (g s u : Step) (us : List Step) (from until : ℕ) → IsFieldOf f P Q →
    IsLevel g us →
    ((n : ℕ) (d : Cell) → IsInField f d → product g (pos 0, d) ≡ product g (and_then s (times n u)) →
    (from ≤ n) × (n < until)) →
    StaysClearOutside P Q s u us from until
outside_by P Q f g s u us from until field level tells = record {
  before = λ n early.
      by_gauge P Q g (and_then s (times n u)) us level (λ d same c e in_P in_Q near.
      let told = tells n d (field.holds d c e in_P in_Q near) same in
      let late : from ≤ n = told.0 in
      absurd (omega arith));
  after = λ n past.
      by_gauge P Q g (and_then s (times n u)) us level (λ d same c e in_P in_Q near.
      let told = tells n d (field.holds d c e in_P in_Q near) same in
      let early : n < until = told.1 in
      absurd (omega arith));
}
