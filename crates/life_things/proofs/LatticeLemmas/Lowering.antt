-- Fewer numbers with which steps stay.
use Rattle.std.proofs.Common.{◌≡◌, ℕ, zero, suc, ℤ, pos, negsuc, neg_ℤ, ◌+ℤ◌, ◌+◌, ◌*◌, ◌≤◌, List, [], ◌∷◌, map, inl, inr, sym, refl, ap, ◌∙◌, mul-le-mul_left, arith}
use Rattle.std.proofs.Math.IntN.{◌*ℤ◌, *ℤ_comm, *ℤ-zero, zero-*ℤ}
use Rattle.std.proofs.lemmas.Int.{ints}
use Rattle.std.specs.Prelude.{unsigned_abs}
use Rattle.std.specs.Int.{◌∣◌}
use Rattle.std.proofs.lemmas.Bool.{cases_lt}
use Rattle.life_orbit.proofs.Divisors.{some_divisor}
use Rattle.life_growth.specs.Meeting.Sums.{Step, and_then, stay}
use Rattle.life_growth.proofs.MeetingLemmas.Reach.{step_is}
use Rattle.life_growth.specs.Relations.Relations.{above, combination, scaled}
use Rattle.life_growth.proofs.RelationsLemmas.Crosses.{last_two, left_sum}
use Rattle.life_growth.proofs.RelationsLemmas.Products.{spreads}
use Rattle.life_things.specs.Lattice.Numbers.{DividesAll, IsLighter, numbers_of, total_above, turned}
use Rattle.life_things.specs.declared.lattice.numbers.Numbers.{Numbers}

pub regrouped : (f a x : ℤ) → ((f *ℤ a) *ℤ x) ≡ (f *ℤ (a *ℤ x))
regrouped f a x = ap (λ z. z *ℤ x) (*ℤ_comm f a) ∙ last_two a f x ∙ *ℤ_comm (a *ℤ x) f

pub combination-times : (f : ℤ) (us : List Step) (ns : List ℤ) →
    combination us (map (λ a. f *ℤ a) ns) ≡ scaled f (combination us ns)
combination-times f [] ns = step_is stay (scaled f stay) (sym (*ℤ-zero f)) (sym (*ℤ-zero f)) (sym (*ℤ-zero f))
combination-times f (u ∷ us) [] = step_is stay (scaled f stay) (sym (*ℤ-zero f)) (sym (*ℤ-zero f)) (sym (*ℤ-zero f))
combination-times f (u ∷ us) (a ∷ ns) =
    let rest = combination us ns in
    ap (and_then (scaled (f *ℤ a) u)) (combination-times f us ns)
    ∙ step_is (and_then (scaled (f *ℤ a) u) (scaled f rest)) (scaled f (and_then (scaled a u) rest))
    (ap (λ z. z +ℤ (f *ℤ rest.0)) (regrouped f a u.0) ∙ sym (spreads f (a *ℤ u.0) rest.0))
    (ap (λ z. z +ℤ (f *ℤ rest.1.0)) (regrouped f a u.1.0) ∙ sym (spreads f (a *ℤ u.1.0) rest.1.0))
    (ap (λ z. z +ℤ (f *ℤ rest.1.1)) (regrouped f a u.1.1) ∙ sym (spreads f (a *ℤ u.1.1) rest.1.1))

none_of : (g n : ℕ) → 1 ≤ g → g * n ≡ 0 → n ≡ 0
none_of g zero some e = refl
none_of g (suc n) some e =
    let more : g * 1 ≤ g * suc n = mul-le-mul_left g (omega arith) in
    absurd (omega arith)

pub only_none : (g : ℕ) (x : ℤ) → 1 ≤ g → (pos g *ℤ x) ≡ pos 0 → x ≡ pos 0
only_none g (pos n) some e = ap pos (none_of g n some (omega (arith, ints)))
only_none g (negsuc n) some e =
    let none : suc n ≡ 0 = none_of g (suc n) some (omega (arith, ints)) in
    absurd (omega arith)

pub only_stay : (g : ℕ) (u : Step) → 1 ≤ g → scaled (pos g) u ≡ stay → u ≡ stay
only_stay g u some e =
    step_is u stay (only_none g u.0 some (ap (λ (w : Step). w.0) e)) (only_none g u.1.0 some (ap (λ (w : Step). w.1.0) e))
    (only_none g u.1.1 some (ap (λ (w : Step). w.1.1) e))

-- a multiple of other numbers by g
pub record AreTimes (g : ℕ) (few many : Numbers) : Type 0 where
  pub first : many.first ≡ pos g *ℤ few.first
  pub second : many.second ≡ pos g *ℤ few.second
  pub third : many.third ≡ pos g *ℤ few.third
  pub fourth : many.fourth ≡ pos g *ℤ few.fourth

pub lighter_by : (g : ℕ) (few many : Numbers) → 1 ≤ g → AreTimes g few many → IsLighter few many
lighter_by g few many some are = record {
  stays = λ us e. only_stay g (combination us (numbers_of few)) some
      (sym (combination-times (pos g) us (numbers_of few))
      ∙ (λ i. combination us
      (sym are.first i ∷ sym are.second i ∷ sym are.third i ∷ sym are.fourth i ∷ []))
      ∙ e);
  third = λ none. only_none g few.third some (sym are.third ∙ none);
  fourth = λ none. only_none g few.fourth some (sym are.fourth ∙ none);
}

-- ---- opposite signs

pub neg-left : (a x : ℤ) → (neg_ℤ a *ℤ x) ≡ neg_ℤ (a *ℤ x)
neg-left a x =
    let both = left_sum a (neg_ℤ a) x in
    let none : ((a +ℤ neg_ℤ a) *ℤ x) ≡ pos 0 =
    ap (λ z. z *ℤ x) (let e : a +ℤ neg_ℤ a ≡ pos 0 = omega (arith, ints) in e) ∙ zero-*ℤ x in
    omega (arith, ints)

abbrev back : Step → Step
back u = (neg_ℤ u.0, (neg_ℤ u.1.0, neg_ℤ u.1.1))

combination-back : (us : List Step) (ns : List ℤ) → combination us (map neg_ℤ ns) ≡ back (combination us ns)
combination-back [] ns = refl
combination-back (u ∷ us) [] = refl
combination-back (u ∷ us) (a ∷ ns) =
    let first = neg-left a u.0 in
    let second = neg-left a u.1.0 in
    let third = neg-left a u.1.1 in
    ap (and_then (scaled (neg_ℤ a) u)) (combination-back us ns)
    ∙ step_is (and_then (scaled (neg_ℤ a) u) (back (combination us ns))) (back (and_then (scaled a u) (combination us ns)))
    (omega (arith, ints)) (omega (arith, ints)) (omega (arith, ints))

pub lighter_turned : (n : Numbers) → IsLighter (turned n) n
lighter_turned n = record {
  stays = λ us e. combination-back us (numbers_of n) ∙ ap back e;
  third = λ none. ap neg_ℤ none;
  fourth = λ none. ap neg_ℤ none;
}

pub lighter_through : (a b c : Numbers) → IsLighter a b → IsLighter b c → IsLighter a c
lighter_through a b c one two = record {
  stays = λ us e. one.stays us (two.stays us e);
  third = λ none. one.third (two.third none);
  fourth = λ none. one.fourth (two.fourth none);
}

-- ---- what divides them all

pub both_sides : (x : ℤ) → above x + above (neg_ℤ x) ≡ unsigned_abs x
both_sides (pos zero) = refl
both_sides (pos (suc n)) = omega arith
both_sides (negsuc n) = omega arith

some_size : (n : Numbers) → 1 ≤ total_above n + total_above (turned n) →
    1 ≤ unsigned_abs n.first + (unsigned_abs n.second + (unsigned_abs n.third + unsigned_abs n.fourth))
some_size n some =
    let first = both_sides n.first in
    let second = both_sides n.second in
    let third = both_sides n.third in
    let fourth = both_sides n.fourth in
    omega arith

of_four : (g a b c d : ℕ) → g ∣ a → g ∣ b → g ∣ c → g ∣ d → 1 ≤ a + (b + (c + d)) → 1 ≤ g
of_four g a b c d one two three four some =
    elim (cases_lt 0 a) [
      | inl first ↦ some_divisor g a one first
      | inr no_first ↦ elim (cases_lt 0 b) [
        | inl second ↦ some_divisor g b two second
        | inr no_second ↦ elim (cases_lt 0 c) [
          | inl third ↦ some_divisor g c three third
          | inr no_third ↦ some_divisor g d four (omega arith)
        ]
      ]
    ]

pub some_common : (g : ℕ) (n : Numbers) → DividesAll g n → 1 ≤ total_above n + total_above (turned n) → 1 ≤ g
some_common g n divides some =
    of_four g (unsigned_abs n.first) (unsigned_abs n.second) (unsigned_abs n.third) (unsigned_abs n.fourth) divides.first
    divides.second divides.third divides.fourth (some_size n some)
