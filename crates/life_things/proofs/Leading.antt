-- Steps that lead further away along a gauge.
use Rattle.std.proofs.Common.{◌≡◌, ℕ, ℤ, pos, ◌≤ℤ◌, ◌<ℤ◌, List, [], ◌∷◌, Bool, true, false, ap, arith}
use Rattle.std.specs.Bool.{OnTrue}
use Rattle.std.proofs.Math.IntN.{*ℤ-zero}
use Rattle.std.proofs.lemmas.Int.{ints}
use Rattle.life_model.specs.Cell.{Cell}
use Rattle.life_growth.specs.Meeting.Sums.{Step, and_then, sum_of, times}
use Rattle.life_growth.proofs.MeetingLemmas.Reach.{step_is}
use Rattle.life_growth.specs.Relations.Relations.{product}
use Rattle.life_growth.proofs.RelationsLemmas.Products.{product-stay, product-then, product-times}
use Rattle.life_things.specs.Clear.{IsClearOver, left_to}
use Rattle.life_things.specs.Fields.{IsInField}
use Rattle.life_things.specs.Lattice.Gauges.{NoneFalls}
use Rattle.life_things.specs.declared.field.Field.{Field}
use Rattle.life_things.proofs.LatticeLemmas.Steady.{keeps_order}

pub on_true_more : (b : Bool) (F G : Type 0) → (F → G) → OnTrue b F → OnTrue b G
on_true_more true F G more h = more h
on_true_more false F G more h = h

never_back : (g : Step) (us : List Step) (often : List ℕ) → NoneFalls g us → pos 0 ≤ℤ product g (sum_of us often)
never_back g [] often none = let e = product-stay g in omega (arith, ints)
never_back g (u ∷ us) [] none = let e = product-stay g in omega (arith, ints)
never_back g (u ∷ us) (k ∷ often) none =
    let both = product-then g (times k u) (sum_of us often) in
    let here = product-times g u k in
    let first = keeps_order (pos k) (pos 0) (product g u) (omega (arith, ints)) none.0 in
    let start = *ℤ-zero (pos k) in
    let rest = never_back g us often none.1 in
    omega (arith, ints)

pub whole : (s v : Step) (d : Cell) → v ≡ left_to s d → and_then s v ≡ (pos 0, d)
whole s v d e =
    let first = ap (λ (w : Step). w.0) e in
    let second = ap (λ (w : Step). w.1.0) e in
    let third = ap (λ (w : Step). w.1.1) e in
    step_is (and_then s v) (pos 0, d) (omega (arith, ints)) (omega (arith, ints)) (omega (arith, ints))

-- a start that is past the field stays past it
pub clear_past : (f : Field) (g s : Step) (us : List Step) (high : ℤ) → NoneFalls g us →
    ((d : Cell) → IsInField f d → product g (pos 0, d) ≤ℤ high) → high <ℤ product g s → IsClearOver f s us
clear_past f g s us high none most past P Q field d sum c e in_P in_Q near =
    let inside = most d (field.holds d c e in_P in_Q near) in
    let both = product-then g s (sum_of us sum.0) in
    let there = ap (product g) (whole s (sum_of us sum.0) d sum.1) in
    let rest = never_back g us sum.0 none in
    absurd (omega (arith, ints))
