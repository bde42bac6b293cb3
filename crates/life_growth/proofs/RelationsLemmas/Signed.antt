-- Numbers with which steps add up to staying are a relation.
use Rattle.std.proofs.Common.{◌≡◌, ℕ, zero, suc, ◌<◌, ◌≤◌, List, [], ◌∷◌, length, map, ℤ, pos, negsuc, ◌+ℤ◌, sym, refl, ap, ◌∙◌, arith}
use Rattle.std.proofs.Math.IntN.{◌*ℤ◌, suc_ℤ-*ℤ, zero-*ℤ}
use Rattle.std.proofs.lemmas.Int.{ints}
use Rattle.life_growth.specs.Meeting.Sums.{Step, and_then, stay, sum_of, times}
use Rattle.life_growth.proofs.MeetingLemmas.Reach.{stay-then, step_is, then-stay}
use Rattle.life_growth.specs.Relations.Relations.{IsRelation, above, below, combination, number_at, scaled}
use Rattle.life_growth.proofs.RelationsLemmas.Crosses.{left_sum}
use Rattle.life_growth.proofs.RelationsLemmas.Numbers.{four}

pub times-scaled : (n : ℕ) (u : Step) → times n u ≡ scaled (pos n) u
times-scaled zero u =
    step_is stay (scaled (pos zero) u) (sym (zero-*ℤ u.0)) (sym (zero-*ℤ u.1.0)) (sym (zero-*ℤ u.1.1))
times-scaled (suc n) u =
    ap (λ v. and_then v u) (times-scaled n u)
    ∙ step_is (and_then (scaled (pos n) u) u) (scaled (pos (suc n)) u) (sym (suc_ℤ-*ℤ (pos n) u.0))
    (sym (suc_ℤ-*ℤ (pos n) u.1.0)) (sym (suc_ℤ-*ℤ (pos n) u.1.1))

undone : (n : ℕ) (x : ℤ) → ((negsuc n *ℤ x) +ℤ (pos (suc n) *ℤ x)) ≡ pos 0
undone n x =
    sym (left_sum (negsuc n) (pos (suc n)) x)
    ∙ ap (λ a. a *ℤ x) (let e : negsuc n +ℤ pos (suc n) ≡ pos 0 = omega (arith, ints) in e) ∙ zero-*ℤ x

one_step : (a : ℤ) (u : Step) → times (above a) u ≡ and_then (scaled a u) (times (below a) u)
one_step (pos n) u = times-scaled n u ∙ sym (then-stay (scaled (pos n) u))
one_step (negsuc n) u =
    step_is stay (and_then (scaled (negsuc n) u) (scaled (pos (suc n)) u)) (sym (undone n u.0)) (sym (undone n u.1.0))
    (sym (undone n u.1.1))
    ∙ ap (and_then (scaled (negsuc n) u)) (sym (times-scaled (suc n) u))

parted : (us : List Step) (numbers : List ℤ) →
    sum_of us (map above numbers) ≡ and_then (combination us numbers) (sum_of us (map below numbers))
parted [] numbers = sym (stay-then stay)
parted (u ∷ us) [] = sym (stay-then stay)
parted (u ∷ us) (a ∷ numbers) =
    (λ i. and_then (one_step a u i) (parted us numbers i))
    ∙ four (scaled a u) (times (below a) u) (combination us numbers) (sum_of us (map below numbers))

one_side : (numbers : List ℤ) (i : ℕ) → 1 ≤ number_at (map above numbers) i → number_at (map below numbers) i ≡ 0
one_side [] i h = refl
one_side (pos n ∷ numbers) zero h = refl
one_side (negsuc n ∷ numbers) zero h = absurd (omega arith)
one_side (a ∷ numbers) (suc i) h = one_side numbers i h

pub is_relation : (us : List Step) (numbers : List ℤ) (i : ℕ) → combination us numbers ≡ stay → i < length us →
    1 ≤ number_at (map above numbers) i → IsRelation us (map above numbers) (map below numbers)
is_relation us numbers i none within some = record {
  same = parted us numbers ∙ ap (λ s. and_then s (sum_of us (map below numbers))) none
      ∙ stay-then (sum_of us (map below numbers));
  place = i;
  within = within;
  some = some;
  apart = one_side numbers;
}
