-- Generations among which each period has a multiple: the later half of a bound, and those after twice the bound.
use Rattle.std.proofs.Common.{◌≡◌, ℕ, zero, suc, ◌+◌, ◌*◌, ◌/◌, ◌%◌, ◌<◌, ◌≤◌, arith}
use Rattle.std.proofs.Math.Nat.{mod-lt}
use Rattle.std.proofs.lemmas.Nat.{div-add-mod'}

-- a multiple of p after `after`, up to `last`
pub record IsMultipleIn (after last p : ℕ) : Type 0 where
  pub times : ℕ
  pub some : 1 ≤ times
  pub late : after < times * p
  pub within : times * p ≤ last

-- each period up to b has such a multiple
abbrev pub HaveMultiples : ℕ → ℕ → ℕ → Type 0
HaveMultiples b after last = (p : ℕ) → 1 ≤ p → p ≤ b → IsMultipleIn after last p

half_at_least : (b k p r : ℕ) → 1 ≤ p → p ≤ b → k * p + r ≡ b → r < p → IsMultipleIn (b / 2) b p
half_at_least b zero p r some within e less = absurd (omega arith)
half_at_least b (suc k) p r some within e less = record {
  times = suc k;
  some = omega arith;
  late = omega arith;
  within = omega arith;
}

pub late_multiple : (b : ℕ) → HaveMultiples b (b / 2) b
late_multiple b p some within =
    half_at_least b (b / p) p (b % p) some within (div-add-mod' b p) (mod-lt b some)

less_than_bound : (b k p r : ℕ) → 1 ≤ p → p ≤ b → k * p + r ≡ 3 * b → r < p → IsMultipleIn (2 * b) (3 * b) p
less_than_bound b zero p r some within e less = absurd (omega arith)
less_than_bound b (suc k) p r some within e less = record {
  times = suc k;
  some = omega arith;
  late = omega arith;
  within = omega arith;
}

pub later_multiple : (b : ℕ) → HaveMultiples b (2 * b) (3 * b)
later_multiple b p some within =
    less_than_bound b (3 * b / p) p (3 * b % p) some within (div-add-mod' (3 * b) p) (mod-lt (3 * b) some)
