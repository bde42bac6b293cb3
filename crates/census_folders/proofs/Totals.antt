-- Bytes that are counted one text after another.
use Rattle.std.proofs.Common.{◌≡◌, ℕ, ◌+◌, ◌≤◌, Option, Some, None, refl, sym, ap, ◌∙◌, subst, arith}
use Rattle.std.proofs.Math.Nat.{min-le_left, min-le_right}
use Rattle.census_bundle.specs.Sizes.{input_limit}
use Rattle.census_folders.specs.Sums.{Fits, limit_after, most_of}

pub fits_nothing : (left : Option ℕ) → Fits left 0
fits_nothing None = tt
fits_nothing (Some left) = omega arith

pub less_nothing : (left : Option ℕ) → left ≡ limit_after left 0
less_nothing None = refl
less_nothing (Some left) = ap (λ n. Some n) (omega arith)

fits_sum : (before : Option ℕ) (a b : ℕ) → Fits before a → Fits (limit_after before a) b → Fits before (a + b)
fits_sum None a b first second = tt
fits_sum (Some left) a b first second = omega (arith, first, second)

less_sum : (before : Option ℕ) (a b : ℕ) → Fits before a → limit_after (limit_after before a) b ≡ limit_after before (a + b)
less_sum None a b first = refl
less_sum (Some left) a b first = ap (λ n. Some n) (omega (arith, first))

-- one more text
pub fits_more : (before mid : Option ℕ) (a b sum : ℕ) → sum ≡ a + b → mid ≡ limit_after before a → Fits before a → Fits mid b → Fits before sum
fits_more before mid a b sum is rest first second = rw is (fits_sum before a b first (subst (λ l. Fits l b) rest second))

pub less_more : (before mid after : Option ℕ) (a b sum : ℕ) → sum ≡ a + b → mid ≡ limit_after before a → Fits before a → after ≡ limit_after mid b → after ≡ limit_after before sum
less_more before mid after a b sum is rest first second = second ∙ ap (λ l. limit_after l b) rest ∙ less_sum before a b first ∙ ap (limit_after before) (sym is)

-- what is no longer than the next file may be
pub fits_next : (left : Option ℕ) (count : ℕ) → count ≤ most_of left → Fits left count
fits_next None count within = tt
fits_next (Some left) count within = omega (arith, within, min-le_left left input_limit)

pub within_next : (left : Option ℕ) (count : ℕ) → count ≤ most_of left → count ≤ input_limit
within_next None count within = within
within_next (Some left) count within = omega (arith, within, min-le_right left input_limit)
