use Rattle.std.proofs.Common.{◌≡◌, ◌+◌, ◌/◌, ◌<◌, ℤ, pos, negsuc, ◌-ℤ◌, ◌≤ℤ◌, T, Fits, w32, FitsSigned, to_z, of_z, ap, subst, ◌∙◌, sym, arith}
use Rattle.std.specs.Prelude.{nat_abs}
use lib.Signed.{non_neg}
use Rattle.std.proofs.lemmas.Int.{ints, to_z-of_z}
use Rattle.life_model.proofs.Cells.{pair}
use Rattle.life_cells.specs.Limits.{coordinate_limit}
use Rattle.life_codes.proofs.lengths.frame.place_in.Goals as goal

casts : (z : ℤ) → pos 0 ≤ℤ z → z ≤ℤ pos 33554432 → T (non_neg z) × Fits w32 (nat_abs z)
casts (pos n) h k = (tt, omega (arith, ints))
casts (negsuc n) h k = absurd (omega (arith, ints))

module _ (x low high : ℤ) (a : negsuc 16777215 ≤ℤ low) (b : high ≤ℤ pos coordinate_limit) (l : low ≤ℤ x) (r : x ≤ℤ high) where
  kept_low : to_z w32 (of_z w32 low) ≡ low
  kept_low = to_z-of_z w32 low (omega (arith, ints))

  kept_place : to_z w32 (of_z w32 x) ≡ x
  kept_place = to_z-of_z w32 x (omega (arith, ints))

  fits : FitsSigned w32 (to_z w32 (of_z w32 x) -ℤ to_z w32 (of_z w32 low))
  fits = let e = kept_low in let f = kept_place in omega (arith, ints)

  -- how far the place is from the low side, as the code finds it
  far : to_z w32 (of_z w32 (to_z w32 (of_z w32 x) -ℤ to_z w32 (of_z w32 low))) ≡ x -ℤ low
  far = to_z-of_z w32 _ fits ∙ (λ i. kept_place i -ℤ kept_low i)

  far_low : (z : ℤ) → z ≡ x -ℤ low → pos 0 ≤ℤ z
  far_low z e = omega (arith, ints)

  far_high : (z : ℤ) → z ≡ x -ℤ low → z ≤ℤ pos 33554432
  far_high z e = omega (arith, ints)

  far_abs : (z : ℤ) → z ≡ x -ℤ low → pos (nat_abs z) ≡ x -ℤ low
  far_abs z e = omega (arith, ints)

  far_within : (z : ℤ) → z ≡ x -ℤ low → nat_abs z < nat_abs (high -ℤ low) + 1
  far_within z e = omega (arith, ints)

  strip_within : (z : ℤ) → z ≡ x -ℤ low → nat_abs z / 5 < (nat_abs (high -ℤ low) + 5) / 5
  strip_within z e = let h = far_within z e in omega arith

pub overflow_cast-column : goal.overflow_cast-column
overflow_cast-column c =
    let f = c.args.frame in
    let is = ap (λ p. p.0) c.turn-x.ensures in
    let l = subst (λ z. f.left ≤ℤ z) (sym is) c.requires.inside.left in
    let r = subst (λ z. z ≤ℤ f.right) (sym is) c.requires.inside.right in
    let e = far c.turn-x.result.0 f.left f.right c.requires.bounded.left c.requires.bounded.right l r in
    casts _ (far_low c.turn-x.result.0 f.left f.right c.requires.bounded.left c.requires.bounded.right l r _ e) (far_high c.turn-x.result.0 f.left f.right c.requires.bounded.left c.requires.bounded.right l r _ e)

pub overflow_sub-row : goal.overflow_sub-row
overflow_sub-row c =
    let f = c.args.frame in
    let is = ap (λ p. p.1) c.turn-x.ensures in
    let l = subst (λ z. f.top ≤ℤ z) (sym is) c.requires.inside.above in
    let r = subst (λ z. z ≤ℤ f.bottom) (sym is) c.requires.inside.below in
    let e = far c.turn-x.result.1 f.top f.bottom c.requires.bounded.top c.requires.bounded.bottom l r in
    fits c.turn-x.result.1 f.top f.bottom c.requires.bounded.top c.requires.bounded.bottom l r

pub overflow_cast-row : goal.overflow_cast-row
overflow_cast-row c =
    let f = c.args.frame in
    let is = ap (λ p. p.1) c.turn-x.ensures in
    let l = subst (λ z. f.top ≤ℤ z) (sym is) c.requires.inside.above in
    let r = subst (λ z. z ≤ℤ f.bottom) (sym is) c.requires.inside.below in
    let e = far c.turn-x.result.1 f.top f.bottom c.requires.bounded.top c.requires.bounded.bottom l r in
    casts _ (far_low c.turn-x.result.1 f.top f.bottom c.requires.bounded.top c.requires.bounded.bottom l r _ e) (far_high c.turn-x.result.1 f.top f.bottom c.requires.bounded.top c.requires.bounded.bottom l r _ e)

pub returns-clause-column : goal.returns-clause-column
returns-clause-column c =
    let f = c.args.frame in
    let is = ap (λ p. p.0) c.turn-x.ensures in
    let l = subst (λ z. f.left ≤ℤ z) (sym is) c.requires.inside.left in
    let r = subst (λ z. z ≤ℤ f.right) (sym is) c.requires.inside.right in
    let e = far c.turn-x.result.0 f.left f.right c.requires.bounded.left c.requires.bounded.right l r in
    far_within c.turn-x.result.0 f.left f.right c.requires.bounded.left c.requires.bounded.right l r _ e

pub returns-clause-strip : goal.returns-clause-strip
returns-clause-strip c =
    let f = c.args.frame in
    let is = ap (λ p. p.1) c.turn-x.ensures in
    let l = subst (λ z. f.top ≤ℤ z) (sym is) c.requires.inside.above in
    let r = subst (λ z. z ≤ℤ f.bottom) (sym is) c.requires.inside.below in
    let e = far c.turn-x.result.1 f.top f.bottom c.requires.bounded.top c.requires.bounded.bottom l r in
    strip_within c.turn-x.result.1 f.top f.bottom c.requires.bounded.top c.requires.bounded.bottom l r _ e

pub returns-clause-place : goal.returns-clause-place
returns-clause-place c =
    let f = c.args.frame in
    let across = ap (λ p. p.0) c.turn-x.ensures in
    let down = ap (λ p. p.1) c.turn-x.ensures in
    let l = subst (λ z. f.left ≤ℤ z) (sym across) c.requires.inside.left in
    let r = subst (λ z. z ≤ℤ f.right) (sym across) c.requires.inside.right in
    let a = subst (λ z. f.top ≤ℤ z) (sym down) c.requires.inside.above in
    let b = subst (λ z. z ≤ℤ f.bottom) (sym down) c.requires.inside.below in
    pair
    (far_abs c.turn-x.result.0 f.left f.right c.requires.bounded.left c.requires.bounded.right l r _ (far c.turn-x.result.0 f.left f.right c.requires.bounded.left c.requires.bounded.right l r)
    ∙ ap (λ z. z -ℤ f.left) across)
    (far_abs c.turn-x.result.1 f.top f.bottom c.requires.bounded.top c.requires.bounded.bottom a b _ (far c.turn-x.result.1 f.top f.bottom c.requires.bounded.top c.requires.bounded.bottom a b)
    ∙ ap (λ z. z -ℤ f.top) down)
