use mir.Syntax.{w128}
use mir.Val.{of_z, to_z}
use Rattle.std.proofs.Common.{◌≡◌, ℤ, ◌≤ℤ◌, ◌+ℤ◌, ◌^◌, pos, sym, subst, arith}
use Rattle.std.proofs.Math.IntN.{◌*ℤ◌, *ℤ-zero}
use Rattle.std.proofs.lemmas.Int.{ints}
use Rattle.life_things.specs.Lattice.Short.{IsWithin}
use Rattle.life_things.proofs.LatticeLemmas.Within.{read_back, sum_is, within_sum}
use Rattle.life_things.proofs.field.most_product.Goals as goal

-- what is ensured, without the machine's turning of numbers into bits and back
as_read : (g l r x a : ℤ) → IsWithin (2 ^ 28) g → IsWithin (2 ^ 34) l → IsWithin (2 ^ 34) r →
    ((y : ℤ) → to_z w128 (of_z w128 l) ≤ℤ y → y ≤ℤ to_z w128 (of_z w128 r) → (to_z w128 (of_z w128 g) *ℤ y) ≤ℤ a) →
    l ≤ℤ x → x ≤ℤ r → (g *ℤ x) ≤ℤ a
as_read g l r x a of_g of_l of_r told before after =
    subst (λ z. (z *ℤ x) ≤ℤ a) (read_back (2 ^ 28) g (omega arith) of_g)
    (told x (subst (λ z. z ≤ℤ x) (sym (read_back (2 ^ 34) l (omega arith) of_l)) before)
    (subst (λ z. x ≤ℤ z) (sym (read_back (2 ^ 34) r (omega arith) of_r)) after))

added : (a b s t x y : ℤ) → s ≡ a +ℤ b → t ≡ pos 0 → x ≤ℤ a → y ≤ℤ b → (t +ℤ (x +ℤ y)) ≤ℤ s
added a b s t x y whole none one two = omega (arith, ints)

pub returns-clause-most : goal.returns-clause-most
returns-clause-most c d inside =
    let whole = sum_is (2 ^ 62) (2 ^ 62) c.most_times-across.result c.most_times-along.result (omega arith)
    c.most_times-across.ensures.within c.most_times-along.ensures.within in
    let across = as_read c.args.gauge.1.0 c.args.field.left c.args.field.right d.0 c.most_times-across.result
    c.requires.gauge.across c.requires.field.left c.requires.field.right c.most_times-across.ensures.most inside.left
    inside.right in
    let along = as_read c.args.gauge.1.1 c.args.field.top c.args.field.bottom d.1 c.most_times-along.result
    c.requires.gauge.along c.requires.field.top c.requires.field.bottom c.most_times-along.ensures.most inside.above
    inside.below in
    let none = *ℤ-zero c.args.gauge.0 in
    added c.most_times-across.result c.most_times-along.result _ (c.args.gauge.0 *ℤ pos 0) (c.args.gauge.1.0 *ℤ d.0) (c.args.gauge.1.1 *ℤ d.1) whole none across along

pub returns-clause-within : goal.returns-clause-within
returns-clause-within c =
    subst (IsWithin (2 ^ 63))
    (sym (sum_is (2 ^ 62) (2 ^ 62) c.most_times-across.result c.most_times-along.result (omega arith)
    c.most_times-across.ensures.within c.most_times-along.ensures.within))
    (within_sum (2 ^ 62) (2 ^ 62) c.most_times-across.result c.most_times-along.result c.most_times-across.ensures.within
    c.most_times-along.ensures.within)
