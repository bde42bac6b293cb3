use Rattle.std.proofs.Common.{◌≤ℤ◌, ◌^◌, sym, subst, arith}
use Rattle.std.proofs.Math.IntN.{◌*ℤ◌}
use Rattle.std.proofs.lemmas.Int.{ints}
use Rattle.life_things.specs.Lattice.Short.{IsWithin}
use Rattle.life_things.proofs.LatticeLemmas.Steady.{keeps_order, turns_order}
use Rattle.life_things.proofs.LatticeLemmas.Within.{product_fits, product_read, within_product}
use Rattle.life_things.proofs.field.most_times.Goals as goal

pub multiplied-requires : goal.multiplied-requires
multiplied-requires c =
    product_fits (2 ^ 28) (2 ^ 34) c.args.factor c.args.first (omega arith) (omega arith) (omega arith)
    c.requires.factor c.requires.first

pub returns-then-factor-lt0-clause-most : goal.returns-then-factor-lt0-clause-most
returns-then-factor-lt0-clause-most c x before after =
    subst (λ z. (c.args.factor *ℤ x) ≤ℤ z)
    (sym (product_read (2 ^ 28) (2 ^ 34) c.args.factor c.args.first (omega arith) (omega arith) (omega arith)
    c.requires.factor c.requires.first
    c.multiplied.result c.multiplied.ensures))
    (turns_order c.args.factor c.args.first x (let b = c.if-factor-lt0.true in omega (arith, ints)) before)

pub returns-then-factor-lt0-clause-within : goal.returns-then-factor-lt0-clause-within
returns-then-factor-lt0-clause-within c =
    subst (IsWithin (2 ^ 62))
    (sym (product_read (2 ^ 28) (2 ^ 34) c.args.factor c.args.first (omega arith) (omega arith) (omega arith)
    c.requires.factor c.requires.first
    c.multiplied.result c.multiplied.ensures))
    (within_product (2 ^ 28) (2 ^ 34) c.args.factor c.args.first c.requires.factor c.requires.first)

pub multiplied-requires-2 : goal.multiplied-requires-2
multiplied-requires-2 c =
    product_fits (2 ^ 28) (2 ^ 34) c.args.factor c.args.last (omega arith) (omega arith) (omega arith)
    c.requires.factor c.requires.last

pub returns-clause-most : goal.returns-clause-most
returns-clause-most c x before after =
    subst (λ z. (c.args.factor *ℤ x) ≤ℤ z)
    (sym (product_read (2 ^ 28) (2 ^ 34) c.args.factor c.args.last (omega arith) (omega arith) (omega arith)
    c.requires.factor c.requires.last
    c.multiplied-2.result c.multiplied-2.ensures))
    (keeps_order c.args.factor x c.args.last (let b = c.if-factor-lt0.false in omega (arith, ints)) after)

pub returns-clause-within : goal.returns-clause-within
returns-clause-within c =
    subst (IsWithin (2 ^ 62))
    (sym (product_read (2 ^ 28) (2 ^ 34) c.args.factor c.args.last (omega arith) (omega arith) (omega arith)
    c.requires.factor c.requires.last
    c.multiplied-2.result c.multiplied-2.ensures))
    (within_product (2 ^ 28) (2 ^ 34) c.args.factor c.args.last c.requires.factor c.requires.last)
