use mir.Syntax.{w128}
use mir.Val.{SFits, of_z, to_z}
use Rattle.std.proofs.Common.{◌≡◌, ℕ, ℤ, pos, ◌+ℤ◌, ◌-ℤ◌, ◌+◌, ◌*◌, ◌^◌, sym, subst, ◌∙◌, arith}
use Rattle.std.proofs.Math.IntN.{◌*ℤ◌}
use Rattle.std.proofs.lemmas.Int.{ints}
use Rattle.life_model.specs.Cell.{Cell}
use Rattle.life_growth.specs.Meeting.Sums.{Step}
use Rattle.life_growth.specs.Relations.Relations.{product}
use Rattle.life_things.specs.Lattice.Numbers.{number_limit}
use Rattle.life_things.specs.Lattice.Short.{IsShort, IsWithin, cross_limit, four_start, two_start, way_limit}
use Rattle.life_things.proofs.LatticeLemmas.Within.{difference_fits, difference_is, read_back, within_product_of, within_wider}
use Rattle.life_things.specs.Fields.{IsInField, IsNarrow}
use Rattle.life_things.specs.declared.field.Field.{Field}
use Rattle.life_things.proofs.tries.are_clear_towards.Goals as goal

-- how long products with the gauge are
abbrev far : ℕ
far = cross_limit * four_start + (cross_limit * four_start + cross_limit * four_start)

abbrev wide : ℕ
wide = cross_limit * 2 ^ 34 + (cross_limit * 2 ^ 34 + cross_limit * 2 ^ 34)

place_short : (f : Field) (d : Cell) → IsNarrow f → IsInField f d → IsShort (2 ^ 34) (pos 0, d)
place_short f d narrow inside = record {
  time = record { low = omega (arith, ints); high = omega (arith, ints) };
  across = (let left = narrow.left in let right = narrow.right in record { low = omega (arith, ints); high = omega (arith, ints) });
  along = (let top = narrow.top in let bottom = narrow.bottom in record { low = omega (arith, ints); high = omega (arith, ints) });
}

small : (g u : Step) (r : ℤ) (n : ℕ) → IsShort cross_limit g → IsShort n u → r ≡ product g u →
    IsWithin (cross_limit * n + (cross_limit * n + cross_limit * n)) r
small g u r n one two e = subst (IsWithin _) (sym e) (within_product_of cross_limit n g u one two)

few : (g u : Step) (r : ℤ) → IsShort cross_limit g → IsShort way_limit u → r ≡ product g u → IsWithin number_limit r
few g u r one two e = within_wider _ number_limit r (omega arith) (small g u r way_limit one two e)

pub product-requires-2 : goal.product-requires-2
product-requires-2 c = record {
  first = cross_limit;
  second = 2 ^ 34;
  one = c.requires.gauge;
  other = place_short c.args.field c.args.place c.requires.field.narrow c.requires.place;
  fits = omega arith;
}

between : (a b x : ℤ) → IsWithin far a → IsWithin wide b → x ≡ a -ℤ b → IsWithin two_start x
between a b x h k e = record { low = omega (arith, ints); high = omega (arith, ints) }

module _ (f : Field) (g s : Step) (d : Cell) (p q : ℤ) (gauge : IsShort cross_limit g) (start : IsShort four_start s)
    (narrow : IsNarrow f) (inside : IsInField f d) (one : p ≡ product g s) (two : q ≡ product g (pos 0, d)) where
  start_small : IsWithin far p
  start_small = small g s p four_start gauge start one

  place_small : IsWithin wide q
  place_small = small g (pos 0, d) q (2 ^ 34) gauge (place_short f d narrow inside) two

  start_fits : SFits w128 (to_z w128 (of_z w128 p) -ℤ to_z w128 (of_z w128 q))
  start_fits = difference_fits far wide p q (omega arith) start_small place_small

  start_is : to_z w128 (of_z w128 (to_z w128 (of_z w128 p) -ℤ to_z w128 (of_z w128 q))) ≡ p -ℤ q
  start_is = difference_is far wide p q (omega arith) start_small place_small

  start_within : IsWithin two_start (to_z w128 (of_z w128 (to_z w128 (of_z w128 p) -ℤ to_z w128 (of_z w128 q))))
  start_within = between p q _ start_small place_small start_is

module _ (g u : Step) (r : ℤ) (gauge : IsShort cross_limit g) (step : IsShort way_limit u) (e : r ≡ product g u) where
  step_is : to_z w128 (of_z w128 r) ≡ product g u
  step_is = read_back number_limit r (omega arith) (few g u r gauge step e) ∙ e

  step_within : IsWithin number_limit (to_z w128 (of_z w128 r))
  step_within =
      subst (IsWithin number_limit) (sym (read_back number_limit r (omega arith) (few g u r gauge step e)))
      (few g u r gauge step e)

pub overflow_sub-start : goal.overflow_sub-start
overflow_sub-start c =
    start_fits c.args.field c.args.gauge c.args.tries.start c.args.place c.product.result c.product-2.result c.requires.gauge
    c.requires.tries.start c.requires.field.narrow c.requires.place c.product.ensures c.product-2.ensures

pub turn_of-requires-clause-start : goal.turn_of-requires-clause-start
turn_of-requires-clause-start c =
    start_within c.args.field c.args.gauge c.args.tries.start c.args.place c.product.result c.product-2.result c.requires.gauge
    c.requires.tries.start c.requires.field.narrow c.requires.place c.product.ensures c.product-2.ensures

pub turn_of-requires-clause-step : goal.turn_of-requires-clause-step
turn_of-requires-clause-step c =
    step_within c.args.gauge c.args.tries.step c.product-3.result c.requires.gauge c.requires.tries.step.short
    c.product-3.ensures

pub turn_of-requires-clause-last : goal.turn_of-requires-clause-last
turn_of-requires-clause-last c =
    step_within c.args.gauge c.args.tries.third c.product-4.result c.requires.gauge c.requires.tries.third.short
    c.product-4.ensures

pub turn_of-requires-clause-later : goal.turn_of-requires-clause-later
turn_of-requires-clause-later c e =
    c.requires.third
    (sym (step_is c.args.gauge c.args.tries.third c.product-4.result c.requires.gauge c.requires.tries.third.short
    c.product-4.ensures) ∙ e)

-- as the machine has it
joined : (n : ℕ) (k a b x y p q z v : ℤ) → a ≡ x -ℤ y → x ≡ p → y ≡ q → b ≡ z →
    (c : ℤ) → c ≡ v → (a +ℤ ((pos n *ℤ b) +ℤ (k *ℤ c))) ≡ ((p -ℤ q) +ℤ ((pos n *ℤ z) +ℤ (k *ℤ v)))
joined n k a b x y p q z v one two three four c five =
    λ i. (one ∙ (λ j. two j -ℤ three j)) i +ℤ ((pos n *ℤ four i) +ℤ (k *ℤ five i))

pub returns-in-None-clause-clear : goal.returns-in-None-clause-clear
returns-in-None-clause-clear c t n k late early e =
    absurd (c.in-None.ensures.none n k
    (joined n k _ _ c.product.result c.product-2.result (product c.args.gauge c.args.tries.start)
    (product c.args.gauge (pos 0, c.args.place)) (product c.args.gauge c.args.tries.step)
    (product c.args.gauge c.args.tries.third)
    (start_is c.args.field c.args.gauge c.args.tries.start c.args.place c.product.result c.product-2.result c.requires.gauge
    c.requires.tries.start c.requires.field.narrow c.requires.place c.product.ensures c.product-2.ensures)
    c.product.ensures c.product-2.ensures
    (step_is c.args.gauge c.args.tries.step c.product-3.result c.requires.gauge c.requires.tries.step.short
    c.product-3.ensures) _
    (step_is c.args.gauge c.args.tries.third c.product-4.result c.requires.gauge c.requires.tries.third.short
    c.product-4.ensures) ∙ e))

pub returns-in-Some-clause-clear : goal.returns-in-Some-clause-clear
returns-in-Some-clause-clear c t n k late early e =
    c.are_clear_in_turn.ensures.0 t n late early
    (c.in-Some.ensures.some n k
    (joined n k _ _ c.product.result c.product-2.result (product c.args.gauge c.args.tries.start)
    (product c.args.gauge (pos 0, c.args.place)) (product c.args.gauge c.args.tries.step)
    (product c.args.gauge c.args.tries.third)
    (start_is c.args.field c.args.gauge c.args.tries.start c.args.place c.product.result c.product-2.result c.requires.gauge
    c.requires.tries.start c.requires.field.narrow c.requires.place c.product.ensures c.product-2.ensures)
    c.product.ensures c.product-2.ensures
    (step_is c.args.gauge c.args.tries.step c.product-3.result c.requires.gauge c.requires.tries.step.short
    c.product-3.ensures) _
    (step_is c.args.gauge c.args.tries.third c.product-4.result c.requires.gauge c.requires.tries.third.short
    c.product-4.ensures) ∙ e))

pub returns-in-Some-clause-all : goal.returns-in-Some-clause-all
returns-in-Some-clause-all c clear = c.are_clear_in_turn.ensures.1 (λ n late early it. clear n late early)
