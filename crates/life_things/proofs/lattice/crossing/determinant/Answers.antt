use mir.Syntax.{w128}
use mir.Val.{of_z, to_z}
use Rattle.std.proofs.Common.{◌≡◌, ℕ, ℤ, ◌*◌, sym, subst, ◌∙◌, arith}
use Rattle.std.proofs.Math.IntN.{◌*ℤ◌, ◌-ℤ◌}
use Rattle.std.proofs.lemmas.Int.{ints}
use Rattle.life_things.specs.Lattice.Short.{IsWithin, cross_limit, way_limit}
use Rattle.life_things.proofs.LatticeLemmas.Within.{difference_fits, difference_is, product_fits, product_is, within_product}
use Rattle.life_things.proofs.lattice.crossing.determinant.Goals as goal
use Rattle.life_things.proofs.lattice.crossing.determinant.Goals.{After-multiplied-inner}

abbrev square : ℕ
square = way_limit * way_limit

pub multiplied-outer-requires : goal.multiplied-outer-requires
multiplied-outer-requires c =
    product_fits way_limit way_limit c.args.first c.args.fourth (omega arith) (omega arith) (omega arith) c.requires.first
    c.requires.fourth

pub multiplied-inner-requires : goal.multiplied-inner-requires
multiplied-inner-requires c =
    product_fits way_limit way_limit c.args.second c.args.third (omega arith) (omega arith) (omega arith) c.requires.second
    c.requires.third

outer_is : (c : After-multiplied-inner) → c.multiplied-outer.result ≡ (c.args.first *ℤ c.args.fourth)
outer_is c =
    product_is way_limit way_limit c.args.first c.args.fourth (omega arith) (omega arith) (omega arith) c.requires.first
    c.requires.fourth c.multiplied-outer.result c.multiplied-outer.ensures

inner_is : (c : After-multiplied-inner) → c.multiplied-inner.result ≡ (c.args.second *ℤ c.args.third)
inner_is c =
    product_is way_limit way_limit c.args.second c.args.third (omega arith) (omega arith) (omega arith) c.requires.second
    c.requires.third c.multiplied-inner.result c.multiplied-inner.ensures

outer_within : (c : After-multiplied-inner) → IsWithin square c.multiplied-outer.result
outer_within c =
    subst (IsWithin square) (sym (outer_is c))
    (within_product way_limit way_limit c.args.first c.args.fourth c.requires.first c.requires.fourth)

inner_within : (c : After-multiplied-inner) → IsWithin square c.multiplied-inner.result
inner_within c =
    subst (IsWithin square) (sym (inner_is c))
    (within_product way_limit way_limit c.args.second c.args.third c.requires.second c.requires.third)

pub overflow_sub-result : goal.overflow_sub-result
overflow_sub-result c =
    let d : After-multiplied-inner = (goal.at.overflow_sub-result c).After-multiplied-inner in
    difference_fits square square c.multiplied-outer.result c.multiplied-inner.result (omega arith) (outer_within d)
    (inner_within d)

whole : (c : After-multiplied-inner) →
    to_z w128 (of_z w128 (to_z w128 (of_z w128 c.multiplied-outer.result) -ℤ to_z w128 (of_z w128 c.multiplied-inner.result)))
    ≡ c.multiplied-outer.result -ℤ c.multiplied-inner.result
whole c =
    difference_is square square c.multiplied-outer.result c.multiplied-inner.result (omega arith) (outer_within c)
    (inner_within c)

pub returns-clause-value : goal.returns-clause-value
returns-clause-value c =
    let d : After-multiplied-inner = (goal.at.returns-clause-value c).After-multiplied-inner in
    whole d ∙ (λ i. outer_is d i -ℤ inner_is d i)

few : (a b x : ℤ) → IsWithin square a → IsWithin square b → x ≡ a -ℤ b → IsWithin cross_limit x
few a b x h k e = record { low = omega (arith, ints); high = omega (arith, ints) }

pub returns-clause-few : goal.returns-clause-few
returns-clause-few c =
    let d : After-multiplied-inner = (goal.at.returns-clause-few c).After-multiplied-inner in
    few c.multiplied-outer.result c.multiplied-inner.result _ (outer_within d) (inner_within d) (whole d)
