use mir.Syntax.{w128}
use mir.Val.{of_z}
use Rattle.std.proofs.Common.{◌≡◌, ℤ, pos, neg_ℤ, [], ◌∷◌, sym, ap, subst, ◌∙◌, arith}
use Rattle.std.proofs.lemmas.Int.{ints}
use Rattle.life_growth.specs.Meeting.Sums.{Step}
use Rattle.life_growth.specs.Relations.Relations.{product}
use Rattle.life_things.specs.Lattice.Gauges.{across_gauge}
use Rattle.life_things.specs.Lattice.Numbers.{StayBy}
use Rattle.life_things.specs.Lattice.Short.{AreShort, IsShort, way_limit}
use Rattle.life_things.specs.declared.lattice.numbers.Numbers.{Numbers}
use Rattle.life_things.proofs.LatticeLemmas.Gauging.{across_short, along_short}
use Rattle.life_things.proofs.LatticeLemmas.Planes.{across_spanned, along_spanned, one_across, one_along, plane_stay, some_third, with_third}
use Rattle.life_things.proofs.lattice.crossing.plane_numbers.Goals as goal

gauge_fits : (g u : Step) → IsShort way_limit g → IsShort way_limit u → AreShort g u
gauge_fits g u one two = record { first = way_limit; second = way_limit; one = one; other = two; fits = omega arith }

neg_none : (x : ℤ) → neg_ℤ x ≡ pos 0 → x ≡ pos 0
neg_none x e = omega (arith, ints)

pub product-requires : goal.product-requires
product-requires c =
    gauge_fits c.across_gauge.result c.args.first
    (subst (IsShort way_limit) (sym c.across_gauge.ensures) (across_short way_limit c.args.second c.requires.second.short))
    c.requires.first.short

pub returns-then-product-ne0-clause-some : goal.returns-then-product-ne0-clause-some
returns-then-product-ne0-clause-some c =
    some_third c.four_numbers.result (λ e.
    let third = sym (ap (λ (n : Numbers). n.third) c.four_numbers.ensures.value) ∙ e in
    c.if-product-ne0.true
    (ap (of_z w128)
    (c.product.ensures ∙ ap (λ g. product g c.args.first) c.across_gauge.ensures
    ∙ neg_none (product (across_gauge c.args.second) c.args.first) (sym (across_spanned c.args.first c.args.second) ∙ third))))

pub returns-then-product-ne0-clause-stay : goal.returns-then-product-ne0-clause-stay
returns-then-product-ne0-clause-stay c =
    subst (λ (n : Numbers). StayBy (c.args.first ∷ c.args.second ∷ c.args.third ∷ []) n) (sym c.four_numbers.ensures.value)
    (plane_stay c.args.first c.args.second c.args.third one_along c.requires.plane)

pub product-requires-2 : goal.product-requires-2
product-requires-2 c =
    gauge_fits c.along_gauge.result c.args.first
    (subst (IsShort way_limit) (sym c.along_gauge.ensures) (along_short way_limit c.args.second c.requires.second.short))
    c.requires.first.short

pub returns-then-product-ne0-2-clause-some : goal.returns-then-product-ne0-2-clause-some
returns-then-product-ne0-2-clause-some c =
    some_third c.four_numbers-then-product-ne0-2.result (λ e.
    let third = sym (ap (λ (n : Numbers). n.third) c.four_numbers-then-product-ne0-2.ensures.value) ∙ e in
    c.if-product-ne0-2.true
    (ap (of_z w128)
    (c.product-2.ensures ∙ ap (λ g. product g c.args.first) c.along_gauge.ensures
    ∙ sym (along_spanned c.args.first c.args.second) ∙ third)))

pub returns-then-product-ne0-2-clause-stay : goal.returns-then-product-ne0-2-clause-stay
returns-then-product-ne0-2-clause-stay c =
    subst (λ (n : Numbers). StayBy (c.args.first ∷ c.args.second ∷ c.args.third ∷ []) n) (sym c.four_numbers-then-product-ne0-2.ensures.value)
    (plane_stay c.args.first c.args.second c.args.third one_across c.requires.plane)

pub returns-clause-stay : goal.returns-clause-stay
returns-clause-stay c =
    with_third c.args.first c.args.second c.args.third c.parallel_numbers.result c.parallel_numbers.ensures.two.0
    c.parallel_numbers.ensures.stay
