use mir.Syntax.{w128}
use mir.Val.{of_z}
use Rattle.std.proofs.Common.{◌≡◌, ℤ, pos, neg_ℤ, [], ◌∷◌, sym, ap, subst, arith}
use Rattle.std.proofs.lemmas.Int.{ints}
use Rattle.life_growth.specs.Relations.Relations.{spanned}
use Rattle.life_things.specs.Lattice.Numbers.{StayBy, number_limit}
use Rattle.life_things.specs.Lattice.Short.{IsWithin}
use Rattle.life_things.specs.declared.lattice.numbers.Numbers.{Numbers}
use Rattle.life_things.proofs.LatticeLemmas.Planes.{four_stay, with_fourth}
use Rattle.life_things.proofs.lattice.crossing.space_numbers.Goals as goal

none_read : (x : ℤ) → IsWithin number_limit x → of_z w128 x ≡ 0 → x ≡ pos 0
none_read x h e = omega (arith, ints)

neg_none : (x y : ℤ) → y ≡ neg_ℤ x → y ≡ pos 0 → x ≡ pos 0
neg_none x y e f = omega (arith, ints)

pub returns-then-numbers-ne0-clause-stay : goal.returns-then-numbers-ne0-clause-stay
returns-then-numbers-ne0-clause-stay c =
    subst (λ (n : Numbers). StayBy (c.args.first ∷ c.args.second ∷ c.args.third ∷ c.args.fourth ∷ []) n)
    (sym c.four_numbers-numbers.ensures.value) (four_stay c.args.first c.args.second c.args.third c.args.fourth)

pub plane_numbers-requires-clause-plane : goal.plane_numbers-requires-clause-plane
plane_numbers-requires-clause-plane c =
    neg_none (spanned c.args.first c.args.second c.args.third) c.four_numbers-numbers.result.fourth
    (ap (λ (n : Numbers). n.fourth) c.four_numbers-numbers.ensures.value)
    (none_read c.four_numbers-numbers.result.fourth c.four_numbers-numbers.ensures.few.fourth c.if-numbers-ne0.false)

pub returns-clause-stay : goal.returns-clause-stay
returns-clause-stay c =
    with_fourth c.args.first c.args.second c.args.third c.args.fourth c.plane_numbers.result c.plane_numbers.ensures.three
    c.plane_numbers.ensures.stay
