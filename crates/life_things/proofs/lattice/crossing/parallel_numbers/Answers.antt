use mir.Syntax.{w128}
use mir.Val.{of_z, to_z}
use Rattle.std.proofs.Common.{◌≡◌, [], ◌∷◌, ℤ, pos, neg_ℤ, ◌+ℤ◌, ◌-ℤ◌, ◌∙◌, arith}
use Rattle.std.proofs.Math.IntN.{◌*ℤ◌, *ℤ_comm, zero-*ℤ}
use Rattle.std.proofs.lemmas.Int.{ints}
use Rattle.life_growth.specs.Meeting.Sums.{Step, and_then, stay}
use Rattle.life_growth.proofs.MeetingLemmas.Reach.{step_is}
use Rattle.life_growth.specs.Relations.Relations.{combination, product, scaled}
use Rattle.life_things.specs.Lattice.Gauges.{across_gauge, along_gauge}
use Rattle.life_things.specs.Lattice.Numbers.{number_limit}
use Rattle.life_things.specs.Lattice.Short.{IsWithin, way_limit}
use Rattle.life_things.proofs.LatticeLemmas.Lowering.{neg-left}
use Rattle.life_things.proofs.LatticeLemmas.Within.{read_back}
use Rattle.life_things.proofs.lattice.crossing.parallel_numbers.Goals as goal

turned_within : (x : ℤ) → IsWithin way_limit x → IsWithin number_limit (to_z w128 (of_z w128 (pos 0 -ℤ to_z w128 (of_z w128 x))))
turned_within x h = record { low = omega (arith, ints); high = omega (arith, ints) }

turned_is : (x : ℤ) → IsWithin way_limit x → to_z w128 (of_z w128 (pos 0 -ℤ to_z w128 (of_z w128 x))) ≡ neg_ℤ x
turned_is x h = omega (arith, ints)

same_within : (x : ℤ) → IsWithin way_limit x → IsWithin number_limit (to_z w128 (of_z w128 x))
same_within x h = record { low = omega (arith, ints); high = omega (arith, ints) }

none_within : IsWithin number_limit (pos 0)
none_within = record { low = omega (arith, ints); high = omega (arith, ints) }

pub returns-clause-few : goal.returns-clause-few
returns-clause-few c = record {
  first = same_within c.args.last.0 c.requires.last.short.time;
  second = turned_within c.args.step.0 c.requires.step.short.time;
  third = none_within;
  fourth = none_within;
}

-- a product with one gauge
gauged : (t x u v w : ℤ) → ((neg_ℤ x *ℤ u) +ℤ ((t *ℤ v) +ℤ (pos 0 *ℤ w))) ≡ pos 0 → (t *ℤ v) ≡ (u *ℤ x)
gauged t x u v w e =
    let none = zero-*ℤ w in
    let turned = neg-left x u in
    let other = *ℤ_comm x u in
    omega (arith, ints)

gauged_last : (t x u v w : ℤ) → ((neg_ℤ x *ℤ u) +ℤ ((pos 0 *ℤ w) +ℤ (t *ℤ v))) ≡ pos 0 → (t *ℤ v) ≡ (u *ℤ x)
gauged_last t x u v w e =
    let none = zero-*ℤ w in
    let turned = neg-left x u in
    let other = *ℤ_comm x u in
    omega (arith, ints)

cancel : (a b t : ℤ) → a ≡ (t *ℤ b) → (a +ℤ ((neg_ℤ t *ℤ b) +ℤ pos 0)) ≡ pos 0
cancel a b t e =
    let turned = neg-left t b in
    omega (arith, ints)

-- each is made as often as the other takes time, and one of them back
stay_by_times : (u v : Step) → product (across_gauge v) u ≡ pos 0 → product (along_gauge v) u ≡ pos 0 →
    combination (u ∷ v ∷ []) (v.0 ∷ neg_ℤ u.0 ∷ pos 0 ∷ pos 0 ∷ []) ≡ stay
stay_by_times u v across along =
    step_is (and_then (scaled v.0 u) (and_then (scaled (neg_ℤ u.0) v) stay)) stay
    (cancel (v.0 *ℤ u.0) v.0 u.0 (*ℤ_comm v.0 u.0))
    (cancel (v.0 *ℤ u.1.0) v.1.0 u.0 (gauged v.0 v.1.0 u.0 u.1.0 u.1.1 across))
    (cancel (v.0 *ℤ u.1.1) v.1.1 u.0 (gauged_last v.0 v.1.1 u.0 u.1.1 u.1.0 along))

pub returns-clause-stay : goal.returns-clause-stay
returns-clause-stay c =
    (λ i. combination (c.args.step ∷ c.args.last ∷ [])
    (read_back way_limit c.args.last.0 (omega arith) c.requires.last.short.time i
    ∷ turned_is c.args.step.0 c.requires.step.short.time i ∷ pos 0 ∷ pos 0 ∷ []))
    ∙ stay_by_times c.args.step c.args.last c.requires.across c.requires.along
