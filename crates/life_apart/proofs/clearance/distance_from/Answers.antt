use Rattle.std.proofs.Common.{◌≡◌, ℤ, ◌-ℤ◌, w64, to_z, of_z, ◌∙◌, rules, arith}
use Rattle.std.specs.Int.{int_max}
use Rattle.std.proofs.lemmas.Int.{ints, to_z-of_z}
use Rattle.life_apart.proofs.clearance.distance_from.Goals as goal

-- a number after passing through the bits of an i64
abbrev by_bits : ℤ → ℤ
by_bits z = to_z w64 (of_z w64 z)

pub returns : goal.returns
returns c =
    let first = c.from.result in
    let last = c.from-2.result in
    let place = c.from-place.result in
    let before : by_bits (by_bits first -ℤ by_bits place) ≡ (c.args.first -ℤ c.args.place) = omega (arith, ints) in
    let after : by_bits (by_bits place -ℤ by_bits last) ≡ (c.args.place -ℤ c.args.last) = omega (arith, ints) in
    to_z-of_z w64 c.max.result (search rules) ∙ c.max.ensures.value ∙ (λ i. int_max (before i) (after i))
