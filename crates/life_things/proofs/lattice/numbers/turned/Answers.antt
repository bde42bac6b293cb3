use mir.Syntax.{w128}
use mir.Val.{of_z, to_z}
use Rattle.std.proofs.Common.{◌≡◌, ℤ, pos, neg_ℤ, ◌-ℤ◌, arith}
use Rattle.std.proofs.lemmas.Int.{ints}
use Rattle.life_things.specs.Lattice.Numbers.{number_limit}
use Rattle.life_things.specs.Lattice.Short.{IsWithin}
use Rattle.life_things.proofs.lattice.numbers.turned.Goals as goal

read_turned : (x : ℤ) → IsWithin number_limit x →
    to_z w128 (of_z w128 (pos 0 -ℤ to_z w128 (of_z w128 x))) ≡ neg_ℤ x
read_turned x h = omega (arith, ints)

pub returns : goal.returns
returns c = λ i. record {
  first = read_turned c.args.numbers.first c.requires.first i;
  second = read_turned c.args.numbers.second c.requires.second i;
  third = read_turned c.args.numbers.third c.requires.third i;
  fourth = read_turned c.args.numbers.fourth c.requires.fourth i;
}
