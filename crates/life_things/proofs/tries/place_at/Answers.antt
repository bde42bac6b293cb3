use mir.Syntax.{w128}
use mir.Val.{of_z, to_z}
use Rattle.std.proofs.Common.{◌≡◌, ℕ, ℤ, pos, ◌+ℤ◌, ◌≤◌, ◌^◌, arith}
use Rattle.std.proofs.lemmas.Int.{ints}
use Rattle.life_things.specs.Lattice.Short.{IsWithin}
use Rattle.life_things.proofs.tries.place_at.Goals as goal

moved_is : (x : ℤ) (n : ℕ) → IsWithin (2 ^ 34) x → n ≤ 2 ^ 36 →
    to_z w128 (of_z w128 (to_z w128 (of_z w128 x) +ℤ to_z w128 n)) ≡ x +ℤ pos n
moved_is x n h k = omega (arith, ints)

pub returns : goal.returns
returns c = λ i. (
  moved_is c.args.field.left c.args.column c.requires.field.left c.requires.column i,
  moved_is c.args.field.top c.args.row c.requires.field.top c.requires.row i,
)
