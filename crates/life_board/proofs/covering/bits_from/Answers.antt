use Rattle.std.proofs.Common.{◌≡◌, pos, ◌-ℤ◌, ◌+◌, ◌<◌, ◌≤◌, w32, to_z, of_z, arith}
use Rattle.std.proofs.lemmas.Int.{ints}
use lib.IntN.{nat_abs}
use Rattle.life_board.proofs.Shifts.{down_behind, down_inside, up_before, up_inside}
use Rattle.life_board.proofs.covering.bits_from.Goals as goal

pub returns-then-from-lt64-clause-inside : goal.returns-then-from-lt64-clause-inside
returns-then-from-lt64-clause-inside c = λ j n small wide at.
    let is : nat_abs (to_z w32 (of_z w32 c.args.from)) + j ≡ n = omega (arith, ints) in
    down_inside c.args.word (nat_abs (to_z w32 (of_z w32 c.args.from))) j n is

pub returns-then-from-lt64-clause-behind : goal.returns-then-from-lt64-clause-behind
returns-then-from-lt64-clause-behind c = λ j small past.
    let far : 64 ≤ nat_abs (to_z w32 (of_z w32 c.args.from)) + j = omega (arith, ints) in
    down_behind c.args.word (nat_abs (to_z w32 (of_z w32 c.args.from))) j (omega arith) far

pub returns-then-from-lt0-clause-inside : goal.returns-then-from-lt0-clause-inside
returns-then-from-lt0-clause-inside c = λ j n small wide at.
    let is : nat_abs (to_z w32 (of_z w32 (pos 0 -ℤ to_z w32 (of_z w32 c.args.from)))) + n ≡ j = omega (arith, ints) in
    up_inside c.args.word (nat_abs (to_z w32 (of_z w32 (pos 0 -ℤ to_z w32 (of_z w32 c.args.from))))) j n is small

pub returns-then-from-lt0-clause-before : goal.returns-then-from-lt0-clause-before
returns-then-from-lt0-clause-before c = λ j small past.
    let less : j < nat_abs (to_z w32 (of_z w32 (pos 0 -ℤ to_z w32 (of_z w32 c.args.from)))) = omega (arith, ints) in
    up_before c.args.word (nat_abs (to_z w32 (of_z w32 (pos 0 -ℤ to_z w32 (of_z w32 c.args.from))))) j small less
