use Rattle.std.proofs.Common.{◌≤◌, ◌<◌, ◌+◌, ℕ, pos, arith}
use Rattle.life_cells.proofs.Sorted.{rising_from_adjacent}
use Rattle.life_cells.proofs.order.are_rising.Goals as goal

inside : (k at len : ℕ) → k + 1 < len → len ≤ at → k + 1 < at
inside k at len h end = omega arith

pub returns : goal.returns
returns c _ =
    rising_from_adjacent c.args.cells.now (pos 0, pos 0) (λ k h. c.loop-at.invariant k (pos 0, pos 0) (inside k _ _ h c.loop-at-test.false))
