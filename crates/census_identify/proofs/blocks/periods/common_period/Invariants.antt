use Rattle.std.proofs.Common.{◌≡◌, ℕ, ◌<◌, ◌≤◌, false}
use Rattle.census_identify.specs.Blocks.Periods.{are_back}
use Rattle.census_identify.proofs.blocks.periods.common_period.Given as goal

abbrev pub invariant-loop-generations : goal.invariant-loop-generations
invariant-loop-generations l = (n : ℕ) → 1 ≤ n → n < l.generations → are_back l.parts n ≡ false
