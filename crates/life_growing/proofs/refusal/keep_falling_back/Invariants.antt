use Rattle.std.proofs.Common.{ℕ, ◌≤◌}
use Rattle.life_growing.specs.Populations.{FallsBack}
use Rattle.life_growing.proofs.refusal.keep_falling_back.Given as goal

abbrev pub invariant-loop-before : goal.invariant-loop-before
invariant-loop-before l = (places : ℕ) → 1 ≤ places → places ≤ l.before → FallsBack l.counts places
