use Rattle.std.proofs.Common.{◌≡◌, ℕ, ◌<◌, false}
use Rattle.life_islands.specs.Seats.{bears_at, listed}
use Rattle.life_islands.proofs.colours.first_bearing.Given as goal

abbrev pub invariant-loop-n : goal.invariant-loop-n
invariant-loop-n l = (k : ℕ) → k < l.n → bears_at l.rule l.seats (listed l.colours) k ≡ false
