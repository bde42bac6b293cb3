use Rattle.std.proofs.Common.{◌≡◌, ℕ, ◌<◌, false}
use Rattle.life_islands.specs.Seats.{seat}
use Rattle.life_islands.proofs.seating.first_live.Given as goal

abbrev pub invariant-loop-n : goal.invariant-loop-n
invariant-loop-n l = (k : ℕ) → k < l.n → (seat l.seats k).live ≡ false
