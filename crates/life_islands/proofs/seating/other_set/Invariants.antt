use Rattle.std.proofs.Common.{◌≡◌, ℕ, ◌<◌, true}
use Rattle.life_islands.specs.Seats.{seat}
use Rattle.life_islands.proofs.seating.other_set.Given as goal

abbrev pub invariant-loop-n : goal.invariant-loop-n
invariant-loop-n l = (k : ℕ) → k < l.n → (seat l.seats k).live ≡ true → (seat l.seats k).set ≡ l.set
