use Rattle.std.proofs.Common.{◌≡◌, ℕ, ◌<◌, true}
use Rattle.life_islands.specs.Seats.{bears_at, listed}
use Rattle.life_islands.proofs.colours.is_borne_twice.Given as goal

abbrev pub invariant-loop-n : goal.invariant-loop-n
invariant-loop-n l =
    (k : ℕ) → k < l.n → bears_at l.rule l.seats (listed l.colours) k ≡ true → listed l.colours k ≡ listed l.colours l.first
