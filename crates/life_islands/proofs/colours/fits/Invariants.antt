use Rattle.std.proofs.Common.{◌≡◌, ℕ, ◌<◌, true, get_or}
use Rattle.life_islands.specs.Seats.{Agree, seat}
use Rattle.life_islands.proofs.colours.fits.Given as goal

abbrev pub invariant-loop-m : goal.invariant-loop-m
invariant-loop-m l =
    (k : ℕ) → k < l.m → (seat l.seats k).live ≡ true → (seat l.seats l.at).live ≡ true →
    Agree l.seats k l.at (get_or l.colours k 0) l.colour
