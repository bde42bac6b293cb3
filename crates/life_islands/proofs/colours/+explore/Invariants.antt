use Rattle.std.proofs.Common.{ℕ, ◌<◌, ◌-◌}
use Rattle.life_islands.specs.Seats.{AreTried, BeginWith, IsSound}
use Rattle.life_islands.proofs.colours.+explore.Given as goal

abbrev pub decreases-explore : goal.decreases-explore
decreases-explore l = 8 - l.at

abbrev pub invariant-loop-colour : goal.invariant-loop-colour
invariant-loop-colour l =
    (colour : ℕ → ℕ) → AreTried l.seats colour → BeginWith l.colours l.at colour → colour l.at < l.colour →
    IsSound l.rule l.seats l.is_born l.bearer colour
