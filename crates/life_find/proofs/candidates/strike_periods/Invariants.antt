use Rattle.std.proofs.Common.{◌≡◌, length}
use Rattle.life_find.specs.Search.{ends_alike, from_first}
use Rattle.life_find.proofs.candidates.strike_periods.Given as goal

-- what was passed over is struck
abbrev pub invariant-left : goal.invariant-left
invariant-left l = from_first (ends_alike l.fingerprints) l.left ≡ from_first (ends_alike l.fingerprints) l.periods

abbrev pub decreases-left : goal.decreases-left
decreases-left l = length l.left
