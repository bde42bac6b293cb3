use Rattle.std.proofs.Common.{◌≤◌, length}
use Rattle.life_tracks.proofs.frames.bearers.parting_near.Given as goal

-- the place is one of the list's, or the one just after them
abbrev pub invariant-loop : goal.invariant-loop
invariant-loop l = l.at ≤ length l.all
