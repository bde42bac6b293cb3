use Rattle.std.proofs.Common.{◌≡◌}
use Rattle.std.specs.List.{All}
use Rattle.life_ash.specs.Newcomers.{IsWholeIn}
use Rattle.life_ash.proofs.newcomers.newcomers.Given as goal

-- the sets so far are not torn, and what is known has its rule and its bound still
abbrev pub invariant-loop-class : goal.invariant-loop-class
invariant-loop-class g l = record {
  whole : All (IsWholeIn l.initial.known.rule l.initial.known.bound (g.P.Plane.members l.plane)) l.sets.items;
  same : l.known ≡ l.initial.known;
}
