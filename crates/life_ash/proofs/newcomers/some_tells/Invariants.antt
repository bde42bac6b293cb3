use Rattle.std.proofs.Common.{◌≡◌}
use Rattle.std.specs.List.{All}
use Rattle.life_ash.specs.Newcomers.{IsWholeIn}
use Rattle.life_ash.proofs.newcomers.some_tells.Given as goal

-- the sets that are left are not torn, and what is known has its rule and its bound still
abbrev pub invariant-loop : goal.invariant-loop
invariant-loop g l = record {
  whole : All (IsWholeIn l.initial.known.rule l.initial.known.bound (g.P.Plane.members l.plane)) l.sets.items;
  same : l.known ≡ l.initial.known;
}
