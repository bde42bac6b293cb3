use Rattle.std.proofs.Common.{◌≡◌}
use Rattle.std.specs.List.{All}
use Rattle.life_ash.specs.Parts.{IsFit}
use Rattle.life_ash.proofs.guess.orbits_of.Given as goal

-- the orbits so far are fit, and what is known has its rule and its bound still
abbrev pub invariant-loop-class : goal.invariant-loop-class
invariant-loop-class g l = record {
  fit : All (IsFit l.initial.known.rule l.initial.known.bound) l.orbits.items;
  same : l.known ≡ l.initial.known;
}
