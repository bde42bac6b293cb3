use Rattle.std.proofs.Common.{◌≡◌, ℕ, ◌+◌, ◌<◌}
use Rattle.life_model.specs.Evolution.{generation}
use Rattle.life_model.proofs.Recurrences.{shape}
use Rattle.life_find.proofs.search.settling_from.Given as goal

-- No generation so far recurs after the period.
abbrev pub invariant-loop-onset : goal.invariant-loop-onset
invariant-loop-onset g l = record {
  here : g.P.Plane.members l.runner ≡ generation l.rule l.cells l.onset;
  there : g.P.Plane.members l.later ≡ generation l.rule l.cells (l.onset + l.period);
  aged : g.P.Plane.steps_made l.runner ≡ l.onset;
  later_aged : g.P.Plane.steps_made l.later ≡ l.onset + l.period;
  none : (h : ℕ) → h < l.onset → shape l.rule l.cells (h + l.period) ≡ shape l.rule l.cells h → ⊥;
}
