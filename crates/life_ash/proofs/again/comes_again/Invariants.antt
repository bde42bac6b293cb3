use Rattle.std.proofs.Common.{◌≡◌, ℕ, ◌+◌, ◌≤◌}
use Rattle.life_model.specs.Cell.{Cell}
use Rattle.life_model.specs.Evolution.{generation}
use Rattle.life_model.specs.Recurrence.{RecursBy}
use Rattle.life_ash.proofs.again.comes_again.Given as goal

-- the set has not recurred so far
abbrev pub invariant-loop-taken : goal.invariant-loop-taken
invariant-loop-taken g l = record {
  members : g.P.Plane.members l.later ≡ generation l.rule l.cells l._taken;
  aged : g.P.Plane.steps_made l.later ≡ 4000000 + l._taken;
  new : (n : ℕ) (d : Cell) → n ≤ l._taken → RecursBy l.rule l.cells n d → ⊥;
}
