use Rattle.std.proofs.Common.{◌≡◌, ◌<◌, ◌≤◌, ℕ}
use Rattle.life_model.specs.Evolution.{generation}
use Rattle.life_objects.specs.Ash.{IsAsh}
use Rattle.life_objects.specs.Onset.{HasAsh}
use Rattle.life_apart.specs.Onsets.Pasts.{sets_of}
use Rattle.life_apart.proofs.onsets.pattern.onset.Given as goal

-- the plane is this generation, and the copy is an earlier one, before which none is ash
abbrev pub invariant-loop-now : goal.invariant-loop-now
invariant-loop-now g l = record {
  members : g.P.Plane.members l.plane ≡ generation l.rule l.cells l.now;
  aged : g.P.Plane.steps_made l.plane ≡ l.now;
  copied : g.P.Plane.members l.before ≡ generation l.rule l.cells l.start;
  copied_at : g.P.Plane.steps_made l.before ≡ l.start;
  earlier : l.start ≤ l.now;
  none : (b : ℕ) → IsAsh l.rule b (generation l.rule l.cells l.age) (sets_of l.parts) → (n : ℕ) → n < l.start →
      HasAsh l.rule b (generation l.rule l.cells n) → ⊥;
}
