use Rattle.std.proofs.Common.{◌≡◌, ◌<◌, ◌≤◌, ℕ}
use Rattle.life_model.specs.Evolution.{generation}
use Rattle.life_model.specs.Generation.{Generation}
use Rattle.life_objects.specs.Ash.{IsAsh}
use Rattle.life_objects.specs.Onset.{HasAsh}
use Rattle.life_apart.specs.Onsets.Pasts.{sets_of}
use Rattle.life_apart.proofs.onsets.pattern.onset_between.Given as goal

-- the plane is this generation, and none before it is ash
abbrev pub invariant-loop-now : goal.invariant-loop-now
invariant-loop-now g l = record {
  aged : g.P.Plane.steps_made l.plane ≡ l.now;
  later : l.start ≤ l.now;
  members : (G : Generation) → g.P.Plane.members l.fn.plane ≡ generation l.rule G l.start → g.P.Plane.members l.plane ≡ generation l.rule G l.now;
  none : (b : ℕ) (G : Generation) → g.P.Plane.members l.fn.plane ≡ generation l.rule G l.start →
      IsAsh l.rule b (generation l.rule G l.age) (sets_of l.parts) →
      ((n : ℕ) → n < l.start → HasAsh l.rule b (generation l.rule G n) → ⊥) → (n : ℕ) → n < l.now →
      HasAsh l.rule b (generation l.rule G n) → ⊥;
}
