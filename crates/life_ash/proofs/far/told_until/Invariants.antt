use Rattle.std.proofs.Common.{◌≡◌, ◌+◌, ◌*◌, ◌^◌, ◌≤◌}
use Rattle.life_model.specs.Generation.{Generation}
use Rattle.life_ash.specs.Counted.{IsPast}
use Rattle.life_ash.specs.Parts.{ash_age_limit}
use Rattle.life_ash.proofs.far.told_until.Given as goal

-- the plane is a generation past the bound, and those before it are counted
abbrev pub invariant-stretches : goal.invariant-stretches
invariant-stretches g l =
    let R = l.initial.met.rule in
    let b = l.initial.met.bound in
    record {
      past : b ≤ g.P.Plane.steps_made l.plane;
      young : g.P.Plane.steps_made l.plane ≤ ash_age_limit + 1;
      same : l.met ≡ l.initial.met;
      small : l.totals.total ≤ g.P.Plane.steps_made l.plane * 2 ^ 64;
      counted : (G : Generation) →
          IsPast R b G (g.P.Plane.steps_made l.initial.plane) (g.P.Plane.members l.initial.plane) l.initial.totals →
          IsPast R b G (g.P.Plane.steps_made l.plane) (g.P.Plane.members l.plane) l.totals;
    }
