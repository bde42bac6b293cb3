use Rattle.std.proofs.Common.{◌≡◌, ◌+◌, ◌-◌, ◌<◌, None}
use Rattle.std.specs.List.{fold}
use Rattle.life_model.specs.Evolution.{generation}
use Rattle.life_cells.specs.TextOrder.{least_text}
use Rattle.life_answer.specs.Apgcode.{bodies, turned_bodies}
use Rattle.life_codes.specs.Least.{with_text}
use Rattle.life_find.proofs.apgcode.add_phases.Given as goal

-- the least of the phases so far, and that of the first
abbrev pub invariant-loop-n : goal.invariant-loop-n
invariant-loop-n g l =
    let first = g.P.Plane.members l.fn.plane in
    record {
      cells : g.P.Plane.members l.plane ≡ generation l.rule first (l.n - 1);
      age : g.P.Plane.steps_made l.plane + 1 ≡ g.P.Plane.steps_made l.fn.plane + l.n;
      least : l.least ≡ fold with_text None (bodies l.rule first l.n);
      first : 2 < l.period → l.first.items ≡ least_text (turned_bodies first);
    }
