use Rattle.std.proofs.Common.{◌≡◌, ◌-◌, ◌<◌, ◌≤◌}
use Rattle.std.specs.Int.{bit_at}
use Rattle.life_model.specs.Rule.{Rule}
use Rattle.life_plane.specs.Logics.{IsLogicOf}
use Rattle.life_slots.specs.Slots.{nine_linked}
use Rattle.life_slots.specs.Work.{IsTileWorkedOut}
use Rattle.life_slots.proofs.stepping.work_out.Given as goal

abbrev pub invariant-loop-index : goal.invariant-loop-index
invariant-loop-index l = record {
  small : l.index ≤ 8;
  marked : l.index < 8 → bit_at l.active.bits l.index ≡ 1;
  worked : (rule : Rule) → IsLogicOf l.logic rule → IsTileWorkedOut (record {
    nine = nine_linked l.current l.links;
    active = l.active;
    rule = rule;
    before = l.initial.tile;
    after = l.tile;
    columns = l.touched.columns;
    done = l.index;
  });
}

abbrev pub decreases-loop-index : goal.decreases-loop-index
decreases-loop-index l = 8 - l.index
