use Rattle.std.proofs.Common.{◌-◌, ◌≤◌, length}
use Rattle.life_model.specs.Rule.{Rule}
use Rattle.life_plane.specs.Logics.{IsLogicOf}
use Rattle.life_slots.specs.Work.{IsWorkedOut}
use Rattle.life_slots.proofs.stepping.next_tiles_by.Given as goal

abbrev pub invariant-loop-slot : goal.invariant-loop-slot
invariant-loop-slot l = record {
  later : 1 ≤ l.slot;
  worked : (rule : Rule) → IsLogicOf l.logic rule → IsWorkedOut l.slots (record {
    current = l.current;
    active = l.active;
    rule = rule;
    before = l.initial.previous;
    after = l.previous;
    marks_before = l.initial.marks;
    marks_after = l.marks;
    done = l.slot;
  });
}

abbrev pub decreases-loop-slot : goal.decreases-loop-slot
decreases-loop-slot l = length l.slots - l.slot
