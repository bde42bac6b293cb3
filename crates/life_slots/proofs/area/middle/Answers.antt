use Rattle.std.proofs.Common.{◌≢◌, ◌<◌, length, get_or-set_other, get_or-set_same, below_more, rules, arith}
use Rattle.life_slots.proofs.area.middle.Goals as goal

pub loop-y-preserved : goal.loop-y-preserved
loop-y-preserved c =
    let room : c.loop-y.y < length c.loop-y.rows = omega arith in
    record {
      room = search rules;
      done =
          below_more _ c.loop-y.y
          (λ y less x small. let apart : y ≢ c.loop-y.y = omega arith in rw get_or-set_other (c.loop-y.invariant.done y less x small))
          (λ x small. rw get_or-set_same (c.middle_of.ensures x small));
    }

pub returns : goal.returns
returns c = λ x y column row. c.loop-y.invariant.done y (omega arith) x column
