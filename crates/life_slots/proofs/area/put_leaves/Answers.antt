use Rattle.std.proofs.Common.{◌≢◌, ◌+◌, ◌<◌, ◌≤◌, inl, inr, ⊎_elim, length, get_or-set_other, get_or-set_same, below_more, rules, arith}
use Rattle.life_slots.proofs.area.put_leaves.Goals as goal

pub loop-y-preserved : goal.loop-y-preserved
loop-y-preserved c =
    let room : c.args.top + c.loop-y.y < length c.loop-y.area.rows = omega arith in
    record {
      room = search rules;
      west =
          below_more _ c.loop-y.y
          (λ y less x small. let apart : c.args.top + y ≢ c.args.top + c.loop-y.y = omega arith in rw get_or-set_other (c.loop-y.invariant.west y less x small))
          (λ x small. rw get_or-set_same (c.joined.ensures.west x small));
      east =
          below_more _ c.loop-y.y
          (λ y less x small. let apart : c.args.top + y ≢ c.args.top + c.loop-y.y = omega arith in rw get_or-set_other (c.loop-y.invariant.east y less x small))
          (λ x small. rw get_or-set_same (c.joined.ensures.east x small));
      others = λ y other.
          ⊎_elim
          (λ (before : y < c.args.top). let apart : y ≢ c.args.top + c.loop-y.y = omega arith in rw get_or-set_other (c.loop-y.invariant.others y (inl before)))
          (λ (behind : c.args.top + (c.loop-y.y + 1) ≤ y). let apart : y ≢ c.args.top + c.loop-y.y = omega arith in rw get_or-set_other (c.loop-y.invariant.others y (inr (omega arith))))
          other;
    }

pub returns-clause-west : goal.returns-clause-west
returns-clause-west c = λ x y column row. c.loop-y.invariant.west y (omega arith) x column

pub returns-clause-east : goal.returns-clause-east
returns-clause-east c = λ x y column row. c.loop-y.invariant.east y (omega arith) x column
