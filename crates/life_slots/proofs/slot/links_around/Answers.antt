use Rattle.std.proofs.Common.{◌≡◌, ◌<◌, length, ap, ◌∙◌, rules, arith}
use Rattle.life_plane.proofs.Filling.{filled_more}
use Rattle.life_slots.specs.Slots.{slot_at, neighbour_at}
use Rattle.life_slots.proofs.slot.links_around.Goals as goal

pub loop-direction-preserved : goal.loop-direction-preserved
loop-direction-preserved c =
    let room : c.loop-direction.direction < length c.loop-direction.links = omega arith in
    record {
      nine = search rules;
      done = filled_more (λ m v. v ≡ slot_at c.args.index.now (neighbour_at c.args.place m)) _ _ _ room c.loop-direction.invariant.done
          (c.slot_or_none.ensures ∙ ap (slot_at c.args.index.now) c.neighbour.ensures);
    }

pub returns : goal.returns
returns c = λ m small. c.loop-direction.invariant.done m (omega arith)
