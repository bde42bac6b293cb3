use Rattle.std.proofs.Common.{◌∙◌}
use Rattle.std.specs.Vec.Iter.{into_iter_items}
use Rattle.life_strays.specs.Strays.{IsTrail}
use Rattle.life_strays.proofs.Trails.{trail_anew}
use Rattle.life_strays.proofs.Yielded.{met_in_order, next_in_order, one_more}
use Rattle.life_strays.proofs.trailing.told_anew.Goals as goal

pub loop-trail-preserved : goal.loop-trail-preserved
loop-trail-preserved c =
    let trail = c.in-Some.trail in
    let at = c.loop-trail.invariant in
    let steps = c.in-Some.ensures.steps.0 in
    let rest = into_iter_items c.next.new.self in
    record {
      order = next_in_order _ c.loop-trail.yielded _ rest trail at.order steps;
      kept = λ R after later n G early all. one_more (IsTrail R later n G) c.loop-trail.anew.items c.push.new.self.items _
          c.in_ok-push.ensures.items (at.kept R after later n G early all)
          (trail_anew R after later n G trail early
          (met_in_order (IsTrail R after n G) c.args.trails.items c.loop-trail.yielded _ rest trail all
          (at.order ∙ c.into_iter-trail-iterator.ensures.into_iter_gives.0) steps));
    }
