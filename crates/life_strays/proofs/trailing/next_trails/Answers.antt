use Rattle.std.proofs.Common.{◌+◌, ◌∙◌}
use Rattle.std.specs.Vec.Iter.{into_iter_items}
use Rattle.life_strays.specs.Strays.{IsTrail}
use Rattle.life_strays.proofs.Yielded.{met_in_order, next_in_order, one_more}
use Rattle.life_strays.proofs.trailing.next_trails.Goals as goal

pub loop-trail-preserved : goal.loop-trail-preserved
loop-trail-preserved g c =
    let G = g.P.Plane.members c.args.start.now in
    let after = c.args.after in
    let trail = c.in-Some.trail in
    let at = c.loop-trail.invariant in
    let steps = c.in-Some.ensures.steps.0 in
    let rest = into_iter_items c.next.new.self in
    let more = c.in_ok-next_trail.ensures in
    record {
      order = next_in_order _ c.loop-trail.yielded _ rest trail at.order steps;
      listed = more.listed;
      kept = λ R n is members all. one_more (IsTrail R after (n + 1) G) c.loop-trail.left.items c.push.new.self.items _
          c.in_ok-push.ensures.items (at.kept R n is members all)
          (more.trail R n is members
          (met_in_order (IsTrail R after n G) c.args.trails.items c.loop-trail.yielded _ rest trail all
          (at.order ∙ c.into_iter-trail-iterator.ensures.into_iter_gives.0) steps));
    }
