use Rattle.std.proofs.Common.{◌∙◌}
use Rattle.std.specs.Vec.Iter.{into_iter_items}
use Rattle.life_strays.specs.Strays.{IsIslandNow}
use Rattle.life_strays.proofs.Yielded.{met_in_order, next_in_order, one_more}
use Rattle.life_strays.proofs.choosing.absent.Goals as goal

pub loop-island-preserved-in-Continue-1 : goal.loop-island-preserved-in-Continue-1
loop-island-preserved-in-Continue-1 g c =
    let island = c.in-Some.island in
    let at = c.loop-island.invariant in
    let steps = c.in-Some.ensures.steps.0 in
    let rest = into_iter_items c.next.new.self in
    record {
      order = next_in_order _ c.loop-island.yielded _ rest island at.order steps;
      kept = at.kept;
      standing = λ R G all before. one_more (IsIslandNow R G) c.loop-island.standing.items c.push.new.self.items island
          c.in_ok-push.ensures.items (at.standing R G all before)
          (met_in_order (IsIslandNow R G) c.args.islands.items c.loop-island.yielded _ rest island all
          (at.order ∙ c.into_iter-island-iterator.ensures.into_iter_gives.0) steps);
    }

pub loop-island-preserved : goal.loop-island-preserved
loop-island-preserved g c =
    let island = c.in-Some.island in
    let at = c.loop-island.invariant in
    let steps = c.in-Some.ensures.steps.0 in
    let rest = into_iter_items c.next.new.self in
    record {
      order = next_in_order _ c.loop-island.yielded _ rest island at.order steps;
      kept = λ R G all. one_more (IsIslandNow R G) c.loop-island.left.items c.push-else-stand.new.self.items island
          c.in_ok-push-2.ensures.items (at.kept R G all)
          (met_in_order (IsIslandNow R G) c.args.islands.items c.loop-island.yielded _ rest island all
          (at.order ∙ c.into_iter-island-iterator.ensures.into_iter_gives.0) steps);
      standing = at.standing;
    }
