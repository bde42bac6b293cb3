use Rattle.std.proofs.Common.{◌∙◌}
use Rattle.std.specs.Vec.Iter.{into_iter_items}
use Rattle.life_strays.specs.Strays.{IsIslandNow, IsTrail}
use Rattle.life_strays.proofs.Trails.{first_trail}
use Rattle.life_strays.proofs.Yielded.{met_in_order, next_in_order, one_more}
use Rattle.life_strays.proofs.trailing.first_trails.Goals as goal

pub loop-island-preserved : goal.loop-island-preserved
loop-island-preserved c =
    let island = c.in-Some.island in
    let at = c.loop-island.invariant in
    let steps = c.in-Some.ensures.steps.0 in
    let rest = into_iter_items c.next.new.self in
    record {
      order = next_in_order _ c.loop-island.yielded _ rest island at.order steps;
      kept = λ R after G all. one_more (IsTrail R after 0 G) c.loop-island.trails.items c.push.new.self.items _
          c.in_ok-push.ensures.items (at.kept R after G all)
          (first_trail R after G island
          (met_in_order (IsIslandNow R G) c.args.islands.items c.loop-island.yielded _ rest island all
          (at.order ∙ c.into_iter-island-iterator.ensures.into_iter_gives.0) steps));
    }
