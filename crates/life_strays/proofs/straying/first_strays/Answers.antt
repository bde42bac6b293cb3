use Rattle.std.proofs.Common.{sym, subst, ◌∙◌}
use Rattle.std.specs.Vec.Iter.{into_iter_items}
use Rattle.life_strays.specs.Strays.{IsIslandNow, IsStray}
use Rattle.life_strays.proofs.Following.{first_stray, stray_alone}
use Rattle.life_strays.proofs.Yielded.{met_in_order, next_in_order, one_more}
use Rattle.life_strays.proofs.straying.first_strays.Goals as goal

pub loop-island-preserved-in-Continue-1 : goal.loop-island-preserved-in-Continue-1
loop-island-preserved-in-Continue-1 c =
    let island = c.in-Some.island in
    let at = c.loop-island.invariant in
    let steps = c.in-Some.ensures.steps.0 in
    let rest = into_iter_items c.next.new.self in
    record {
      order = next_in_order _ c.loop-island.yielded _ rest island at.order steps;
      kept = λ R b G all. one_more (IsStray R b 0 G) c.loop-island.strays.items c.push.new.self.items _
          c.in_ok-push.ensures.items (at.kept R b G all)
          (first_stray R b G island
          (met_in_order (IsIslandNow R G) c.args.islands.items c.loop-island.yielded _ rest island all
          (at.order ∙ c.into_iter-island-iterator.ensures.into_iter_gives.0) steps));
    }

pub loop-island-preserved : goal.loop-island-preserved
loop-island-preserved c =
    let island = c.in-Some.island in
    let at = c.loop-island.invariant in
    let steps = c.in-Some.ensures.steps.0 in
    let rest = into_iter_items c.next.new.self in
    record {
      order = next_in_order _ c.loop-island.yielded _ rest island at.order steps;
      kept = λ R b G all. one_more (IsStray R b 0 G) c.loop-island.strays.items c.push-else-with_heirs.new.self.items _
          c.in_ok-push-2.ensures.items (at.kept R b G all)
          (subst (λ H. IsStray R b 0 G (record { set = island.first; heirs = H })) (sym c.in_ok-heirs.ensures)
          (stray_alone R b G island
          (met_in_order (IsIslandNow R G) c.args.islands.items c.loop-island.yielded _ rest island all
          (at.order ∙ c.into_iter-island-iterator.ensures.into_iter_gives.0) steps)));
    }
