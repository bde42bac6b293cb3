use Rattle.std.proofs.Common.{ap, sym, ◌∙◌, true≢false}
use Rattle.std.specs.Vec.Iter.{into_iter_items}
use Rattle.life_model.specs.Generation.{cells}
use Rattle.life_classes.proofs.Later.{tracked_at_first}
use Rattle.life_strays.specs.Strays.{IsIslandNow}
use Rattle.life_strays.proofs.Following.{class_island}
use Rattle.life_strays.proofs.Yielded.{next_in_order, one_more, one_of_all}
use Rattle.life_strays.proofs.islands.islands_of.Goals as goal

pub loop-class-preserved-in-Continue-branch-3 : goal.loop-class-preserved-in-Continue-branch-3
loop-class-preserved-in-Continue-branch-3 g c =
    let R = c.args.rule.now in
    let G = g.P.Plane.members c.args.plane.now in
    let all = c.in_ok-classes.classes.items in
    let class = c.in-Some.class in
    let at = c.loop-class.invariant in
    let steps = c.in-Some.ensures.steps.0 in
    let rest = into_iter_items c.next.new.self in
    record {
      order = next_in_order _ c.loop-class.yielded _ rest class at.order steps;
      kept = one_more (IsIslandNow R G) c.loop-class.islands.items c.push.new.self.items class c.in_ok-push.ensures.items
          at.kept
          (class_island R G all class
          (tracked_at_first R 0 G c.as_slice.result.now all (c.as_slice.ensures.cells ∙ ap cells c.in_ok-cells.ensures.cells)
          c.in_ok-classes.ensures.tracked)
          (one_of_all all c.loop-class.yielded _ rest class
          (at.order ∙ c.into_iter-class-iterator.ensures.into_iter_gives.0) steps)
          (λ none. true≢false (sym (c.if-not-is_empty.ensures.1 none))));
    }
