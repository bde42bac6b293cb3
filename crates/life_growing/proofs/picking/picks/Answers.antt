use Rattle.std.proofs.Common.{◌≡◌, ◌++◌, [], length, refl, sym, ap, subst, ◌∙◌, arith}
use Rattle.std.specs.List.{All, AllPairs}
use Rattle.std.specs.Vec.Iter.{into_iter_items}
use Rattle.life_ash.proofs.Finding.{of_none, of_some}
use Rattle.life_model.specs.Generation.{cells}
use Rattle.life_cells.specs.Limits.{IsWithin}
use Rattle.life_classes.specs.Tracking.{first_sets}
use Rattle.life_objects.specs.Apart.{AreApartFor}
use Rattle.life_growing.specs.Growths.{IsEngineFound, start_of}
use Rattle.life_growing.specs.Picking.{ArePicks}
use Rattle.life_growing.proofs.PickingClasses.{engine_picked, first_sets_then, met_class, none_picked, other_picked}
use Rattle.life_growing.proofs.Yielded.{all_in_order}
use Rattle.life_growing.proofs.picking.picks.Goals as goal
use Rattle.life_strays.proofs.Yielded.{next_in_order}

pub loop-class-init : goal.loop-class-init
loop-class-init g c =
    let gives = c.into_iter-class-iterator.ensures.into_iter_gives in
    let long = gives.1 in
    let as_long = ap length gives.0 in
    record {
      order = refl;
      as_many = omega arith;
      picked = none_picked c.args.rule.now c.args.bound c.args.length _ _ c.new-engines.ensures.items c.new-others.ensures.items;
    }

pub engine_of-requires-clause-within : goal.engine_of-requires-clause-within
engine_of-requires-clause-within g c =
    met_class (λ P. All (IsWithin c.args.age) (cells P)) c.args.classes.items c.loop-class.yielded _
    (into_iter_items c.next.new.self) c.in-Some.class c.requires.within
    (c.loop-class.invariant.order ∙ c.into_iter-class-iterator.ensures.into_iter_gives.0) c.in-Some.ensures.steps.0

pub loop-class-preserved-in-Some-branch-2 : goal.loop-class-preserved-in-Some-branch-2
loop-class-preserved-in-Some-branch-2 g c =
    let R = c.args.rule.now in
    let b = c.args.bound in
    let far = c.args.length in
    let class = c.in-Some.class in
    let at = c.loop-class.invariant in
    let steps = c.in-Some.ensures.steps.0 in
    let short = ap (λ cs. length cs) steps in
    let gone = c.in-Some.ensures.steps.1 in
    let rest = into_iter_items c.next.new.self in
    let seen = c.loop-class.yielded in
    record {
      order = next_in_order _ seen _ rest class at.order steps;
      as_many = let n = at.as_many in omega arith;
      picked =
          subst (λ Ps. ArePicks R b far Ps c.push.new.self.items c.loop-class.others.items)
          (sym (first_sets_then seen class []))
          (engine_picked R b far (first_sets seen) class.first c.loop-class.engines.items c.loop-class.others.items
          at.picked c.in-Some-2.engine c.push.new.self.items c.in_ok-push-in-Some-2.ensures.items
          (of_some (IsEngineFound R b) c.in-Some-2.is c.in_ok-engine.ensures.found)
          (of_some (λ e. start_of e ≡ class.first) c.in-Some-2.is c.in_ok-engine.ensures.start) (first_sets rest)
          (subst (AllPairs (AreApartFor R far))
          (ap first_sets (sym (at.order ∙ c.into_iter-class-iterator.ensures.into_iter_gives.0)
          ∙ ap (λ cs. seen ++ cs) steps) ∙ first_sets_then seen class rest) c.requires.apart));
    }

pub loop-class-preserved : goal.loop-class-preserved
loop-class-preserved g c =
    let R = c.args.rule.now in
    let b = c.args.bound in
    let far = c.args.length in
    let class = c.in-Some.class in
    let at = c.loop-class.invariant in
    let steps = c.in-Some.ensures.steps.0 in
    let short = ap (λ cs. length cs) steps in
    let gone = c.in-Some.ensures.steps.1 in
    let seen = c.loop-class.yielded in
    record {
      order = next_in_order _ seen _ (into_iter_items c.next.new.self) class at.order steps;
      as_many = let n = at.as_many in omega arith;
      picked =
          subst (λ Ps. ArePicks R b far Ps c.loop-class.engines.items c.push-in-None-2.new.self.items)
          (sym (first_sets_then seen class []))
          (other_picked R b far (first_sets seen) class.first c.loop-class.engines.items c.loop-class.others.items
          at.picked c.push-in-None-2.new.self.items c.in_ok-push-in-None-2.ensures.items
          (of_none c.in-None-2.is c.in_ok-engine.ensures.none));
    }

pub returns : goal.returns
returns g c =
    let R = c.args.rule.now in
    let at = c.loop-class.invariant in
    subst (λ cs. ArePicks R c.args.bound c.args.length (first_sets cs) c.loop-class.engines.items c.loop-class.others.items)
    (all_in_order _ c.loop-class.yielded (into_iter_items c.loop-class.class-iterator) at.order
    (sym c.in-None.ensures.steps.0 ∙ at.as_many)
    ∙ c.into_iter-class-iterator.ensures.into_iter_gives.0) at.picked
