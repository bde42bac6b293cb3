use Rattle.std.proofs.Common.{get_or, inl, refl, subst}
use Rattle.std.proofs.lemmas.List.{get_or_default}
use Rattle.life_model.specs.Cell.{origin}
use Rattle.life_model.specs.Generation.{cells}
use Rattle.life_islands.specs.Labels.{AreJoinedFurther, sets_of}
use Rattle.life_islands.specs.Reach.{IsWithinTwo}
use Rattle.life_islands.proofs.Further.{further_more, further_fits, further_whole, kept_through}
use Rattle.life_classes.specs.Forest.{root}
use Rattle.life_islands.proofs.Placing.{held_as_one, held_by_cells, of_one_near}
use Rattle.life_islands.proofs.Labelled.{make_up}
use Rattle.life_islands.proofs.Touched.{numbered_fits}
use Rattle.life_islands.proofs.places.join_in.Goals as goal

pub join_places-requires-clause-isles : goal.join_places-requires-clause-isles
join_places-requires-clause-isles c = numbered_fits c.args.list.now c.in_ok-isles.isles c.in_ok-isles.ensures.0

pub join_places-requires-clause-laid_out : goal.join_places-requires-clause-laid_out
join_places-requires-clause-laid_out c =
    let a = c.args in
    let at = c.loop-joined.invariant in
    record {
      islands = c.in_ok-isles.ensures.1;
      make_up = make_up a.list.now c.loop-joined.sets (further_fits a.list.now a.sets.now c.loop-joined.sets c.loop-joined.joined at.further c.requires);
      whole = at.whole;
    }

pub loop-joined-init : goal.loop-joined-init
loop-joined-init c =
    let touched = c.join_touching-joined.ensures in
    record { further = touched.further; tied = touched.tied c.args.rule.now; whole = touched.whole }

pub loop-joined-preserved : goal.loop-joined-preserved
loop-joined-preserved c =
    let a = c.args in
    let at = c.loop-joined.invariant in
    let here = c.join_places.ensures in
    let M = c.loop-joined.sets in
    let N = c.join_places.new.sets in
    let fits = further_fits a.list.now a.sets.now M c.loop-joined.joined at.further c.requires in
    record {
      further = further_more a.sets.now M N c.loop-joined.joined at.further
          (subst (AreJoinedFurther M N) c.loop-joined-test.true here.further);
      tied = kept_through a.rule.now a.list.now a.sets.now M N at.further.labels at.tied here.tied;
      whole = further_whole a.list.now M N c.join_places.result here.further fits at.whole;
    }

pub returns-then-is_one-clause-held : goal.returns-then-is_one-clause-held
returns-then-is_one-clause-held c =
    let a = c.args in
    let touched = c.join_touching-joined.ensures in
    let M = c.join_touching-joined.new.all in
    let fits = further_fits a.list.now a.sets.now M c.join_touching-joined.result touched.further c.requires in
    held_as_one a.rule.now a.list.now M fits touched.whole (root M.forest.items (get_or M.labels.items 0 0)) c.if-is_one.ensures

pub returns-then-are_of_one-clause-held : goal.returns-then-are_of_one-clause-held
returns-then-are_of_one-clause-held c =
    let a = c.args in
    let G = a.list.now in
    let touched = c.join_touching-joined.ensures in
    let M = c.join_touching-joined.new.all in
    let fits = further_fits G a.sets.now M c.join_touching-joined.result touched.further c.requires in
    held_by_cells a.rule.now G (sets_of G M) (cells G) refl touched.whole
    (λ k d h x near place. inl (of_one_near G M fits (get_or (cells G) k d) (root M.forest.items (get_or M.labels.items k 0))
    (λ j within near_j. c.if-are_of_one.ensures k h j within
    (subst (λ e. IsWithinTwo (get_or (cells G) j origin) e) (get_or_default (cells G) k d origin h) near_j)) x near))
