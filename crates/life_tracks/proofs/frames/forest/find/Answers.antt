use Rattle.std.proofs.Common.{◌≡◌, get_or, sym, ap, ◌∙◌, arith}
use Rattle.std.proofs.lemmas.List.{get_or_default}
use Rattle.life_classes.specs.Forest.{root}
use Rattle.life_classes.proofs.Forests.{root-past, root-stays, root-up}
use Rattle.life_tracks.proofs.FramesLemmas.Roots.{same_through, same_two_up, two_up}
use Rattle.life_tracks.proofs.frames.forest.find.Goals as goal

pub returns-then-further-next-clause-value : goal.returns-then-further-next-clause-value
returns-then-further-next-clause-value c =
    let g = c.loop-at.forest.items in
    let at = c.loop-at.at in
    let next = c.index-next.result.now in
    let inside = c.loop-at-test.true in
    let lower = c.if-next-at.false in
    let most = c.if-further-next.true in
    let up : get_or g at at ≡ next = get_or_default g at at next (omega arith) ∙ sym c.index-next.ensures in
    let further : get_or g next next ≡ c.index-further.result.now =
    get_or_default g next next _ (omega arith) ∙ sym c.index-further.ensures in
    let roots = c.loop-at.invariant.roots in
    sym (root-stays g next (omega arith)) ∙ ap (root g) (sym up) ∙ sym (root-up g at (omega arith)) ∙ roots.same at
    ∙ c.loop-at.invariant.one

pub loop-at-preserved : goal.loop-at-preserved
loop-at-preserved c =
    let f = c.args.forest.now.items in
    let g = c.loop-at.forest.items in
    let at = c.loop-at.at in
    let next = c.index-next.result.now in
    let further = c.index-further.result.now in
    let inside = c.loop-at-test.true in
    let lower = c.if-next-at.false in
    let least = c.if-further-next.false in
    let bound = c.loop-at.invariant.less in
    let roots = c.loop-at.invariant.roots in
    record {
      roots = same_through f g _ roots (same_two_up g at next further (omega arith) (omega arith) c.index-next.ensures c.index-further.ensures (omega arith) (omega arith));
      one = sym (roots.same further) ∙ two_up g at next further (omega arith) (omega arith) c.index-next.ensures c.index-further.ensures (omega arith) (omega arith)
          ∙ roots.same at ∙ c.loop-at.invariant.one;
      less = omega arith;
    }

pub returns-clause-value : goal.returns-clause-value
returns-clause-value c =
    let past = c.loop-at-test.false in
    let roots = c.loop-at.invariant.roots in
    sym (root-past c.loop-at.forest.items c.loop-at.at (omega arith)) ∙ roots.same c.loop-at.at ∙ c.loop-at.invariant.one
