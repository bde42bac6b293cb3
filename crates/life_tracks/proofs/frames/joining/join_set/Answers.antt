use Rattle.std.proofs.Common.{get_or, arith}
use Rattle.life_model.specs.Cell.{origin}
use Rattle.life_islands.proofs.Labelled.{listed_cell}
use Rattle.life_tracks.proofs.FramesLemmas.Tying.{first_rooted, further_itself, further_through, further_united, joined_by_root, joined_of_none, one_more_rooted, tied_more}
use Rattle.life_tracks.proofs.frames.joining.join_set.Goals as goal

pub returns-then-all-eq0-clause-joined : goal.returns-then-all-eq0-clause-joined
returns-then-all-eq0-clause-joined c =
    joined_of_none c.args.list.now c.args.forest.now.items c.args.set.now c.as_slice-all.result.now c.as_slice-all.ensures.cells
    (omega (arith, c.if-all-eq0.true))

pub bearer-first-requires-clause-touched : goal.bearer-first-requires-clause-touched
bearer-first-requires-clause-touched c =
    c.requires.touched (get_or c.as_slice-all.result.now 0 origin)
    (listed_cell c.args.set.now c.as_slice-all.result.now 0 c.as_slice-all.ensures.cells
    (omega (arith, c.if-all-eq0.false)))

pub bearer-other-requires-clause-touched : goal.bearer-other-requires-clause-touched
bearer-other-requires-clause-touched c =
    c.requires.touched (get_or c.as_slice-all.result.now c.loop-n.n origin)
    (listed_cell c.args.set.now c.as_slice-all.result.now c.loop-n.n c.as_slice-all.ensures.cells (omega (arith, c.loop-n-test.true)))

pub loop-n-init : goal.loop-n-init
loop-n-init c = record {
  further = further_itself c.args.forest.now.items;
  rooted = first_rooted c.args.list.now c.args.forest.now.items c.as_slice-all.result.now c.bearer-first.result c.bearer-first.ensures;
  tied = λ Ss one before. before;
}

pub loop-n-preserved : goal.loop-n-preserved
loop-n-preserved c =
    let cs = c.as_slice-all.result.now in
    let G = c.args.list.now in
    let f = c.loop-n.forest.items in
    let g = c.join.new.forest.items in
    let n = c.loop-n.n in
    let at = c.loop-n.invariant in
    record {
      further = further_through c.args.forest.now.items f g at.further (further_united f g _ _ c.join.ensures);
      rooted = one_more_rooted G f g cs n c.bearer-first.result c.bearer-other.result c.join.ensures c.bearer-other.ensures at.rooted;
      tied = λ Ss one before.
          tied_more G Ss f g c.bearer-first.result c.bearer-other.result c.args.set.now (get_or cs 0 origin) (get_or cs n origin) one
          (listed_cell c.args.set.now cs 0 c.as_slice-all.ensures.cells (omega (arith, c.loop-n-test.true)))
          (listed_cell c.args.set.now cs n c.as_slice-all.ensures.cells (omega (arith, c.loop-n-test.true)))
          c.bearer-first.ensures c.bearer-other.ensures c.join.ensures (at.tied Ss one before);
    }

pub returns-clause-joined : goal.returns-clause-joined
returns-clause-joined c =
    let past = c.loop-n-test.false in
    joined_by_root c.args.list.now c.loop-n.forest.items c.args.set.now c.as_slice-all.result.now c.bearer-first.result
    c.as_slice-all.ensures.cells (λ k h. c.loop-n.invariant.rooted k (omega arith))
