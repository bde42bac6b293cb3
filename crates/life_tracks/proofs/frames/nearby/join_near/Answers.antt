use Rattle.std.proofs.Common.{length, ap, arith}
use Rattle.life_tracks.proofs.FramesLemmas.Chained.{near_joined_by, nearer_through, one_more_at}
use Rattle.life_tracks.proofs.frames.nearby.join_near.Goals as goal

pub join_at-requires-clause-inside : goal.join_at-requires-clause-inside
join_at-requires-clause-inside c =
    let long = ap length c.as_slice-all.ensures.cells in
    let test = c.loop-n-test.true in
    omega arith

pub loop-n-preserved : goal.loop-n-preserved
loop-n-preserved c =
    let G = c.args.list.now in
    let f = c.loop-n.forest.items in
    let g = c.join_at.new.forest.items in
    let at = c.loop-n.invariant in
    record {
      nearer = nearer_through G c.args.forest.now.items f g at.nearer c.join_at.ensures.nearer;
      at = one_more_at G f g c.loop-n.n c.join_at.ensures.nearer c.join_at.ensures.at at.at;
    }

pub returns-clause-near : goal.returns-clause-near
returns-clause-near c =
    let past = c.loop-n-test.false in
    near_joined_by c.args.list.now c.as_slice-all.result.now c.loop-n.forest.items c.loop-n.n c.as_slice-all.ensures.cells
    c.as_slice-all.ensures.rising c.as_slice-all.ensures.placed (omega arith) c.loop-n.invariant.at
