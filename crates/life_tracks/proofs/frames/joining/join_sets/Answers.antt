use Rattle.std.proofs.Common.{◌<◌, length, arith}
use Rattle.life_tracks.proofs.FramesLemmas.Tying.{all_joined, contained, further_through, one_more_joined}
use Rattle.life_tracks.proofs.frames.joining.join_sets.Goals as goal

pub loop-n-preserved : goal.loop-n-preserved
loop-n-preserved c =
    let Ss = c.args.sets.now in
    let G = c.args.list.now in
    let f = c.loop-n.forest.items in
    let g = c.join_set.new.forest.items in
    let n = c.loop-n.n in
    let at = c.loop-n.invariant in
    let test = c.loop-n-test.true in
    let inside : n < length Ss = omega arith in
    record {
      further = further_through c.args.forest.now.items f g at.further c.join_set.ensures.further;
      joined = one_more_joined G f g Ss n c.index-sets-n.result inside c.index-sets-n.is c.join_set.ensures.further c.join_set.ensures.joined at.joined;
      tied = λ Ts within before.
          c.join_set.ensures.tied Ts (within c.index-sets-n.result (contained Ss n c.index-sets-n.result inside c.index-sets-n.is)) (at.tied Ts within before);
    }

pub returns-clause-joined : goal.returns-clause-joined
returns-clause-joined c =
    let past = c.loop-n-test.false in
    all_joined c.args.list.now c.loop-n.forest.items c.args.sets.now c.loop-n.n (omega arith) c.loop-n.invariant.joined
