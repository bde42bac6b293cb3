use Rattle.std.proofs.Common.{rules, arith}
use Rattle.std.proofs.lemmas.Int.{ints}
use Rattle.life_tracks.proofs.FramesLemmas.Beside.{parted_here}
use Rattle.life_tracks.proofs.frames.bearers.parting_near.Goals as goal

pub returns-else-is_before : goal.returns-else-is_before
returns-else-is_before c =
    let fits = c.ranges.number.sfits in
    parted_here c.args.all.now _ c.args.number c.loop.at c.requires.rising c.requires.placed c.loop.invariant
    (c.is_past.ensures.past (search rules)) (c.is_before.ensures.not c.if-is_before.false) (omega (arith, ints))
