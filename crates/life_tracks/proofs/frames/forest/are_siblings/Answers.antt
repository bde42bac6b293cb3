use Rattle.std.proofs.Common.{arith}
use Rattle.life_tracks.proofs.FramesLemmas.Roots.{siblings}
use Rattle.life_tracks.proofs.frames.forest.are_siblings.Goals as goal

pub returns : goal.returns
returns c told =
    siblings c.args.forest.now c.args.one c.args.other c.requires.0 c.requires.1 (omega (arith, c.if-next-one.false))
    (omega (arith, c.if-other_next-other.false)) (omega (arith, c.if-next-other_next.false))
