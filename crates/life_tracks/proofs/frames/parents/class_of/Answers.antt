use Rattle.std.proofs.Common.{arith}
use Rattle.life_tracks.proofs.FramesLemmas.Held.{none_has}
use Rattle.life_tracks.proofs.frames.parents.class_of.Goals as goal

pub returns-clause-within : goal.returns-clause-within
returns-clause-within c =
    let past = c.loop-n-test.false in
    absurd (none_has c.args.classes.now c.args.cell c.loop-n.n (omega arith) c.loop-n.invariant c.requires.some)

pub returns-clause-has : goal.returns-clause-has
returns-clause-has c =
    let past = c.loop-n-test.false in
    absurd (none_has c.args.classes.now c.args.cell c.loop-n.n (omega arith) c.loop-n.invariant c.requires.some)
