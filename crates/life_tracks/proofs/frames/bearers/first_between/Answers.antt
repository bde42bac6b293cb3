use Rattle.std.proofs.Common.{arith}
use Rattle.std.proofs.lemmas.Int.{ints}
use Rattle.life_tracks.proofs.FramesLemmas.Beside.{none_between}
use Rattle.life_tracks.proofs.frames.bearers.first_between.Goals as goal

pub returns-then-place_number-high-clause-none : goal.returns-then-place_number-high-clause-none
returns-then-place_number-high-clause-none c =
    let far = c.if-place_number-high.true in
    let number = c.place_number.ensures.number in
    let low = c.ranges.low.sfits in
    let inside = c.if-at-all.false in
    none_between c.args.all.now _ c.args.low c.args.high c.parting-at.result c.requires.rising c.requires.placed
    c.parting-at.ensures (omega (arith, ints)) (omega arith) (λ h. omega (arith, ints))
