use Rattle.census_readback.proofs.Walks.{passed-end, passed-more}
use Rattle.census_readback.proofs.lines.behind_rows.Goals as goal

pub loop-first-preserved : goal.loop-first-preserved
loop-first-preserved c =
    passed-more c.args.text.now c.loop-first.rest.now c.in-Some.first.row c.in-Some.first.rest.now c.loop-first.invariant c.in-Some.ensures.sound.0 c.in-Some.ensures.sound.1
    c.in-Some.ensures.all

pub returns : goal.returns
returns c = passed-end c.args.text.now c.loop-first.rest.now c.loop-first.invariant c.in_default.ensures.all
