use Rattle.std.proofs.Common.{sym, ◌∙◌, arith}
use Rattle.census_merge.proofs.Steps.{counting-end, counting-excess, counting-more, counting-room, counting-start}
use Rattle.census_merge.proofs.merging.count.Goals as goal

pub loop-end-init : goal.loop-end-init
loop-end-init c = counting-start c.args.text.now c.args.counted c.requires.few

pub after-requires-clause-few : goal.after-requires-clause-few
after-requires-clause-few c = c.loop-end.invariant.few

pub after-requires-clause-fits : goal.after-requires-clause-fits
after-requires-clause-fits c =
    let skips = c.in-Some.ensures in
    let room = counting-room c.args.text.now c.args.counted c.loop-end.all c.loop-end.rest.now c.loop-end.invariant c.in-Some.end c.in-Some.behind.now (skips.shorter, skips.all) in
    omega (arith, room, c.requires.fits)

pub returns-in_default-after-clause-counts : goal.returns-in_default-after-clause-counts
returns-in_default-after-clause-counts c = λ rows lines e.
    let skips = c.in-Some.ensures in
    counting-excess c.args.text.now c.args.counted c.loop-end.all c.loop-end.rest.now c.loop-end.invariant c.in-Some.end c.in-Some.behind.now (skips.shorter, skips.all)
    (sym c.after.ensures ∙ c.in_default-after.is) rows lines e

pub loop-end-preserved : goal.loop-end-preserved
loop-end-preserved c =
    let skips = c.in-Some.ensures in
    counting-more c.args.text.now c.args.counted c.loop-end.all c.loop-end.rest.now c.loop-end.invariant c.in-Some.end c.in-Some.behind.now (skips.shorter, skips.all)
    c.in-Some-after.more (sym c.after.ensures ∙ c.in-Some-after.is)

pub returns-clause-few : goal.returns-clause-few
returns-clause-few c = c.loop-end.invariant.few

pub returns-clause-counts : goal.returns-clause-counts
returns-clause-counts c = λ rows lines e. counting-end c.args.text.now c.args.counted c.loop-end.all c.loop-end.rest.now c.loop-end.invariant c.in_default.ensures.all rows lines e
