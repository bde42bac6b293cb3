use Rattle.std.proofs.Common.{sym, ◌∙◌}
use Rattle.watched.specs.Telling.{sheet}
use Rattle.census_merge.proofs.Steps.{putting-end, putting-failed, putting-more, putting-none, putting-start}
use Rattle.census_merge.proofs.merging.put_rows.Goals as goal

pub loop-first-init : goal.loop-first-init
loop-first-init g c = putting-start c.args.text.now c.args.sums (sheet c.args.block.now c.args.writer.now) c.requires

pub returns-then-failed-clause-told : goal.returns-then-failed-clause-told
returns-then-failed-clause-told g c = λ rows report lines e fewer fits.
    let l = c.loop-first in
    putting-failed c.args.text.now c.args.sums l.all l.rest.now (sheet c.args.block.now c.args.writer.now) (sheet l.block l.writer) l.invariant
    (sym c.failed.ensures ∙ c.if-failed.true) rows report lines e fewer fits

pub put_next-requires : goal.put_next-requires
put_next-requires g c = c.loop-first.invariant.few

pub returns-in_default-put_next-clause-told : goal.returns-in_default-put_next-clause-told
returns-in_default-put_next-clause-told g c = λ rows report lines e fewer fits.
    let l = c.loop-first in
    let read = c.in-Some.ensures in
    absurd (putting-none c.args.text.now c.args.sums l.all l.rest.now (sheet c.args.block.now c.args.writer.now) (sheet l.block l.writer) l.invariant
    c.in-Some.first.row c.in-Some.first.rest.now (read.sound.0, read.sound.1, read.all) (sheet c.put_next.new.block c.put_next.new.writer) c.in_default-put_next.ensures rows report lines e fewer fits)

pub loop-first-preserved : goal.loop-first-preserved
loop-first-preserved g c =
    let l = c.loop-first in
    let read = c.in-Some.ensures in
    putting-more c.args.text.now c.args.sums l.all l.rest.now (sheet c.args.block.now c.args.writer.now) (sheet l.block l.writer) l.invariant
    c.in-Some.first.row c.in-Some.first.rest.now (read.sound.0, read.sound.1, read.all) (sheet c.put_next.new.block c.put_next.new.writer) c.in-Some-put_next.with c.in-Some-put_next.ensures

pub returns-clause-few : goal.returns-clause-few
returns-clause-few g c = c.loop-first.invariant.few

pub returns-clause-told : goal.returns-clause-told
returns-clause-told g c = λ rows report lines e fewer fits.
    let l = c.loop-first in
    putting-end c.args.text.now c.args.sums l.all l.rest.now (sheet c.args.block.now c.args.writer.now) (sheet l.block l.writer) l.invariant
    c.in_default.ensures.all rows report lines e fewer fits
