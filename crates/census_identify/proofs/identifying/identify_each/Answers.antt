use Rattle.std.proofs.Common.{[], refl, ap, ◌∙◌, arith}
use Rattle.std.proofs.lemmas.Result.{err_from_is_err_and}
use Rattle.watched.specs.Streams.{Streams}
use Rattle.census_identify.proofs.Words.{at_first, lacks_memory, loses_output, next_told}
use Rattle.census_identify.proofs.identifying.identify_each.Goals as goal

pub loop-word-init : goal.loop-word-init
loop-word-init g c =
    rw (← c.streams.view_is)
    (at_first _ _ _ _ _ refl refl (ap (λ (s : Streams). s.output.failed) c.streams.view_is ∙ c.requires.output) (ap (λ (s : Streams). s.errors.failed) c.streams.view_is ∙ c.requires.errors))

pub returns-in_err-heard : goal.returns-in_err-heard
returns-in_err-heard g c =
    let p = err_from_is_err_and c.from_residual.result c.from_residual.ensures.1 in
    rw (p.1, p.2) (lacks_memory _ _ _ c.args.words.now c.loop-word.word-index (record { ref_ptr = (0, 0); now = [] }) _ _ _ (omega arith) c.loop-word.invariant _ c.in_err-heard.ensures.taken)

pub returns-in_err-told : goal.returns-in_err-told
returns-in_err-told g c =
    let p = err_from_is_err_and c.from_residual-in_err-told.result c.from_residual-in_err-told.ensures.1 in
    rw (p.1, p.2) (lacks_memory _ _ _ c.args.words.now c.loop-word.word-index (record { ref_ptr = (0, 0); now = [] }) _ _ _ (omega arith) c.loop-word.invariant _ c.in_ok-heard.ensures.taken)

pub returns-in_err-tell : goal.returns-in_err-tell
returns-in_err-tell g c =
    let p = err_from_is_err_and c.from_residual-in_err-tell.result c.from_residual-in_err-tell.ensures.1 in
    rw (p.1, p.2)
    (loses_output _ _ _ c.args.words.now c.loop-word.word-index _ _ _ _ (omega arith) c.loop-word.invariant c.in_ok-heard.heard c.in_ok-told.told _ _ _
    c.in_ok-heard.ensures.heard c.in_ok-told.ensures c.in_err-tell.ensures.errors c.in_err-tell.ensures.output)

pub loop-word-preserved : goal.loop-word-preserved
loop-word-preserved g c =
    next_told _ _ _ c.args.words.now c.loop-word.word-index _ _ _ _ (omega arith) c.loop-word.invariant c.in_ok-heard.heard c.in_ok-told.told _ _ _
    c.in_ok-heard.ensures.heard c.in_ok-told.ensures c.in_ok-tell.ensures.errors c.tell.new.course c.in_ok-tell.ensures.output c.in_ok-tell.ensures.course
