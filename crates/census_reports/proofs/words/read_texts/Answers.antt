use Rattle.std.proofs.Common.{◌+◌, [], ◌∷◌, ◌++◌, ◌∙◌, ap, sym, arith}
use Rattle.std.proofs.lemmas.Result.{err_from_is_err_and}
use Rattle.census_reports.proofs.Read.{left_more, next_text, stops_passing, stops_reading, stops_word}
use Rattle.census_reports.specs.Texts.{left_behind}
use Rattle.census_reports.specs.declared.error.ReportsError.TheVariants.{Memory}
use Rattle.census_reports.proofs.words.read_texts.Goals as goal

pub returns-in-Err-clause-fault : goal.returns-in-Err-clause-fault
returns-in-Err-clause-fault g c =
    stops_word ((g.S.Shelf.tellings c.args.shelf.now).held []) c.args.words.now c.loop-word.word-index (record { ref_ptr = (0, 0); now = [] }) c.loop-word.texts.items _ _ (omega arith) c.loop-word.invariant.0
    _ c.in-Err.fault c.args.limit _ (ap (λ n. n + 1) (c.len-number.ensures ∙ c.loop-word.texts.ok.0)) c.loop-word.invariant.2.fits c.in-Err.ensures.fault

pub returns-in_default-clause-fault : goal.returns-in_default-clause-fault
returns-in_default-clause-fault g c =
    stops_passing ((g.S.Shelf.tellings c.args.shelf.now).held []) c.args.words.now c.loop-word.word-index (record { ref_ptr = (0, 0); now = [] }) c.loop-word.texts.items _ _ (omega arith) c.loop-word.invariant.0
    _ c.args.limit c.loop-word.left c.in-Ok.text.items _ (ap (λ n. n + 1) (c.len-number.ensures ∙ c.loop-word.texts.ok.0))
    c.loop-word.invariant.2 c.in-Ok.ensures.read c.in-Ok.ensures.sound (ap (left_behind c.loop-word.left) (sym (c.len.ensures ∙ c.in-Ok.text.ok.0)) ∙ sym c.left_behind.ensures ∙ c.in_default.is)

pub returns-in_err-push-clause-fault : goal.returns-in_err-push-clause-fault
returns-in_err-push-clause-fault g c =
    let p = err_from_is_err_and c.from_residual.result c.from_residual.ensures.1 in
    rw (p.1, p.2)
    (stops_reading ((g.S.Shelf.tellings c.args.shelf.now).held []) c.args.words.now c.loop-word.word-index (record { ref_ptr = (0, 0); now = [] }) c.loop-word.texts.items _ _ (omega arith) c.loop-word.invariant.0 Memory c.args.limit _ c.loop-word.invariant.2.fits
    (c.in-Ok.ensures.taken, c.in-Ok.ensures.sound))

pub loop-word-preserved : goal.loop-word-preserved
loop-word-preserved g c = (
  next_text ((g.S.Shelf.tellings c.args.shelf.now).held []) c.args.words.now c.loop-word.word-index (record { ref_ptr = (0, 0); now = [] }) c.loop-word.texts.items _ _ (omega arith) c.loop-word.invariant.0
      c.in-Ok.text.items c.push.new.self.items _ c.in-Ok.ensures.read (c.in_ok-push.ensures.items ∙ ap (λ t. c.loop-word.texts.items ++ t ∷ []) c.new.ensures),
  c.in-Ok.ensures.sound,
  rw (c.in_ok-push.ensures.items, c.new.ensures)
      (left_more c.args.limit c.loop-word.left c.in-Some.rest c.loop-word.texts.items c.in-Ok.text.items c.loop-word.invariant.2 (ap (left_behind c.loop-word.left) (sym (c.len.ensures ∙ c.in-Ok.text.ok.0)) ∙ sym c.left_behind.ensures ∙ c.in-Some.is)),
)
