use Rattle.std.proofs.Common.{List, ℕ, inr, subst, ◌∙◌}
use Rattle.std.proofs.lemmas.Result.{err_from_is_err_and}
use Rattle.watched.specs.Streams.{PutsMoreBytes}
use Rattle.watched.specs.Telling.{sheet}
use Rattle.census_reports.proofs.Halted.{all_written}
use Rattle.census_reports.specs.declared.form.Form.TheVariants as form
use Rattle.census_reports.proofs.form.write_same.Goals as goal

pub returns-in_err-told-in-Ok-clause-writes : goal.returns-in_err-told-in-Ok-clause-writes
returns-in_err-told-in-Ok-clause-writes g c =
    let p = err_from_is_err_and c.from_residual-in_err-told-in-Ok.result c.from_residual-in_err-told-in-Ok.ensures.1 in
    rw (p.1, p.2) (inr (record { pieces = tt; front = tt; sound = c.in-Ok.ensures.failed }))

pub returns-in_err-told-in-Ok-clause-says : goal.returns-in_err-told-in-Ok-clause-says
returns-in_err-told-in-Ok-clause-says g c =
    let p = err_from_is_err_and c.from_residual-in_err-told-in-Ok.result c.from_residual-in_err-told-in-Ok.ensures.1 in
    rw p.1
    (inr (subst (λ (t : List ℕ). PutsMoreBytes t c.args.errors.now.stream c.tell.new.self.stream) (c.as_slice.ensures.value ∙ c.in_ok-note.ensures) c.tell.ensures))

pub returns-in-Ok-clause-writes : goal.returns-in-Ok-clause-writes
returns-in-Ok-clause-writes g c =
    let said = c.in_ok-told-in-Ok.ensures in
    all_written (sheet c.new-block.result c.args.output.now) (sheet c.put_same-told.new.block c.put_same-told.new.writer) (sheet c.send.new.block c.send.new.writer)
    c.new-block.ensures c.send.ensures.tells c.send.ensures.empty
    (form.Same c.args.json) c.args.rows _ said.0 said.1 said.2 c.in-Ok.ensures.failed

pub returns-in-Ok-clause-says : goal.returns-in-Ok-clause-says
returns-in-Ok-clause-says g c =
    subst (λ (t : List ℕ). PutsMoreBytes t c.args.errors.now.stream c.tell.new.self.stream) (c.as_slice.ensures.value ∙ c.in_ok-note.ensures) c.tell.ensures

pub returns-clause-writes : goal.returns-clause-writes
returns-clause-writes g c = record { front = tt; failed = c.in-Err.ensures.failed }

pub returns-clause-says : goal.returns-clause-says
returns-clause-says g c =
    inr (subst (λ (t : List ℕ). PutsMoreBytes t c.args.errors.now.stream c.tell.new.self.stream) (c.as_slice.ensures.value ∙ c.in_ok-note.ensures) c.tell.ensures)
