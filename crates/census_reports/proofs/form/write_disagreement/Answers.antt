use Rattle.std.proofs.Common.{inr}
use Rattle.std.proofs.lemmas.Result.{err_from_is_err_and}
use Rattle.watched.specs.Telling.{sheet}
use Rattle.census_compare.specs.Claims.{all_read}
use Rattle.census_reports.proofs.Halted.{all_written}
use Rattle.census_reports.specs.declared.form.Form.TheVariants as form
use Rattle.census_reports.proofs.form.write_disagreement.Goals as goal

pub returns-in_err-told-in-Ok : goal.returns-in_err-told-in-Ok
returns-in_err-told-in-Ok g c =
    let p = err_from_is_err_and c.from_residual.result c.from_residual.ensures.1 in
    rw (p.1, p.2) (inr (record { pieces = tt; front = tt; sound = c.in-Ok.ensures.failed }))

pub returns-in-Ok : goal.returns-in-Ok
returns-in-Ok g c =
    let said = c.in_ok-told-in-Ok.ensures in
    all_written (sheet c.new-block.result c.args.output.now) (sheet c.put_verdict-told.new.block c.put_verdict-told.new.writer) (sheet c.send.new.block c.send.new.writer)
    c.new-block.ensures c.send.ensures.tells c.send.ensures.empty
    (form.Verdict c.args.text) c.args.rows.now _ said.0 (all_read c.args.claims.now, c.requires.claims, said.1) said.2 c.in-Ok.ensures.failed

pub returns : goal.returns
returns g c = record { front = tt; failed = c.in-Err.ensures.failed }
