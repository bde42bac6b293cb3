use Rattle.std.proofs.Common.{◌≡◌, ◌∙◌, arith, length, subst, sym}
use Rattle.std.proofs.lemmas.Result.{err_from_is_err_and}
use Rattle.watched.specs.Telling.{TellsAfter, sheet}
use Rattle.watched.proofs.Telling.{tells_failed, tells_none}
use Rattle.watched.proofs.Prefixes.{front_none}
use Rattle.census_table.specs.Written.{records_text}
use Rattle.census_table.proofs.Held.{none-where}
use Rattle.census_table.proofs.table.flush.Goals as goal

pub returns-then-is_empty-clause-tells : goal.returns-then-is_empty-clause-tells
returns-then-is_empty-clause-tells g c =
    let s = sheet c.args.block.now c.args.writer.now in
    let size : length c.args.held.now.items ≡ c.args.held.now.len = omega (arith, c.args.held.now.ok) in
    subst (λ rows. TellsAfter (records_text rows) s s) (sym (none-where c.args.held.now.items c.args.held.now.len c.is_empty.result c.is_empty.ensures c.if-is_empty.true size)) (tells_none s)

pub returns-then-failed-clause-tells : goal.returns-then-failed-clause-tells
returns-then-failed-clause-tells g c = tells_failed (records_text c.args.held.now.items) (sheet c.args.block.now c.args.writer.now) (sym c.failed.ensures ∙ c.if-failed.true)

pub returns-in_err-text-clause-tells : goal.returns-in_err-text-clause-tells
returns-in_err-text-clause-tells g c =
    let p = err_from_is_err_and c.from_residual.result c.from_residual.ensures.1 in
    rw p.1 (front_none (records_text c.args.held.now.items) (sheet c.args.block.now c.args.writer.now))
