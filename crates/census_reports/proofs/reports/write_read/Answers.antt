use Rattle.std.proofs.Common.{List, ℕ, subst, sym}
use Rattle.std.proofs.lemmas.Result.{err_from_is_err_and}
use Rattle.census_reports.specs.Mending.{AreMended}
use Rattle.census_reports.proofs.Failing.{mended-fails, read-fails}
use Rattle.census_reports.proofs.Mended.{some-looked}
use Rattle.census_reports.proofs.Said.{says_mended, says_plain}
use Rattle.census_reports.proofs.reports.write_read.Goals as goal

pub write_of-requires : goal.write_of-requires
write_of-requires g c =
    rw c.as_slice.ensures.value (some-looked c.args.texts.now c.in_ok-looked.looked.texts.items c.in_ok-looked.looked.cuts.items c.in_ok-looked.ensures c.requires)

pub returns-in_err-found-clause-writes : goal.returns-in_err-found-clause-writes
returns-in_err-found-clause-writes g c =
    let p = err_from_is_err_and c.from_residual-in_err-found.result c.from_residual-in_err-found.ensures.1 in
    rw (p.1, p.2)
    (mended-fails c.in_err-found.field-0.0 c.args.form c.args.cut c.args.texts.now c.as_slice.result.now c.in_ok-looked.looked.cuts.items c.args.output.now.stream c.write_of.new.output.stream c.if-cut.true
    (subst (λ (texts : List (List ℕ)). AreMended c.args.texts.now texts c.in_ok-looked.looked.cuts.items) (sym c.as_slice.ensures.value) c.in_ok-looked.ensures) c.in_err-found.ensures.writes)

pub returns-in_err-found-2-clause-writes : goal.returns-in_err-found-2-clause-writes
returns-in_err-found-2-clause-writes g c =
    let p = err_from_is_err_and c.from_residual-in_err-found-2.result c.from_residual-in_err-found-2.ensures.1 in
    rw (p.1, p.2)
    (read-fails c.in_err-found-2.field-0.0 c.args.form c.args.cut c.args.texts.now c.args.output.now.stream c.write_of-2.new.output.stream c.if-cut.false c.in_err-found-2.ensures.writes)

pub returns-in_err-found-clause-says : goal.returns-in_err-found-clause-says
returns-in_err-found-clause-says g c =
    let p = err_from_is_err_and c.from_residual-in_err-found.result c.from_residual-in_err-found.ensures.1 in
    rw p.1
    (says_mended c.args.form c.args.cut c.args.texts.now c.as_slice.result.now c.in_ok-looked.looked.cuts.items c.args.errors.now.stream c.write_of.new.errors.stream c.if-cut.true
    (subst (λ (texts : List (List ℕ)). AreMended c.args.texts.now texts c.in_ok-looked.looked.cuts.items) (sym c.as_slice.ensures.value) c.in_ok-looked.ensures) c.in_err-found.ensures.says)

pub returns-in_err-found-2-clause-says : goal.returns-in_err-found-2-clause-says
returns-in_err-found-2-clause-says g c =
    let p = err_from_is_err_and c.from_residual-in_err-found-2.result c.from_residual-in_err-found-2.ensures.1 in
    rw p.1
    (says_plain c.args.form c.args.cut c.args.texts.now c.args.errors.now.stream c.write_of-2.new.errors.stream c.if-cut.false c.in_err-found-2.ensures.says)
