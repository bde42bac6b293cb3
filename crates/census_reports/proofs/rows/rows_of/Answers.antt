use Rattle.std.proofs.Common.{◌≡◌, ◌++◌, List, MatchResult, arith, subst, ◌∙◌}
use Rattle.census_rows.specs.declared.row.Row.{Row}
use Rattle.census_readback.specs.Reports.{IsFault, ReadsAsReports}
use Rattle.census_readback.specs.Texts.{SameRows}
use Rattle.census_reports.proofs.Joined.{at_end, fault_read, report_read}
use Rattle.census_reports.proofs.rows.rows_of.Goals as goal

pub returns-in-Err-clause-rows : goal.returns-in-Err-clause-rows
returns-in-Err-clause-rows c =
    let bytes = c.as_slice.result.now in
    let old = c.loop-index.rows in
    let new = c.read_report.new.rows in
    let fault : IsFault bytes c.in-Err.line × (new ≡ old) =
    subst (λ read. MatchResult read (λ _. (own : List Row) × ReadsAsReports own bytes × (new ≡ old ++ own)) (λ line. IsFault bytes line × (new ≡ old))) c.in-Err.is c.in_ok-read_report.ensures.sound in
    fault_read c.args.texts.now c.loop-index.index _ c.loop-index-test.true old c.loop-index.invariant bytes (c.as_slice.ensures ∙ c.index-texts-index.is)
    c.in_ok-read_report.field-0 c.in-Err.line c.in-Err.is (λ told _. (own : List Row) × SameRows own told × (new ≡ old ++ own)) fault.0 c.in_ok-read_report.ensures.all

pub loop-index-preserved : goal.loop-index-preserved
loop-index-preserved c =
    let bytes = c.as_slice.result.now in
    let old = c.loop-index.rows in
    let new = c.read_report.new.rows in
    report_read c.args.texts.now c.loop-index.index _ c.loop-index-test.true old c.loop-index.invariant bytes (c.as_slice.ensures ∙ c.index-texts-index.is) new
    (subst (λ read. MatchResult read (λ _. (own : List Row) × ReadsAsReports own bytes × (new ≡ old ++ own)) (λ line. IsFault bytes line × (new ≡ old))) c.in-Ok.is c.in_ok-read_report.ensures.sound)

pub returns-clause-reports : goal.returns-clause-reports
returns-clause-reports c =
    at_end c.loop-index.rows c.args.texts.now c.loop-index.index c.loop-index.invariant (omega (arith, c.loop-index-test.false)) c.requires
