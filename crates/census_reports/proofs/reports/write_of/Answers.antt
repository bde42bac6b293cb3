use Rattle.std.proofs.Common.{refl}
use Rattle.census_reports.specs.declared.form.Form.TheVariants as form
use Rattle.census_reports.proofs.Failing.{of_texts}
use Rattle.census_reports.proofs.Said.{quiet_merge, said_either, says_of_texts}
use Rattle.census_reports.proofs.reports.write_of.Goals as goal

pub returns-in-Merged-clause-says : goal.returns-in-Merged-clause-says
returns-in-Merged-clause-says g c =
    rw c.in-Merged.is
    (quiet_merge c.write_merged.result c.args.texts.now c.args.output.now.stream c.write_merged.new.output.stream c.args.errors.now.stream c.write_merged.ensures)

pub returns-in_ok-rows-in-Table-clause-writes : goal.returns-in_ok-rows-in-Table-clause-writes
returns-in_ok-rows-in-Table-clause-writes g c =
    let table = c.in-Table in
    rw c.in-Table.is
    (of_texts c.write_table.result (form.Table table.subject table.format table.names) c.in_ok-rows-in-Table.rows c.args.texts.now c.args.output.now.stream c.write_table.new.output.stream
    c.in_ok-rows-in-Table.ensures.rows c.write_table.ensures)

pub returns-in_ok-rows-in-Table-clause-says : goal.returns-in_ok-rows-in-Table-clause-says
returns-in_ok-rows-in-Table-clause-says g c =
    rw c.in-Table.is (said_either c.write_table.result _ _ (c.in_ok-rows-in-Table.rows, c.in_ok-rows-in-Table.ensures.rows, refl))

pub returns-in_ok-rows-in-Page-clause-writes : goal.returns-in_ok-rows-in-Page-clause-writes
returns-in_ok-rows-in-Page-clause-writes g c =
    rw c.in-Page.is
    (of_texts c.write_page.result (form.Page c.in-Page.options c.in-Page.names) c.in_ok-rows-in-Page.rows c.args.texts.now c.args.output.now.stream c.write_page.new.output.stream
    c.in_ok-rows-in-Page.ensures.rows c.write_page.ensures)

pub returns-in_ok-rows-in-Page-clause-says : goal.returns-in_ok-rows-in-Page-clause-says
returns-in_ok-rows-in-Page-clause-says g c =
    rw c.in-Page.is (said_either c.write_page.result _ _ (c.in_ok-rows-in-Page.rows, c.in_ok-rows-in-Page.ensures.rows, refl))

pub returns-in_ok-rows-in-Same-clause-writes : goal.returns-in_ok-rows-in-Same-clause-writes
returns-in_ok-rows-in-Same-clause-writes g c =
    rw c.in-Same.is
    (of_texts c.write_same.result (form.Same c.in-Same.json) c.in_ok-rows-in-Same.rows c.args.texts.now c.args.output.now.stream c.write_same.new.output.stream
    c.in_ok-rows-in-Same.ensures.rows c.write_same.ensures.writes)

pub returns-in_ok-rows-in-Same-clause-says : goal.returns-in_ok-rows-in-Same-clause-says
returns-in_ok-rows-in-Same-clause-says g c =
    rw c.in-Same.is
    (says_of_texts c.write_same.result (form.Same c.in-Same.json) c.in_ok-rows-in-Same.rows c.args.texts.now c.args.errors.now.stream c.write_same.new.errors.stream
    c.in_ok-rows-in-Same.ensures.rows c.write_same.ensures.says)

pub returns-in_ok-rows-in-Verdict-clause-writes : goal.returns-in_ok-rows-in-Verdict-clause-writes
returns-in_ok-rows-in-Verdict-clause-writes g c =
    rw c.in-Verdict.is
    (of_texts c.write_verdict.result (form.Verdict c.in-Verdict.claims) c.in_ok-rows-in-Verdict.rows c.args.texts.now c.args.output.now.stream c.write_verdict.new.output.stream
    c.in_ok-rows-in-Verdict.ensures.rows c.write_verdict.ensures.writes)

pub returns-in_ok-rows-in-Verdict-clause-says : goal.returns-in_ok-rows-in-Verdict-clause-says
returns-in_ok-rows-in-Verdict-clause-says g c =
    rw c.in-Verdict.is
    (says_of_texts c.write_verdict.result (form.Verdict c.in-Verdict.claims) c.in_ok-rows-in-Verdict.rows c.args.texts.now c.args.errors.now.stream c.write_verdict.new.errors.stream
    c.in_ok-rows-in-Verdict.ensures.rows c.write_verdict.ensures.says)
