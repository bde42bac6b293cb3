use Rattle.std.proofs.Common.{refl}
use Rattle.census_merge.specs.Merged.{merged_rows}
use Rattle.census_rows.specs.Lines.{text_of}
use Rattle.census_reports.specs.declared.form.Form.TheVariants as form
use Rattle.census_reports.proofs.Failing.{refused}
use Rattle.census_reports.proofs.Merging.{few_of}
use Rattle.census_reports.proofs.merged.write_merged.Goals as goal

pub returns-in-Err : goal.returns-in-Err
returns-in-Err g c =
    let read = c.in_ok-look_at.ensures in
    refused c.in-Err.error form.Merged read.0 c.args.texts.now _ read.1 (c.in-Err.ensures read.0 read.1)

pub returns-in-Ok : goal.returns-in-Ok
returns-in-Ok g c =
    let read = c.in_ok-look_at.ensures in
    let few = few_of read.0 c.args.texts.now read.1 in
    let fits = c.in_default.ensures read.0 read.1 in
    (read.0, read.1, record { made = text_of (merged_rows read.0); is = (refl, fits, refl); written = c.in-Ok.ensures read.0 read.1 few fits })

pub returns-in-Err-write_report : goal.returns-in-Err-write_report
returns-in-Err-write_report g c =
    let read = c.in_ok-look_at.ensures in
    let few = few_of read.0 c.args.texts.now read.1 in
    let fits = c.in_default.ensures read.0 read.1 in
    let front = c.in-Err-write_report.ensures read.0 read.1 few fits in
    (read.0, read.1, record { front = (text_of (merged_rows read.0), (refl, fits, refl), front.written); failed = front.failed })
