-- Texts that are reports, one after another.
use Rattle.std.proofs.Common.{◌≡◌, ℕ, ◌<◌, false, List, [], ◌∷◌, ◌++◌, length, refl, sym, ap, ◌∙◌, subst, arith}
use Rattle.std.proofs.lemmas.List.{take_all}
use Rattle.std.specs.List.{AllZip}
use Rattle.census_format.specs.Reports.{IsReportOf}
use Rattle.census_folders.specs.Told.{Told}
use Rattle.census_rows.specs.declared.row.Row.{Row}
use Rattle.census_readback.specs.Reports.{ReadsAsReports}
use Rattle.census_readback.specs.Shapes.{all_rows}
use Rattle.census_readback.specs.Texts.{AllLines}
use Rattle.census_rows.specs.Lines.{text_of}
use Rattle.census_rows.proofs.Texts.{text-append}
use Rattle.census_readback.proofs.Walks.{lines-append}
use Rattle.census_reports.specs.Mending.{AreLookedAt}
use Rattle.census_reports.specs.Outcomes.{WritesReports}
use Rattle.census_reports.specs.Rows.{AreRowsOf}
use Rattle.watched.specs.Streams.{Streams}
use Rattle.census_reports.specs.declared.form.Form.TheVariants.{Merged}
use Rattle.census_reports.specs.declared.reading.Reading.{Reading}
use Rattle.census_reports.specs.declared.reading.Written.{Written}
use Rattle.census_reports.proofs.Joined.{at_end}
use Rattle.census_reports.proofs.Read.{some_text}
use Rattle.census_merge.specs.Joining.{all_said, joined, texts}
use Rattle.census_merge.proofs.ReadBack.{merged-report}
use Rattle.census_merge.proofs.Under.{all-sayable}
use Rattle.census_reports.specs.Lawful.Lawful.{MergesLawfully}

read_joined : (parts : List (List Row)) (read : List (List ℕ)) → AllZip ReadsAsReports parts read → AllLines (all_rows parts) × (texts read ≡ text_of (all_rows parts))
read_joined [] [] each = (tt, refl)
read_joined [] (t ∷ read) each = absurd each
read_joined (p ∷ parts) [] each = absurd each
read_joined (p ∷ parts) (t ∷ read) each =
    let more = read_joined parts read each.1 in (
      lines-append p (all_rows parts) each.0.lines more.0,
      ap (λ w. w ++ texts read) each.0.whole ∙ ap (λ w. text_of p ++ w) more.1 ∙ sym (text-append p (all_rows parts)),
    )

-- the rows of texts are those of the one text that they are, one after another
rows_read : (rows : List Row) (read : List (List ℕ)) → AreRowsOf rows read → 0 < length read → ReadsAsReports rows (texts read)
rows_read rows read is some =
    let all = read_joined is.parts read is.each in
    record {
      lines = subst AllLines (sym is.whole) all.0;
      whole = all.1 ∙ ap text_of (sym is.whole);
      shape = at_end rows read (length read) (subst (AreRowsOf rows) (sym (take_all (length read) read (omega arith))) is) (omega arith) some;
    }

pub merges_lawfully : (held : List ℕ → Told) (words : List (List ℕ)) (before after : Streams) (reading : Reading) (result : Written) → reading.cut ≡ false
    → WritesReports Merged reading result held words before after → MergesLawfully reading.limit held words before.input after.input before.output after.output
merges_lawfully held words before after reading result plain w =
    let read = w.0 in
    let all = w.2.writes.0 in
    let is = w.2.writes.2 in
    let looked = subst (λ cut. AreLookedAt cut read w.2.looked result.cuts.items) plain w.2.looked_at in
    let rows : AreRowsOf all read = subst (AreRowsOf all) looked.0 w.2.writes.1 in
    record {
      read = read;
      reads = w.1;
      made = is.made;
      written = is.written;
      lawful = λ asked reports bundled lawful same.
          let back = rows_read all read rows (some_text held words read before.input after.input w.1.read) in
          subst (λ text. IsReportOf (joined (all_said asked)) text) (sym is.is.2)
          (merged-report (all_said asked) reports all (all-sayable asked bundled) lawful (subst (ReadsAsReports all) (sym same) back));
    }
