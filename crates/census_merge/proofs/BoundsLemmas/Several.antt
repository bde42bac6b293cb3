-- Several reports, read back as one text.
use Rattle.std.proofs.Common.{ℕ, ◌<◌, List, [], ◌∷◌, ◌++◌, length, sym, ap, ◌∙◌, subst, arith, append-nil}
use Rattle.census_readback.specs.Reports.{ReadsAsReports}
use Rattle.census_readback.proofs.Walks.{lines-append, reports-append}
use Rattle.census_rows.specs.Lines.{text_of}
use Rattle.census_rows.specs.declared.row.Row.{Row}
use Rattle.census_format.proofs.Said.{length-under}
use Rattle.census_format.specs.Lines.{Collection}
use Rattle.census_format.specs.Reports.{IsReportOf, said_under}
use Rattle.std.specs.List.{AllByRecursion as Each}
use Rattle.census_merge.proofs.BoundsLemmas.Readings.{asked-lawful}
use Rattle.census_merge.proofs.Readable.{report-read}
use Rattle.census_merge.specs.Lawful.{AreLawful}
use Rattle.census_merge.specs.LawfulTexts.{IsLawfulText}
use Rattle.census_merge.proofs.ReadBack.{merged-report}
use Rattle.census_merge.proofs.Under.{all-sayable}
use Rattle.census_rows.proofs.Texts.{text-append}
use Rattle.census_merge.specs.Bounds.Merging.{AreMade}
use Rattle.census_merge.specs.Joining.{AreAnswered, AreBundles, Asked, EachIsReportOf, all_said, texts}
use Rattle.census_merge.specs.Ranges.{Readable}

read-append : (xs ys : List Row) (s t : List ℕ) → ReadsAsReports xs s → ReadsAsReports ys t → ReadsAsReports (xs ++ ys) (s ++ t)
read-append xs ys s t first second =
    record {
      lines = lines-append xs ys first.lines second.lines;
      whole = ap (λ z. z ++ t) first.whole ∙ ap (λ z. text_of xs ++ z) second.whole ∙ sym (text-append xs ys);
      shape = reports-append xs ys first.shape second.shape;
    }

readable-append : (s t : List ℕ) → Readable s → Readable t → Readable (s ++ t)
readable-append s t first second = record { rows = first.rows ++ second.rows; read = read-append first.rows second.rows s t first.read second.read }

one-readable : (said : List Collection) (text : List ℕ) → AreLawful said → IsReportOf said text → Readable text
one-readable said text lawful report = report-read said lawful.0 lawful.1 text report

-- each report is readable by itself, and so are several, one after another
pub all-readable : (parts : List (List Collection)) (reports : List (List ℕ)) → 0 < length parts → Each AreLawful parts → EachIsReportOf parts reports → Readable (texts reports)
all-readable [] reports some lawful each = absurd (omega (arith, some))
all-readable (said ∷ parts) [] some lawful each = absurd each
all-readable (said ∷ []) (t ∷ []) some lawful each = subst Readable (sym (append-nil t)) (one-readable said t lawful.0 each.0)
all-readable (said ∷ []) (t ∷ u ∷ reports) some lawful each = absurd (each.1)
all-readable (said ∷ other ∷ parts) (t ∷ []) some lawful each = absurd (each.1)
all-readable (said ∷ other ∷ parts) (t ∷ u ∷ reports) some lawful each =
    readable-append t (texts (u ∷ reports)) (one-readable said t lawful.0 each.0) (all-readable (other ∷ parts) (u ∷ reports) (omega arith) lawful.1 each.1)

-- lawful texts are read
pub lawful-read : (text : List ℕ) → IsLawfulText text → Readable text
lawful-read text h = subst Readable (sym h.whole) (all-readable h.parts h.reports h.some h.lawful h.each)

-- the merged report is read back from all of them, and is the report of all their bundles
pub reports-made : (asked : List Asked) (reports : List (List ℕ)) → AreAnswered asked → 0 < length asked → AreBundles asked → EachIsReportOf (all_said asked) reports
    → AreMade asked reports
reports-made asked reports answered some bundles each =
    let size = length-under (λ (a : Asked). said_under a.question a.bundle) asked in
    let all = all-readable (all_said asked) reports (omega (arith, some, size)) (asked-lawful asked answered bundles) each in
    record { rows = all.rows; read = all.read; report = merged-report (all_said asked) reports all.rows (all-sayable asked bundles) each all.read }
