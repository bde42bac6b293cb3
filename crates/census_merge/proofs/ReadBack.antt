-- Reports that are read back say what is found of their bundles.
use Rattle.std.specs.List.{AllByRecursion as Each}
use Rattle.std.proofs.Common.{◌≡◌, None as Nothing, ℕ, ◌<◌, ◌≤◌, ◌^◌, List, [], ◌∷◌, ◌++◌, length, ap, ◌∙◌, sym, refl, arith, append-nil, append_assoc}
use Rattle.census_format.specs.Lines.{Collection, sayings_count}
use Rattle.census_bundle.specs.Sizes.{count_limit}
use Rattle.census_format.specs.Reports.{IsReportOf, end_of, owned_text}
use Rattle.census_merge.specs.Merged.{merged_rows}
use Rattle.census_merge.specs.Sums.{first_excess, no_sums}
use Rattle.census_readback.specs.Reports.{ReadsAsReports}
use Rattle.census_readback.specs.Shapes.{all_rows}
use Rattle.census_readback.specs.Texts.{AllLines}
use Rattle.census_rows.specs.declared.row.Row.{Row}
use Rattle.census_rows.specs.declared.row.Row.TheVariants.{End}
use Rattle.census_rows.specs.Lines.{line_of, row_text, text_of}
use Rattle.census_merge.specs.Joining.{EachIsReportOf, EachTells, joined, texts}
use Rattle.census_merge.specs.Telling.{Tells, rows_in}
use Rattle.census_merge.proofs.CutRows.{cut-end, cut-rows, isnt-empty}
use Rattle.census_merge.proofs.Fitting.{fitting}
use Rattle.census_merge.proofs.Joined.{joined-tell}
use Rattle.census_merge.proofs.Grouped.{in-sections}
use Rattle.census_merge.proofs.Named.{IsCut, few-patterns, sections-cut}
use Rattle.census_merge.proofs.Rowed.{end-is}
use Rattle.census_merge.proofs.Texts.{owned-rows, told-report}
use Rattle.census_merge.specs.Lawful.{AreSayable}

record ReportCut (b : List Collection) (rows : List Row) (more : List ℕ) : Type 0 where
  told : List Row
  rest : List Row
  whole : rows ≡ told ++ rest
  tells : Tells b told
  lines : AllLines rest
  left : text_of rest ≡ more

cut-report : (b : List Collection) (text : List ℕ) (rows : List Row) (more : List ℕ) → AreSayable b → IsReportOf b text → AllLines rows
    → text_of rows ≡ text ++ more → ReportCut b rows more
cut-report b text rows more bundle report each e =
    let told = rows_in report.groups in
    let end = End (length b) (sayings_count b) in
    let last : text_of (end_of b) ≡ line_of end = ap text_of (end-is b) ∙ append-nil (line_of end) in
    let start = cut-rows told (in-sections (λ c row. IsCut row) IsCut (λ c row h. h) b report.groups report.sections (sections-cut b bundle)) rows (text_of (end_of b) ++ more) each
    (e ∙ ap (λ w. w ++ more) report.whole ∙ append_assoc (owned_text report.groups) (text_of (end_of b)) more
    ∙ ap (λ w. w ++ (text_of (end_of b) ++ more)) (owned-rows report.groups)) in
    let few : length b < 2 ^ 64 = (let most_of = bundle.few in omega (arith, most_of)) in
    let ended = cut-end (length b) (sayings_count b) start.rest more few (few-patterns b bundle) start.lines (start.left ∙ ap (λ w. w ++ more) last) in
    record {
      told = start.body ++ end ∷ [];
      rest = ended.rest;
      whole = start.whole ∙ ap (λ w. start.body ++ w) ended.whole ∙ sym (append_assoc start.body (end ∷ []) ended.rest);
      tells = record { groups = report.groups; sections = report.sections; body = start.body; spelled = start.spelled; whole = ap (λ w. start.body ++ w) (sym (end-is b)) };
      lines = ended.lines;
      left = ended.left;
    }

none-left : (rows : List Row) → text_of rows ≡ [] → rows ≡ []
none-left [] e = refl
none-left (row ∷ rows) e = absurd (isnt-empty (row_text row) (text_of rows) (sym e ∙ append_assoc (row_text row) (10 ∷ []) (text_of rows)))

pub read-tells : (b : List Collection) (text : List ℕ) (rows : List Row)
    → AreSayable b → IsReportOf b text → ReadsAsReports rows text → Tells b rows
read-tells b text rows bundle report read =
    let one = cut-report b text rows [] bundle report read.lines (sym read.whole ∙ sym (append-nil text)) in
    let all : rows ≡ one.told = one.whole ∙ ap (λ w. one.told ++ w) (none-left one.rest one.left) ∙ append-nil one.told in
    record {
      groups = one.tells.groups;
      sections = one.tells.sections;
      body = one.tells.body;
      spelled = one.tells.spelled;
      whole = all ∙ one.tells.whole;
    }

record ReportsCut (parts : List (List Collection)) (rows : List Row) : Type 0 where
  reports : List (List Row)
  tell : EachTells parts reports
  whole : rows ≡ all_rows reports

cut-reports : (parts : List (List Collection)) (reports : List (List ℕ)) (rows : List Row)
    → Each AreSayable parts → EachIsReportOf parts reports → AllLines rows → text_of rows ≡ texts reports → ReportsCut parts rows
cut-reports [] [] rows small h each e = record { reports = []; tell = tt; whole = none-left rows e }
cut-reports [] (text ∷ reports) rows small h each e = absurd h
cut-reports (b ∷ parts) [] rows small h each e = absurd h
cut-reports (b ∷ parts) (text ∷ reports) rows small h each e =
    let one = cut-report b text rows (texts reports) small.0 h.0 each e in
    let more = cut-reports parts reports one.rest small.1 h.1 one.lines one.left in
    record {
      reports = one.told ∷ more.reports;
      tell = (one.tells, more.tell);
      whole = one.whole ∙ ap (λ w. one.told ++ w) more.whole;
    }

pub merged-report : (parts : List (List Collection)) (reports : List (List ℕ)) (rows : List Row)
    → Each AreSayable parts → EachIsReportOf parts reports → ReadsAsReports rows (texts reports) → IsReportOf (joined parts) (text_of (merged_rows rows))
merged-report parts reports rows small h read =
    let all = cut-reports parts reports rows small h read.lines (sym read.whole) in
    told-report (joined parts) (merged_rows rows)
    (let tells = joined-tell parts all.reports all.tell in
    record {
      groups = tells.groups;
      sections = tells.sections;
      body = tells.body;
      spelled = tells.spelled;
      whole = ap merged_rows all.whole ∙ tells.whole;
    })

pub fitting-reports : (parts : List (List Collection)) (reports : List (List ℕ)) (rows : List Row)
    → Each AreSayable parts → EachIsReportOf parts reports → ReadsAsReports rows (texts reports) → length (joined parts) ≤ count_limit → first_excess 1 no_sums rows ≡ Nothing
fitting-reports parts reports rows small h read fit =
    let all = cut-reports parts reports rows small h read.lines (sym read.whole) in
    ap (first_excess 1 no_sums) all.whole ∙ fitting parts all.reports small all.tell fit
