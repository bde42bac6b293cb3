-- If something is cut off a report, its `end` row is.
use Rattle.std.proofs.Common.{◌≡◌, ℕ, ◌+◌, ◌<◌, ◌^◌, false, cond, ltb, List, [], ◌∷◌, ◌++◌, length, length-append, ap, ◌∙◌, refl, arith, append_assoc}
use Rattle.std.specs.List.{AllByRecursion as Each}
use Rattle.census_format.specs.Lines.{Collection, sayings_count}
use Rattle.census_bundle.specs.Tickets.{element_at}
use Rattle.census_merge.specs.Kept.{is_end, whole_count}
use Rattle.census_merge.proofs.Ranks.{one}
use Rattle.census_format.specs.Reports.{IsReportOf, end_of}
use Rattle.census_readback.specs.Texts.{AllLines}
use Rattle.census_rows.specs.declared.row.Row.{Row}
use Rattle.census_rows.specs.declared.row.Row.TheVariants.{Open, Line, Part, Engine, Emits, Code, Close, End}
use Rattle.census_rows.specs.Lines.{line_of, text_of}
use Rattle.census_merge.specs.Telling.{rows_in}
use Rattle.census_merge.proofs.Grouped.{in-sections}
use Rattle.census_merge.proofs.Named.{IsCut, sections-cut}
use Rattle.census_merge.proofs.Parsed.{end-cut}
use Rattle.census_merge.proofs.Rowed.{end-is}
use Rattle.census_merge.proofs.Shifted.{IsLasting, section-lasting}
use Rattle.census_merge.proofs.Texts.{owned-rows}
use Rattle.census_merge.proofs.CutsLemmas.Front.{NoneEnds, same-row}
use Rattle.census_merge.proofs.CutsLemmas.Spelled.{same-end}
use Rattle.census_merge.specs.Lawful.{AreSayable}

lasting-end : (row : Row) → IsLasting row → is_end row ≡ false
lasting-end (Open collection patterns name) e = refl
lasting-end (Line collection pattern outcome name) e = refl
lasting-end (Part collection pattern code count) e = refl
lasting-end (Engine collection pattern number period dx dy count) e = refl
lasting-end (Emits collection pattern engine code count) e = refl
lasting-end (Code collection rule code count) e = refl
lasting-end (Close collection patterns resolved unresolved refused) e = refl
lasting-end (End collections patterns) e = absurd (cc)

some-left : (text rest : List ℕ) → 0 < length rest → text ++ rest ≡ [] → ⊥
some-left text rest some e = (let sum = length-append text rest in let none : length (text ++ rest) ≡ 0 = ap length e in omega (arith, sum, none, some))

-- rows whose lines come before the end of the last line end no report
none-end : (last : Row) → IsCut last → (told : List Row) → Each IsCut told → Each IsLasting told
    → (rows : List Row) (rest : List ℕ) → AllLines rows → 0 < length rest → text_of rows ++ rest ≡ text_of told ++ (line_of last ++ []) → NoneEnds rows
none-end last cut told each lasting [] rest lines some e = tt
none-end last cut [] each lasting (row ∷ rows) rest lines some e =
    let first = same-row row last rows rest [] lines.0 cut e in
    absurd (some-left (text_of rows) rest some first.left)
none-end last cut (t ∷ told) each lasting (row ∷ rows) rest lines some e =
    let behind = text_of told ++ (line_of last ++ []) in
    let first = same-row row t rows rest behind lines.0 each.0 (e ∙ append_assoc (line_of t) (text_of told) (line_of last ++ [])) in
    (same-end row t first.spelled ∙ lasting-end t lasting.0, none-end last cut told each.1 lasting.1 rows rest lines.1 some first.left)

count-none : (rows : List Row) → NoneEnds rows → whole_count rows ≡ 0
count-none [] h = refl
count-none (row ∷ rows) h =
    let w = whole_count rows in
    let none : w ≡ 0 = count-none rows h.1 in
    let more : ltb 0 w ≡ false = ap (ltb 0) none in
    ap (λ v. cond v (w + 1) (one (is_end row))) more ∙ ap one h.0

-- if a lawful report was cut, none of its whole rows ends it
pub no-end : (b : List Collection) (rows : List Row) (rest : List ℕ) → AreSayable b → AllLines rows → 0 < length rest
    → IsReportOf b (text_of rows ++ rest) → whole_count rows ≡ 0
no-end b rows rest bundle lines some report =
    let told = rows_in report.groups in
    let last = End (length b) (sayings_count b) in
    let few : length b < 2 ^ 64 = (let most_of = bundle.few in omega (arith, most_of)) in
    count-none rows
    (none-end last (end-cut (length b) (sayings_count b), few) told
    (in-sections (λ c row. IsCut row) IsCut (λ c row h. h) b report.groups report.sections (sections-cut b bundle))
    (in-sections (λ c row. IsLasting row) IsLasting (λ c row h. h) b report.groups report.sections (λ c. section-lasting c (element_at b c)))
    rows rest lines some
    (report.whole ∙ ap (λ w. w ++ text_of (end_of b)) (owned-rows report.groups) ∙ ap (λ w. text_of told ++ text_of w) (end-is b)))
