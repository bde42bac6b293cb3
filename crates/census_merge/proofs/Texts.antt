-- Rows that say what is found of a bundle are, line by line, its report.
use Rattle.std.proofs.Common.{◌≡◌, ℕ, List, [], ◌∷◌, ◌++◌, map, ap, ◌∙◌, sym, refl}
use Rattle.std.specs.Prelude.{codes}
use Rattle.census_format.specs.Lines.{Collection}
use Rattle.census_format.specs.Reports.{IsReportOf, Owned, end_of, owned_text}
use Rattle.census_rows.specs.declared.row.Row.{Row}
use Rattle.census_rows.specs.Lines.{Spelling, line_of, spelling, spelling_text, text_of}
use Rattle.census_rows.proofs.Texts.{text-append}
use Rattle.census_merge.specs.Telling.{Tells, rows_in}

abbrev spelled_text : List Spelling → List ℕ
spelled_text [] = []
spelled_text (s ∷ ss) = (spelling_text s ++ codes "\n") ++ spelled_text ss

by-spelling : (rows : List Row) → text_of rows ≡ spelled_text (map spelling rows)
by-spelling [] = refl
by-spelling (row ∷ rows) = ap (λ w. line_of row ++ w) (by-spelling rows)

-- rows that are spelled alike have one text
pub text-spelled : (rows others : List Row) → map spelling rows ≡ map spelling others → text_of rows ≡ text_of others
text-spelled rows others e = by-spelling rows ∙ ap spelled_text e ∙ sym (by-spelling others)

pub owned-rows : (groups : List Owned) → owned_text groups ≡ text_of (rows_in groups)
owned-rows [] = refl
owned-rows (l ∷ ls) = ap (λ w. text_of l.group ++ w) (owned-rows ls) ∙ sym (text-append l.group (rows_in ls))

pub told-report : (b : List Collection) (rows : List Row) → Tells b rows → IsReportOf b (text_of rows)
told-report b rows t = record {
  groups = t.groups;
  sections = t.sections;
  whole = ap text_of t.whole ∙ text-append t.body (end_of b)
      ∙ ap (λ w. w ++ text_of (end_of b)) (text-spelled t.body (rows_in t.groups) t.spelled ∙ sym (owned-rows t.groups));
}
