-- The rows of a bundle, one by one.
use Rattle.std.proofs.Common.{◌≡◌, ℕ, List, [], ◌∷◌, ◌++◌, map, length, count_by, refl}
use Rattle.census_format.specs.Lines.{Collection, Group, found_of, is_refused, is_resolved, is_unresolved, saying_lines, sayings_count}
use Rattle.census_format.specs.Found.{finding_of, lent}
use Rattle.census_format.specs.Objects.{Object, code_line, objects, same_object, tally}
use Rattle.census_format.specs.Reports.{end_of, section_of}
use Rattle.census_rows.specs.declared.row.Outcome.{Outcome}
use Rattle.census_rows.specs.declared.row.Outcome.TheVariants as outcomes
use Rattle.census_rows.specs.declared.row.Row.{Row}
use Rattle.census_rows.specs.declared.row.Row.TheVariants.{Open, Code, Close, End}
use Rattle.life_answer.specs.declared.finding.Answer.{Answer}
use Rattle.life_answer.specs.declared.finding.Outcome as becomes
use Rattle.life_cells.specs.Rules.{rule_text}
use Rattle.life_model.specs.Rule.{Rule}

abbrev pub row_outcome : Rule → ℕ → becomes.Outcome → Outcome
row_outcome rule population outcome = outcomes.Found (lent (rule_text rule)) population (finding_of outcome)

abbrev pub open_row : ℕ → Collection → Row
open_row c f = Open c (length f.sayings) (lent f.name)

abbrev pub code_row : ℕ → Object × ℕ → Row
code_row c counted = Code c (lent (rule_text counted.0.rule)) (lent counted.0.code) counted.1

abbrev pub code_groups : ℕ → List (Object × ℕ) → List Group
code_groups c counted = map (λ e. code_line c e.0 e.1) counted

abbrev pub close_row : ℕ → List Answer → ℕ → Row
close_row c found count = Close c count (count_by is_resolved found) (count_by is_unresolved found) (count_by is_refused found)

abbrev pub counted_in : Collection → List (Object × ℕ)
counted_in f = tally same_object (objects (found_of f.sayings))

pub code-is : (c : ℕ) (counted : Object × ℕ) → code_line c counted.0 counted.1 ≡ code_row c counted ∷ []
unfolding code_line
code-is c counted = refl

-- the groups of a collection
pub section-is : (c : ℕ) (f : Collection)
    → section_of c f ≡ (open_row c f ∷ []) ∷ (saying_lines c 1 f.sayings ++ (code_groups c (counted_in f) ++ (close_row c (found_of f.sayings) (length f.sayings) ∷ []) ∷ []))
section-is c f = refl

pub end-is : (b : List Collection) → end_of b ≡ End (length b) (sayings_count b) ∷ []
unfolding end_of
end-is b = refl
