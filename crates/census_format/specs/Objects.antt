-- The objects of a collection, and its `code` lines.
use Rattle.std.specs.Prelude.{ℕ, List, [], ◌∷◌, ◌++◌, replicate, Bool, not, ◌&&◌, ◌==◌, nat_eq, map, filter, count_by}
use Rattle.std.specs.Cmp.Lexicographic.{pointwise}
use Rattle.census_bundle.specs.declared.bundle.Folder.{Folder}
use Rattle.life_answer.specs.declared.finding.Answer.{Answer}
use Rattle.life_answer.specs.declared.finding.Answer.TheVariants.{Found, Refused}
use Rattle.life_answer.specs.declared.finding.Outcome.{Outcome}
use Rattle.life_answer.specs.declared.finding.Outcome.TheVariants.{Recurs, Ash}
use Rattle.life_answer.specs.declared.part.Part.{Part}
use Rattle.life_cells.specs.Rules.{rule_text}
use Rattle.life_model.specs.Rule.{Rule}
use Rattle.census_rows.specs.declared.row.Row.TheVariants.{Code}
use Rattle.census_format.specs.Found.{lent}
use Rattle.census_format.specs.Lines.{Group, answers}
use Rattle.life_answer.specs.declared.question.Question.{Question}

-- a rule, and the code of an object under it
pub record Object : Type 0 where
  pub rule : Rule
  pub code : List ℕ

abbrev pub object : Rule → List ℕ → Object
object rule code = record { rule = rule; code = code }

abbrev pub same_rule : Rule → Rule → Bool
same_rule r s = (r.birth == s.birth) && (r.survival == s.survival)

-- the same rule, and the same code byte by byte
abbrev pub same_object : Object → Object → Bool
same_object k l = same_rule k.rule l.rule && pointwise nat_eq k.code l.code

-- the objects that these parts are, each as many times as it is counted
abbrev pub part_objects : Rule → List Part → List Object
part_objects rule [] = []
part_objects rule (part ∷ parts) = replicate part.count (object rule part.code) ++ part_objects rule parts

-- the objects of this outcome
abbrev pub outcome_objects : Rule → Outcome → List Object
outcome_objects rule (Recurs onset period dx dy code) = object rule code ∷ []
outcome_objects rule (Ash onset parts) = part_objects rule parts
outcome_objects rule _ = []

-- the objects of the resolved ones among these answers, in their order
abbrev pub objects : List Answer → List Object
objects [] = []
objects (Found rule finding ∷ found) = outcome_objects rule finding.outcome ++ objects found
objects (Refused number ∷ found) = objects found

-- each of these once, in the order of first appearance
abbrev pub distinct_elements : {A : Type 0} → (A → A → Bool) → List A → List A
distinct_elements same [] = []
distinct_elements same (x ∷ xs) = x ∷ filter (λ y. not (same x y)) (distinct_elements same xs)

-- each of these once, in the order of first appearance, and the number of times that it occurs
abbrev pub tally : {A : Type 0} → (A → A → Bool) → List A → List (A × ℕ)
tally same xs = map (λ x. (x, count_by (same x) xs)) (distinct_elements same xs)

-- the collection, a rule and a code, and a number
unfoldable pub code_line : ℕ → Object → ℕ → Group
code_line c k count = Code c (lent (rule_text k.rule)) (lent k.code) count ∷ []

-- the `code` rows of a collection whose patterns have these answers
abbrev pub counted_lines : ℕ → List Answer → List Group
counted_lines c found = map (λ e. code_line c e.0 e.1) (tally same_object (objects found))

abbrev pub code_lines : Question → ℕ → Folder → List Group
code_lines question c f = counted_lines c (answers question f.entries)
