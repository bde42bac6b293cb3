-- The rows of a report.
use Rattle.std.specs.Prelude.{ℕ, suc, ◌+◌, List, [], ◌∷◌, ◌++◌, Bool, length, map, count_by, if◌then◌else◌}
use Rattle.census_bundle.specs.declared.bundle.Entry.{Entry}
use Rattle.census_bundle.specs.declared.bundle.Folder.{Folder}
use Rattle.census_rows.specs.declared.kinds.Class.TheVariants as class
use Rattle.census_rows.specs.declared.row.Row.{Row}
use Rattle.census_rows.specs.declared.row.Row.TheVariants as row
use Rattle.census_rows.specs.Lines.{text_of}
use Rattle.life_answer.specs.Questions.{answer_to_question}
use Rattle.life_answer.specs.declared.finding.Answer.{Answer}
use Rattle.life_answer.specs.declared.finding.Answer.TheVariants.{Found, Refused}
use Rattle.life_answer.specs.declared.finding.Outcome.{Outcome}
use Rattle.life_answer.specs.declared.finding.Outcome.TheVariants.{Ash, Grows}
use Rattle.life_answer.specs.declared.part.Part.{Part}
use Rattle.life_answer.specs.declared.question.Question.{Question}
use Rattle.life_answer.specs.declared.tale.Engines.{Engines}
use Rattle.census_format.specs.Found.{is_of, lent, outcome_of}

-- the row of a line, or the rows of one pattern, which stay together
abbrev pub Group : Type 0
Group = List Row

-- The report on a pattern: its name, and its answer.
pub record Saying : Type 0 where
  pub name : List ℕ
  pub found : Answer

-- the report on a collection: its name, and the reports on its patterns, in their order
pub record Collection : Type 0 where
  pub name : List ℕ
  pub sayings : List Saying

-- the answer for each pattern
abbrev pub found_of : List Saying → List Answer
found_of sayings = map (λ (s : Saying). s.found) sayings

-- the bytes of all rows
abbrev pub groups_text : List Group → List ℕ
groups_text [] = []
groups_text (group ∷ groups) = text_of group ++ groups_text groups

-- the collection, the number of its patterns, and its name
abbrev pub opening_line : ℕ → ℕ → List ℕ → Group
opening_line c patterns name = row.Open c patterns (lent name) ∷ []

unfoldable pub open_line : ℕ → Folder → Group
open_line c f = opening_line c (length f.entries) f.name

-- the collection, the pattern's number, its answer, and its name
abbrev pub pattern_row : ℕ → ℕ → Answer → List ℕ → Row
pattern_row c i found name = row.Line c i (outcome_of found) (lent name)

-- the collection, the pattern's number, the code of an object, and the number of parts that are that object
abbrev pub part_row : ℕ → ℕ → Part → Row
part_row c i part = row.Part c i (lent part.code) part.count

-- The collection, the pattern's number, that of these engines among the pattern's, the way of each, and the number of these
-- engines.
abbrev pub engine_row : ℕ → ℕ → ℕ → Engines → Row
engine_row c i e engines =
    row.Engine c i e engines.tale.period engines.tale.dx engines.tale.dy engines.count

-- the collection, the pattern's number, that of these engines, the code of an object, and the number of such objects that each
-- of them emits in a period
abbrev pub emits_row : ℕ → ℕ → ℕ → Part → Row
emits_row c i e part = row.Emits c i e (lent part.code) part.count

-- the `engine` row of engines with the same tale, and after it their `emits` rows
abbrev pub engine_rows : ℕ → ℕ → ℕ → Engines → List Row
engine_rows c i e engines = engine_row c i e engines ∷ map (emits_row c i e) engines.tale.emits

-- the rows of all these engines, the first of which have the number e
abbrev pub rows_of_engines : ℕ → ℕ → ℕ → List Engines → List Row
rows_of_engines c i e [] = []
rows_of_engines c i e (engines ∷ lines) = engine_rows c i e engines ++ rows_of_engines c i (suc e) lines

-- the further rows of an outcome: the `part` rows of a pattern that has fallen apart, and the `engine` and `emits` rows of one
-- that grows
abbrev pub outcome_rows : ℕ → ℕ → Outcome → List Row
outcome_rows c i (Ash onset parts) = map (part_row c i) parts
outcome_rows c i (Grows engines) = rows_of_engines c i 1 engines
outcome_rows c i _ = []

-- the further rows of a pattern with this answer
abbrev pub rows_behind : ℕ → ℕ → Answer → List Row
rows_behind c i (Found rule finding) = outcome_rows c i finding.outcome
rows_behind c i (Refused number) = []

-- the answer for an entry: one whose text is lost is refused with the number 0, which no fault of a text has
unfoldable pub answer_to_entry : Question → Entry → Answer
answer_to_entry question e = if e.is_lost then Refused 0 else answer_to_question question e.text

-- the `line` row of a pattern, and after it the further rows
unfoldable pub saying_rows : ℕ → ℕ → Saying → Group
saying_rows c i s = pattern_row c i s.found s.name ∷ rows_behind c i s.found

-- the rows of these patterns, the first of which has the number i
abbrev pub saying_lines : ℕ → ℕ → List Saying → List Group
saying_lines c i [] = []
saying_lines c i (s ∷ ss) = saying_rows c i s ∷ saying_lines c (suc i) ss

-- the report on an entry
abbrev pub saying_to : Question → Entry → Saying
saying_to question e = record { name = e.name; found = answer_to_entry question e }

-- the rows of an entry
abbrev pub pattern_rows : Question → ℕ → ℕ → Entry → Group
pattern_rows question c i e = saying_rows c i (saying_to question e)

-- the rows of these entries, the first of which has the number i
abbrev pub pattern_lines : Question → ℕ → ℕ → List Entry → List Group
pattern_lines question c i es = saying_lines c i (map (saying_to question) es)

-- the answers for each of these patterns
abbrev pub answers : Question → List Entry → List Answer
answers question es = map (answer_to_entry question) es

-- the pattern recurs, has fallen apart or grows
abbrev pub is_resolved : Answer → Bool
is_resolved = is_of class.Resolved

-- the pattern does none of these within the bound
abbrev pub is_unresolved : Answer → Bool
is_unresolved = is_of class.Unresolved

-- the pattern is lost, or its text has a fault
abbrev pub is_refused : Answer → Bool
is_refused = is_of class.Refused

-- the collection, the number of its patterns, and the numbers of those that are reported as `ok`, `ash` or `grows`, as `none`
-- or `large`, and as `bad`
abbrev pub closing_line : ℕ → ℕ → List Answer → Group
closing_line c patterns found = row.Close c patterns (count_by is_resolved found) (count_by is_unresolved found) (count_by is_refused found) ∷ []

unfoldable pub close_line : Question → ℕ → Folder → Group
close_line question c f = closing_line c (length f.entries) (answers question f.entries)

-- the number of patterns in these collections
abbrev pub pattern_count : List Folder → ℕ
pattern_count [] = 0
pattern_count (f ∷ fs) = length f.entries + pattern_count fs

-- the number of patterns in the collections of these reports
abbrev pub sayings_count : List Collection → ℕ
sayings_count [] = 0
sayings_count (f ∷ fs) = length f.sayings + sayings_count fs

-- the number of collections, and the number of patterns in all
abbrev pub ending_line : ℕ → ℕ → Group
ending_line collections patterns = row.End collections patterns ∷ []

unfoldable pub end_line : List Folder → Group
end_line b = ending_line (length b) (pattern_count b)
