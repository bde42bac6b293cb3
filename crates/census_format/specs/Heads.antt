-- The parts of a pattern's lines before its name and after it.
use Rattle.std.specs.Prelude.{ℕ, List, ◌∷◌, ◌++◌, codes, decimal}
use Rattle.census_bundle.specs.declared.bundle.Entry.{Entry}
use Rattle.census_bundle.specs.declared.ticket.Ticket.{Ticket}
use Rattle.census_rows.specs.Lines.{fields_text, outcome_fields, text_of}
use Rattle.life_answer.specs.declared.finding.Answer.{Answer}
use Rattle.census_format.specs.Found.{outcome_of}
use Rattle.census_format.specs.Lines.{rows_behind}

-- the line of a pattern with this answer, up to its name
unfoldable pub line_head : Ticket → Answer → List ℕ
line_head t found = codes "line" ++ fields_text (decimal t.folder ∷ decimal t.number ∷ outcome_fields (outcome_of found))

-- the lines after that of a pattern with this answer
unfoldable pub line_tail : Ticket → Answer → List ℕ
line_tail t found = text_of (rows_behind t.folder t.number found)

-- the lines that begin with a head, before the name of a pattern, and end with a tail
abbrev pub line_with_head : List ℕ → Entry → List ℕ → List ℕ
line_with_head head e tail = (head ++ 32 ∷ e.name ++ codes "\n") ++ tail
