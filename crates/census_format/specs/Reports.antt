-- The definition of a report: what it says of each pattern, the report of a bundle, and the text that each taken ticket
-- releases.
use Rattle.std.specs.Prelude.{◌≡◌, ℕ, suc, ◌-◌, Bool, true, if◌then◌else◌, ◌==◌, ◌&&◌, List, [], ◌∷◌, ◌++◌, Some, None, Option, length, map, take, drop}
use Rattle.census_bundle.specs.declared.ticket.Ticket.{Ticket}
use Rattle.census_bundle.specs.declared.bundle.Folder.{Folder}
use Rattle.census_bundle.specs.declared.bundle.Entry.{Entry}
use Rattle.census_bundle.specs.Tickets.{Tickets, ticket, with_ticket, has_ticket, element_at}
use Rattle.census_format.specs.Lines.{Collection, Group, close_line, closing_line, end_line, ending_line, found_of, groups_text, open_line, opening_line, pattern_count, pattern_lines, saying_lines, saying_to, sayings_count}
use Rattle.census_rows.specs.Lines.{text_of}
use Rattle.census_format.specs.Objects.{code_lines, counted_lines}
use Rattle.life_answer.specs.declared.question.Question.{Question}

-- the rows that end the section of a collection, when each of its patterns has arrived
unfoldable pub closing : Question → ℕ → Folder → List Group
closing question c f = code_lines question c f ++ close_line question c f ∷ []

-- The lines of a collection with this report: the line that opens it, those of its patterns, one for each object that these
-- count, and the line that closes it.
abbrev pub section_of : ℕ → Collection → List Group
section_of c said =
    let found = found_of said.sayings in
    opening_line c (length said.sayings) said.name
    ∷ (saying_lines c 1 said.sayings ++ (counted_lines c found ++ closing_line c (length said.sayings) found ∷ []))

abbrev pub section_if : ℕ → Option Collection → List Group
section_if c None = []
section_if c (Some said) = section_of c said

-- the lines of the collection c
abbrev pub section : List Collection → ℕ → List Group
section said c = section_if c (element_at said c)

-- rows that stay together, and the collection that they belong to
pub record Owned : Type 0 where
  pub owner : ℕ
  pub group : Group

-- the groups that belong to the collection c, in their order
abbrev pub lines_of : ℕ → List Owned → List Group
lines_of c [] = []
lines_of c (l ∷ ls) = if l.owner == c then (l.group ∷ lines_of c ls) else lines_of c ls

-- the bytes of all groups
abbrev pub owned_text : List Owned → List ℕ
owned_text [] = []
owned_text (l ∷ ls) = text_of l.group ++ owned_text ls

-- the last row of a report on these collections
unfoldable pub end_of : List Collection → Group
end_of said = ending_line (length said) (sayings_count said)

-- The text is the rows of the sections of all collections, interleaved line by line, followed by the `end` row. The rows of one
-- pattern stay together.
pub record IsReportOf (said : List Collection) (text : List ℕ) : Type 0 where
  pub groups : List Owned
  pub sections : (c : ℕ) → lines_of c groups ≡ section said c
  pub whole : text ≡ owned_text groups ++ text_of (end_of said)

-- the report on a collection of a bundle for a question
abbrev pub collection_under : Question → Folder → Collection
collection_under question f = record { name = f.name; sayings = map (saying_to question) f.entries }

-- the report on a bundle for a question, collection by collection
abbrev pub said_under : Question → List Folder → List Collection
said_under question b = map (collection_under question) b

-- the text is a report of the bundle for the question
abbrev pub IsReport : List Folder → Question → List ℕ → Type 0
IsReport b question text = IsReportOf (said_under question b) text

-- the text begins a report
pub record IsReportFront (b : List Folder) (question : Question) (text : List ℕ) : Type 0 where
  pub rest : List ℕ
  pub report : IsReport b question (text ++ rest)

-- the number of these patterns, the first of which has the number i, that pass before the first that does not
abbrev pub run_from : (ℕ → Bool) → ℕ → List Entry → ℕ
run_from passes i [] = 0
run_from passes i (e ∷ es) = if passes i then suc (run_from passes (suc i) es) else 0

-- the greatest k such that the patterns 1 to k of the collection are taken
abbrev pub run_of : Tickets → ℕ → Folder → ℕ
run_of taken c f = run_from (λ i. has_ticket taken (ticket c i)) 1 f.entries

-- the collections from c on have arrived whole
abbrev pub all_from : Tickets → ℕ → List Folder → Bool
all_from taken c [] = true
all_from taken c (f ∷ fs) = (run_of taken c f == length f.entries) && all_from taken (suc c) fs

-- no pattern is missing
abbrev pub has_all : List Folder → Tickets → Bool
has_all b taken = all_from taken 1 b

abbrev pub end_if : Bool → List Folder → List ℕ
end_if whole b = if whole then text_of (end_line b) else []

-- the closing lines if the collection has arrived whole
abbrev pub closing_if : Bool → Question → ℕ → Folder → List Group
closing_if whole question c f = if whole then closing question c f else []

abbrev pub opening : Question → ℕ → List Folder → List ℕ
opening question c [] = []
opening question c (f ∷ fs) =
    text_of (open_line c f) ++ groups_text (closing_if (0 == length f.entries) question c f) ++ opening question (suc c) fs

-- the text that is released before any ticket is taken
abbrev pub text_at_start : List Folder → Question → List ℕ
text_at_start b question = opening question 1 b ++ end_if (pattern_count b == 0) b

-- the lines of a collection that taking one of its tickets releases, if its run grows from k to m
abbrev pub folder_out : Question → ℕ → Folder → ℕ → ℕ → List Group
folder_out question c f k m =
    take (m - k) (drop k (pattern_lines question c 1 f.entries)) ++ closing_if (m == length f.entries) question c f

abbrev pub folder_text_released : Question → Option Folder → Tickets → Ticket → List ℕ
folder_text_released question None taken t = []
folder_text_released question (Some f) taken t = groups_text (folder_out question t.folder f (run_of taken t.folder f) (run_of (with_ticket taken t) t.folder f))

-- the text that is released by taking a ticket, if these were taken before
abbrev pub text_released : List Folder → Question → Tickets → Ticket → List ℕ
text_released b question taken t = folder_text_released question (element_at b t.folder) taken t ++ end_if (has_all b (with_ticket taken t)) b
