-- Names in a text.
use Rattle.std.specs.Prelude.{ℕ, ◌+◌, ◌-◌, Bool, ◌||◌, ◌==◌, if◌then◌else◌, Option, Some, None, Result, Ok, Err, List, [], ◌∷◌, codes, length, nat_eq, take}
use Rattle.std.specs.List.{after_first, before_first, ends_with, slice_split, starts_with}
use Rattle.census_facts.specs.Names.{Entry, entry, is_empty, with_entry}

abbrev pub is_line_feed : ℕ → Bool
is_line_feed byte = byte == 10

abbrev pub is_tab : ℕ → Bool
is_tab byte = byte == 9

-- a line without the CR that it may end with
abbrev pub content : List ℕ → List ℕ
content line = if ends_with nat_eq line (codes "\r") then take (length line - 1) line else line

-- true where a line is empty or a comment
abbrev pub is_passed_over : List ℕ → Bool
is_passed_over line = is_empty line || starts_with nat_eq line (codes "#")

-- the entry of the parts of a line before and after its first tab
abbrev pub entry_on : List ℕ → Entry
entry_on line = entry (before_first is_tab line) (after_first is_tab line)

-- the entries with that of a line; none if the line has an empty code or name, or repeats a code
abbrev pub with_line : List Entry → List ℕ → Option (List Entry)
with_line entries line = if is_passed_over line then Some entries else with_entry entries (entry_on line)

-- the entries with those of lines that are numbered from `number`, or the number of the first line that has a fault
abbrev pub entries_from : List Entry → ℕ → List (List ℕ) → Result (List Entry) ℕ
entries_from entries number [] = Ok entries
entries_from entries number (line ∷ lines) =
    elim (with_line entries (content line)) [ None ↦ Err number | Some more ↦ entries_from more (number + 1) lines ]

-- The entries of a text, or the number, from 1, of the first line with a fault.
abbrev pub names_in : List ℕ → Result (List Entry) ℕ
names_in text = entries_from [] 1 (slice_split is_line_feed text)
