-- The lines of a bundle text.
use Rattle.std.specs.Prelude.{ℕ, ◌-◌, Bool, List, [], ◌∷◌, drop, length, take, codes, nat_eq, ◌==◌, if◌then◌else◌}
use Rattle.std.specs.List.{starts_with, ends_with, onto_first}

-- the lines of a text, each with its LF where it has one
abbrev pub whole_lines : List ℕ → List (List ℕ)
whole_lines [] = []
whole_lines (c ∷ rest) = if c == 10 then (c ∷ []) ∷ whole_lines rest else onto_first c (whole_lines rest)

-- the line without its LF or CR LF
abbrev pub content : List ℕ → List ℕ
content line =
    if ends_with nat_eq line (codes "\r\n") then take (length line - 2) line else
    (if ends_with nat_eq line (codes "\n") then take (length line - 1) line else line)

abbrev pub is_at_line : List ℕ → Bool
is_at_line line = starts_with nat_eq line (codes "@")

abbrev pub is_folder_line : List ℕ → Bool
is_folder_line line = starts_with nat_eq line (codes "@folder ")

abbrev pub is_file_line : List ℕ → Bool
is_file_line line = starts_with nat_eq line (codes "@file ")

-- the name on such a line: the text after the blank, without the line's ending
abbrev pub line_name : List ℕ → List ℕ
line_name line = content (drop (if is_folder_line line then 8 else 6) line)
