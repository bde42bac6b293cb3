-- The state of the reader: the text from a place on, the tokens there, and a pen that draws them.
use Rattle.std.specs.Prelude.{◌≡◌, ℕ, zero, suc, ◌+◌, min, Bool, false, List, [], ◌∷◌, ◌++◌, drop, Option, Some, None, Result, Ok, Err, slice_index, ◌==◌, ℤ, map, if◌then◌else◌}
use Rattle.std.specs.Option.{option_map}
use Rattle.texts.specs.Bytes.{is_space}
use Rattle.life_text.specs.declared.pen.Pen.{Pen}
use Rattle.life_text.specs.declared.rle.RleFault.{RleFault}
use Rattle.life_text.specs.Rle.{Token, comments_as_blanks, lexemes, tokens, is_live, is_cells, is_row_end, run_length, row, column, live_cells, run_cells, token_fault}
use Rattle.life_cells.specs.Readings.{cell_of_pair}

-- the byte before a place; LF before the first
abbrev pub byte_before : List ℕ → ℕ → ℕ
byte_before text zero = 10
byte_before text (suc at) = slice_index text at

-- true where a byte is in a comment line, where `comment` says so of the byte before it
abbrev pub is_in_comment : Bool → ℕ → ℕ → Bool
is_in_comment comment before c = if before == 10 then c == 35 else comment

-- the text from a place on with its comments blanked, if the byte before it is in no comment
abbrev pub plain_at : List ℕ → ℕ → List ℕ
plain_at text at = comments_as_blanks false (byte_before text at) (drop at text)

abbrev pub tokens_at : List ℕ → ℕ → List Token
tokens_at text at = tokens (lexemes false at (plain_at text at))

-- the pen after a token
abbrev pub pen_after : Pen → Token → Pen
pen_after pen t = record {
  y = pen.y + (if is_row_end t then run_length t else 0);
  x = if is_row_end t then 0 else pen.x + (if is_cells t then run_length t else 0);
  live = pen.live + (if is_live t then run_length t else 0);
}

-- the cells, or the first fault, of what follows a token
abbrev pub cells_or_fault : Option RleFault → List (ℕ × ℕ) → Result (List (ℕ × ℕ)) RleFault → Result (List (ℕ × ℕ)) RleFault
cells_or_fault (Some fault) cells rest = Err fault
cells_or_fault None cells (Ok others) = Ok (cells ++ others)
cells_or_fault None cells (Err fault) = Err fault

-- the cells that tokens draw from a pen's place on, or their first fault
abbrev pub cells_drawn : Pen → List Token → Result (List (ℕ × ℕ)) RleFault
cells_drawn pen [] = Ok []
cells_drawn pen (t ∷ ts) = cells_or_fault (token_fault pen.y pen.x pen.live t) (run_cells pen.y pen.x t) (cells_drawn (pen_after pen t) ts)

-- the pen after these tokens
abbrev pub pen_behind : List Token → Pen
pen_behind before = record { y = row before; x = column before; live = live_cells before }

-- a number greater than any place and any number of live cells
abbrev pub count_cap : ℕ
count_cap = 2097152

-- a token with its count capped
abbrev pub with_capped_count : Token → Token
with_capped_count t = record t { count = option_map (λ n. min n count_cap) t.count }

-- the pen with row and column capped
abbrev pub capped_pen : Pen → Pen
capped_pen pen = record pen { y = min pen.y count_cap; x = min pen.x count_cap }

-- the byte there is no blank and in no comment
abbrev pub IsPlain : List ℕ → ℕ → Type 0
IsPlain text at = (is_space (slice_index text at) ≡ false) × (plain_at text at ≡ slice_index text at ∷ plain_at text (at + 1))

abbrev pub placed_all : Result (List (ℕ × ℕ)) RleFault → Result (List (ℤ × ℤ)) RleFault
placed_all (Ok cells) = Ok (map cell_of_pair cells)
placed_all (Err fault) = Err fault

-- at the first place, with nothing drawn
abbrev pub first_pen : Pen
first_pen = record { y = 0; x = 0; live = 0 }

abbrev pub is_line_feed : ℕ → Bool
is_line_feed c = c == 10
