-- The one RLE text that is written for a rule and a generation.
use Rattle.std.specs.Prelude.{ℕ, ◌+◌, ◌-◌, Bool, true, false, List, [], ◌∷◌, ◌++◌, codes, map, decimal, ◌==◌, if◌then◌else◌}
use Rattle.std.specs.List.{range_with_len}
use Rattle.life_model.specs.Box.{extent, width, height}
use Rattle.life_model.specs.Generation.{Generation}
use Rattle.life_model.specs.Rule.{Rule}
use Rattle.texts.specs.Bytes.{is_in}
use Rattle.life_cells.specs.Rules.{rule_text}
use Rattle.life_text.specs.Filled.{filled_lines}
use Rattle.life_text.specs.Places.{places}

-- `x = W, y = H, rule = R` and its LF
unfoldable pub header : Rule → ℕ → ℕ → List ℕ
header R w h = codes "x = " ++ decimal w ++ codes ", y = " ++ decimal h ++ codes ", rule = " ++ rule_text R ++ codes "\n"

-- # Rows and runs

-- a cell and the rows of the cells after it: it is in the first of these rows, or in a row of its own
abbrev pub onto_rows : ℕ × ℕ → List (ℕ × List ℕ) → List (ℕ × List ℕ)
onto_rows c [] = (c.1, c.0 ∷ []) ∷ []
onto_rows c ((y, columns) ∷ rows) = if c.1 == y then (y, c.0 ∷ columns) ∷ rows else (c.1, c.0 ∷ []) ∷ (y, columns) ∷ rows

-- the rows that have live cells, from the top, each with the columns of its live cells
abbrev pub drawn_rows : List (ℕ × ℕ) → List (ℕ × List ℕ)
drawn_rows [] = []
drawn_rows (c ∷ cells) = onto_rows c (drawn_rows cells)

-- the cells of a row from column 0 up to its last live cell: true for a live one
abbrev pub row_values : List ℕ → List Bool
row_values columns = map (λ x. is_in columns x) (range_with_len 0 (extent columns))

-- a value and the runs of the values after it
abbrev pub run_onto : Bool → List (ℕ × Bool) → List (ℕ × Bool)
run_onto true ((n, true) ∷ runs) = (n + 1, true) ∷ runs
run_onto false ((n, false) ∷ runs) = (n + 1, false) ∷ runs
run_onto b runs = (1, b) ∷ runs

-- the longest runs of equal values: the length and the value
abbrev pub runs_of : List Bool → List (ℕ × Bool)
runs_of [] = []
runs_of (b ∷ values) = run_onto b (runs_of values)

-- # Tokens

-- a token is a count and a tag: `o` for live cells, `b` for dead ones, `$` for the ends of rows and `!` for the end
abbrev pub run_token : ℕ × Bool → ℕ × ℕ
run_token (n, true) = (n, 111)
run_token (n, false) = (n, 98)

abbrev pub row_tokens : List ℕ → List (ℕ × ℕ)
row_tokens columns = map run_token (runs_of (row_values columns))

-- the tokens of these rows: `$` between two, with the distance between them as its count, and `!` after the last
abbrev pub tokens_of_rows : List (ℕ × List ℕ) → List (ℕ × ℕ)
tokens_of_rows [] = (1, 33) ∷ []
tokens_of_rows ((y, columns) ∷ []) = row_tokens columns ++ (1, 33) ∷ []
tokens_of_rows ((y, columns) ∷ (z, others) ∷ rows) = row_tokens columns ++ (z - y, 36) ∷ tokens_of_rows ((z, others) ∷ rows)

-- a count of 1 isn't written
abbrev pub token_text : ℕ × ℕ → List ℕ
token_text (count, tag) = (if count == 1 then [] else decimal count) ++ tag ∷ []

-- # The text

-- the lines of the body, of cells whose least column and row are 0
abbrev pub body_text : List (ℕ × ℕ) → List ℕ
body_text cells = filled_lines 0 (map token_text (tokens_of_rows (drawn_rows cells)))

-- the text of a rule and of the normal form of a set
unfoldable pub rle_text : Rule → Generation → List ℕ
rle_text R G = header R (width G) (height G) ++ body_text (places G)
