-- The lines of a text.
use Rattle.std.specs.Prelude.{ℕ, List, [], ◌∷◌, ◌++◌, ◌≡◌, ◌≢◌, ⊤}
use Rattle.std.specs.List.{AllByRecursion}
use Rattle.census_rows.specs.declared.row.Row.{Row}
use Rattle.census_rows.specs.Lines.{IsRow, SameRow, line_of, row_text, text_of}

-- no byte is LF
abbrev pub HasNoFeed : List ℕ → Type 0
HasNoFeed = AllByRecursion (λ byte. byte ≢ 10)

-- the row is on one line
abbrev pub IsLine : Row → Type 0
IsLine row = IsRow row × HasNoFeed (row_text row)

abbrev pub AllLines : List Row → Type 0
AllLines = AllByRecursion IsLine

-- no row's line is at the start
abbrev pub IsStuck : List ℕ → Type 0
IsStuck text = (row : Row) (after : List ℕ) → IsLine row → text ≢ line_of row ++ after

-- the rows say the same, one by one
abbrev pub SameRows : List Row → List Row → Type 0
SameRows [] [] = ⊤
SameRows (row ∷ rows) (other ∷ others) = SameRow row other × SameRows rows others
SameRows _ _ = ⊥

-- all rows at the start of the text, and what comes after them
pub record Ends (text rest : List ℕ) : Type 0 where
  pub rows : List Row
  pub lines : AllLines rows
  pub whole : text ≡ text_of rows ++ rest
  pub stuck : IsStuck rest
  pub all : (others : List Row) (after : List ℕ) → AllLines others → text ≡ text_of others ++ after → IsStuck after → SameRows rows others × (rest ≡ after)
