-- Rows that are held as bytes and texts.
use Rattle.std.specs.Prelude.{◌≡◌, ℕ, ◌≤◌, ⊤, List, [], ◌∷◌, ◌++◌, drop, length}
use Rattle.census_rows.specs.declared.row.Row.{Row}
use Rattle.census_rows.specs.declared.row.Row.TheVariants.{End}
use Rattle.census_rows.specs.Store.Numbers.{number_in, number_bytes, numbers_bytes}
use Rattle.census_rows.specs.Store.Packed.{Text, row_of}

-- the row at the start of bytes: its kind, the place of its first text, and its numbers
unfoldable pub row_from : Text → List ℕ → List Text → Row
row_from nothing [] texts = End 0 0
row_from nothing (tag ∷ bytes) texts = row_of nothing tag (number_in bytes).1 (drop (number_in bytes).0 texts)

-- the row that begins at a place of the bytes
unfoldable pub row_at : Text → List ℕ → List Text → ℕ → Row
row_at nothing bytes texts place = row_from nothing (drop place bytes) texts

-- the bytes of a row whose first text is at this place
unfoldable pub row_bytes : ℕ → ℕ → List ℕ → List ℕ
row_bytes tag first numbers = tag ∷ (number_bytes first ++ numbers_bytes numbers)

-- the row at a place stays the same, whatever is added after the bytes and the texts
pub record IsSettled (nothing : Text) (bytes : List ℕ) (texts : List Text) (place : ℕ) : Type 0 where
  pub within : place ≤ length bytes
  pub same : (more : List ℕ) (others : List Text) → row_at nothing (bytes ++ more) (texts ++ others) place ≡ row_at nothing bytes texts place

abbrev pub AreSettled : Text → List ℕ → List Text → List ℕ → Type 0
AreSettled nothing bytes texts [] = ⊤
AreSettled nothing bytes texts (place ∷ places) = IsSettled nothing bytes texts place × AreSettled nothing bytes texts places
