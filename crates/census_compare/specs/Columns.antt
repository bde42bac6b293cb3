-- The columns of claims.
use Rattle.std.specs.Prelude.{ℕ, ◌-◌, Bool, true, false, ◌&&◌, ◌||◌, ◌==◌, if◌then◌else◌, not, Option, Some, None, List, [], ◌∷◌, codes, drop, find, length, nat_eq, take}
use Rattle.std.specs.Char.{is_ascii_digit, is_ascii_whitespace}
use Rattle.std.specs.Cmp.Lexicographic.{pointwise}
use Rattle.std.specs.List.{list_all, prefix_len, suffix_len}
use Rattle.census_table.specs.Columns.{name_of}
use Rattle.census_table.specs.declared.column.Column.{Column}
use Rattle.census_table.specs.declared.column.Column.TheVariants as column

-- the columns that a claim may have
abbrev pub claimable : List Column
claimable = column.Name ∷ column.CollectionName ∷ column.Status ∷ column.Rule ∷ column.Population ∷ column.Onset ∷ column.Period ∷ column.Dx ∷ column.Dy ∷ column.Code ∷ column.Objects ∷ column.Engines ∷ []

-- the column that has this name, if there is one; codes have another name too
abbrev pub column_of : List ℕ → Option Column
column_of title = if pointwise nat_eq title (codes "apgcode") then Some column.Code else find (λ column. pointwise nat_eq title (name_of column)) claimable

-- a text without the white space at its ends
abbrev pub trimmed : List ℕ → List ℕ
trimmed text =
    let rest = drop (prefix_len is_ascii_whitespace text) text in
    take (length rest - suffix_len is_ascii_whitespace rest) rest

-- a title of a header, and its column
pub record Title : Type 0 where
  pub text : List ℕ
  pub column : Option Column

abbrev pub title_of : List ℕ → Title
title_of cell = record { text = trimmed cell; column = column_of (trimmed cell) }

abbrev pub is_name : Option Column → Bool
is_name (Some column.Name) = true
is_name _ = false

-- what is claimed in it is compared, and does not only say which pattern is meant
abbrev pub is_compared : Option Column → Bool
is_compared None = false
is_compared (Some column.Name) = false
is_compared (Some column.CollectionName) = false
is_compared _ = true

-- it is compared, or it is no column of claims
abbrev pub is_listed : Bool → Option Column → Bool
is_listed true column = is_compared column
is_listed false None = true
is_listed false _ = false

abbrev pub is_empty : List ℕ → Bool
is_empty [] = true
is_empty (byte ∷ bytes) = false

-- a number without a sign, as a table has it: digits, and if there are several, the first is not 0
abbrev pub is_number : List ℕ → Bool
is_number [] = false
is_number (digit ∷ digits) = if digit == 48 then is_empty digits else list_all is_ascii_digit (digit ∷ digits)

-- a number that may have a `-` before it, unless it is 0
abbrev pub is_signed : List ℕ → Bool
is_signed [] = false
is_signed (byte ∷ bytes) = if byte == 45 then is_number bytes && not (pointwise nat_eq bytes (48 ∷ [])) else is_number (byte ∷ bytes)

-- what a cell that is not empty may have in a column
abbrev pub has_form : Option Column → List ℕ → Bool
has_form (Some column.Population) cell = is_number cell
has_form (Some column.Onset) cell = is_number cell
has_form (Some column.Period) cell = is_number cell
has_form (Some column.Objects) cell = is_number cell
has_form (Some column.Engines) cell = is_number cell
has_form (Some column.Dx) cell = is_signed cell
has_form (Some column.Dy) cell = is_signed cell
has_form _ cell = true

-- an empty cell claims nothing
abbrev pub fits : Option Column → List ℕ → Bool
fits column cell = is_empty cell || has_form column cell
