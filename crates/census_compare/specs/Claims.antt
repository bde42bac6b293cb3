-- What the rows of a text claim.
use Rattle.std.specs.Prelude.{ℕ, Bool, ◌&&◌, if◌then◌else◌, Option, Some, None, Result, Ok, Err, List, [], ◌∷◌, ◌++◌, drop, map}
use Rattle.std.specs.List.{cons_option, list_any}
use Rattle.std.specs.Option.{option_map}
use Rattle.census_table.specs.declared.column.Column.{Column}
use Rattle.census_table.specs.declared.column.Column.TheVariants as column
use Rattle.census_compare.specs.Columns.{Title, fits, is_compared, is_name, title_of}
use Rattle.census_compare.specs.Rows.{Row, whole, broken, line_of, rows_of}
use Rattle.census_compare.specs.declared.claim.Claim.{Claim as ClaimRead}
use Rattle.census_compare.specs.declared.claim.Cell.{Cell as CellRead}
use Rattle.census_compare.specs.declared.columns.Title.{Title as TitleRead}
use Rattle.census_compare.specs.declared.reading.Claims.{Claims as ClaimsRead}

-- what a claim says that a pattern has in a column
pub record Cell : Type 0 where
  pub column : Column
  pub value : List ℕ

-- what is claimed about the pattern of this name, in the collection of that name unless this is empty
pub record Claim : Type 0 where
  pub name : List ℕ
  pub collection : List ℕ
  pub cells : List Cell

abbrev pub cell_read : CellRead → Cell
cell_read cell = record { column = cell.column; value = cell.value.items }

abbrev pub claim_read : ClaimRead → Claim
claim_read claim = record { name = claim.name.items; collection = claim.collection.items; cells = map cell_read claim.cells.items }

abbrev pub no_claim : Claim
no_claim = record { name = []; collection = []; cells = [] }

-- a claim with a value in a column: an empty one claims nothing
abbrev pub with_value : Column → List ℕ → Claim → Claim
with_value column [] claim = claim
with_value column (byte ∷ bytes) claim = record claim { cells = claim.cells ++ record { column = column; value = byte ∷ bytes } ∷ [] }

-- a claim with a cell of a column; a column that no claim may have is ignored
abbrev pub with_cell : Option Column → List ℕ → Claim → Claim
with_cell None cell claim = claim
with_cell (Some column.Name) cell claim = record claim { name = cell }
with_cell (Some column.CollectionName) cell claim = record claim { collection = cell }
with_cell (Some column) cell claim = with_value column cell claim

-- what a row with these cells claims, one for each title: None where there are more or fewer, or a cell in a column of
-- numbers is no number
abbrev pub claim_from : Claim → List Title → List (List ℕ) → Option Claim
claim_from claim [] [] = Some claim
claim_from claim (title ∷ titles) (cell ∷ cells) =
    if fits title.column cell then claim_from (with_cell title.column cell claim) titles cells else None
claim_from claim _ _ = None

-- the titles of a text, after its header was read, and what its rows claim
pub record Taken : Type 0 where
  pub titles : List Title
  pub claims : List Claim

abbrev pub nothing_taken : Taken
nothing_taken = record { titles = []; claims = [] }

abbrev pub title_read : TitleRead → Title
title_read title = record { text = title.text.items; column = title.column }

-- these titles have a column of names, and one that is compared
abbrev pub are_titles : List Title → Bool
are_titles titles = list_any (λ title. is_name title.column) titles && list_any (λ title. is_compared title.column) titles

-- with one more row: the first one is the header
abbrev pub with_row : List Title → List (List ℕ) → Taken → Option Taken
with_row [] cells taken = if are_titles (map title_of cells) then Some (record taken { titles = map title_of cells }) else None
with_row (title ∷ titles) cells taken =
    option_map (λ claim. record taken { claims = taken.claims ++ claim ∷ [] }) (claim_from no_claim (title ∷ titles) cells)

-- a text without a header has a fault on its first line
abbrev pub all_taken : List Title → List Claim → Result Taken ℕ
all_taken [] claims = Err 1
all_taken (title ∷ titles) claims = Ok (record { titles = title ∷ titles; claims = claims })

-- the claims with those of these rows, or the line on which the first faulty row begins
abbrev pub claims_from : Taken → List Row → Result Taken ℕ
claims_from taken [] = all_taken taken.titles taken.claims
claims_from taken (whole line cells ∷ rows) =
    elim (with_row taken.titles cells taken) [ None ↦ Err line | Some more ↦ claims_from more rows ]
claims_from taken (broken line ∷ rows) = Err line

-- The titles and the claims of a text, or the line from 1 on which its first fault is.
abbrev pub claims_in : List ℕ → Result Taken ℕ
claims_in text = claims_from nothing_taken (rows_of text)

-- # A text row by row

-- what a row claims; a faulty one claims nothing
abbrev pub claim_in : List Title → Row → Option Claim
claim_in titles (whole line cells) = claim_from no_claim titles cells
claim_in titles (broken line) = None

-- what these rows claim
abbrev pub claims_left : List Title → List Row → List Claim
claims_left titles [] = []
claims_left titles (row ∷ rows) = cons_option (claim_in titles row) (claims_left titles rows)

-- the line of the first row that is no claim
abbrev pub first_fault : List Title → List Row → Option ℕ
first_fault titles [] = None
first_fault titles (row ∷ rows) = elim (claim_in titles row) [ None ↦ Some (line_of row) | Some claim ↦ first_fault titles rows ]

-- the titles of the first row, or the line of a faulty one
abbrev pub header_in : List Row → Result (List Title) ℕ
header_in [] = Err 1
header_in (whole line cells ∷ rows) = if are_titles (map title_of cells) then Ok (map title_of cells) else Err line
header_in (broken line ∷ rows) = Err line

-- the claims that are read again from a text
abbrev pub claims_read : ClaimsRead → List Claim
claims_read claims = claims_left (map title_read claims.titles.items) (drop 1 (rows_of claims.text.now))

abbrev pub all_read : ClaimsRead → Taken
all_read claims = record { titles = map title_read claims.titles.items; claims = claims_read claims }
