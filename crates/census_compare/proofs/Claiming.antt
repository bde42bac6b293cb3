-- Rows that claim nothing.
use Rattle.std.proofs.Common.{◌≡◌, ◌≢◌, ◌∙◌, ℕ, Bool, true, false, List, [], ◌∷◌, ◌++◌, append_assoc, ap, length, map, refl, sym, arith, if◌then◌else◌, true≢false}
use Rattle.std.specs.Prelude.{Option, None, Some, Result, Ok, Err, drop}
use Rattle.std.specs.List.{cons_option}
use Rattle.std.specs.Option.{option_map}
use Rattle.std.proofs.lemmas.List.{append-nil}
use Rattle.census_compare.specs.Claims.{Claim, Taken, are_titles, claim_from, claim_in, claims_from, claims_in, claims_left, first_fault, header_in, no_claim, nothing_taken, with_cell}
use Rattle.census_compare.specs.Columns.{Title, fits, title_of}
use Rattle.census_compare.specs.Rows.{Row, whole, broken, rows_of}

none-if : (b : Bool) (claim : Option Claim) → claim ≡ None → (if b then claim else None) ≡ None
none-if true claim e = e
none-if false claim e = refl

-- where there are more or fewer cells than columns
pub claim-unequal : (claim : Claim) (titles : List Title) (cells : List (List ℕ)) → length titles ≢ length cells → claim_from claim titles cells ≡ None
claim-unequal claim [] [] apart = absurd (apart refl)
claim-unequal claim [] (cell ∷ cells) apart = refl
claim-unequal claim (title ∷ titles) [] apart = refl
claim-unequal claim (title ∷ titles) (cell ∷ cells) apart =
    none-if (fits title.column cell) (claim_from (with_cell title.column cell claim) titles cells)
    (claim-unequal (with_cell title.column cell claim) titles cells (λ e. apart (omega (arith, e))))

-- # Claims row by row

abbrev pub taken_of : List Title → List Claim → Taken
taken_of titles claims = record { titles = titles; claims = claims }

-- what is read behind a header, by the line of its first fault
abbrev pub read_by : List Title → List Claim → Option ℕ → Result Taken ℕ
read_by titles claims None = Ok (taken_of titles claims)
read_by titles claims (Some line) = Err line

rows-claim : (title : Title) (titles : List Title) (claims : List Claim) (rows : List Row)
    → claims_from (taken_of (title ∷ titles) claims) rows ≡ read_by (title ∷ titles) (claims ++ claims_left (title ∷ titles) rows) (first_fault (title ∷ titles) rows)
rows-claim title titles claims [] = ap (λ cs. Ok (taken_of (title ∷ titles) cs)) (sym (append-nil claims))
rows-claim title titles claims (broken line ∷ rows) = refl
rows-claim title titles claims (whole line cells ∷ rows) = go (claim_from no_claim (title ∷ titles) cells) refl (λ more. rows-claim title titles more rows)
  where
    all : List Title
    all = title ∷ titles

    row_by : Option Claim → Result Taken ℕ
    row_by o = elim (option_map (λ claim. taken_of all (claims ++ claim ∷ [])) o) [ None ↦ Err line | Some more ↦ claims_from more rows ]

    by_row : Option Claim → Result Taken ℕ
    by_row o = read_by all (claims ++ cons_option o (claims_left all rows)) (elim o [ None ↦ Some line | Some claim ↦ first_fault all rows ])

    go : (claim : Option Claim) → claim_from no_claim all cells ≡ claim
        → ((more : List Claim) → claims_from (taken_of all more) rows ≡ read_by all (more ++ claims_left all rows) (first_fault all rows))
        → row_by (claim_from no_claim all cells) ≡ by_row (claim_from no_claim all cells)
    go None e step = ap row_by e ∙ ap by_row (sym e)
    go (Some claim) e step =
        ap row_by e ∙ step (claims ++ claim ∷ []) ∙ ap (λ cs. read_by all cs (first_fault all rows)) (append_assoc claims (claim ∷ []) (claims_left all rows))
        ∙ ap by_row (sym e)

titles-behind : (titles : List Title) (rows : List Row) → are_titles titles ≡ true
    → claims_from (taken_of titles []) rows ≡ read_by titles (claims_left titles rows) (first_fault titles rows)
titles-behind [] rows e = absurd (true≢false (sym e))
titles-behind (title ∷ titles) rows e = rows-claim title titles [] rows

-- what is read of a text, by its header
abbrev pub read_with : List Row → Result (List Title) ℕ → Result Taken ℕ
read_with rows (Err line) = Err line
read_with rows (Ok titles) = read_by titles (claims_left titles rows) (first_fault titles rows)

header-behind : (rows : List Row) → claims_from nothing_taken rows ≡ read_with (drop 1 rows) (header_in rows)
header-behind [] = refl
header-behind (broken line ∷ rows) = refl
header-behind (whole line cells ∷ rows) = go (are_titles (map title_of cells)) refl
  where
    titles : List Title
    titles = map title_of cells

    row_by : Bool → Result Taken ℕ
    row_by b = elim (if b then Some (taken_of titles []) else None) [ None ↦ Err line | Some more ↦ claims_from more rows ]

    head_by : Bool → Result (List Title) ℕ
    head_by b = if b then Ok titles else Err line

    go : (b : Bool) → are_titles titles ≡ b → row_by (are_titles titles) ≡ read_with rows (head_by (are_titles titles))
    go true e = ap row_by e ∙ titles-behind titles rows e ∙ ap (λ b. read_with rows (head_by b)) (sym e)
    go false e = ap row_by e ∙ ap (λ b. read_with rows (head_by b)) (sym e)

pub claims-by : (text : List ℕ) → claims_in text ≡ read_with (drop 1 (rows_of text)) (header_in (rows_of text))
claims-by text = header-behind (rows_of text)

pub read-fault : (text : List ℕ) (line : ℕ) → header_in (rows_of text) ≡ Err line → claims_in text ≡ Err line
read-fault text line e = claims-by text ∙ ap (read_with (drop 1 (rows_of text))) e

pub read-rows : (text : List ℕ) (titles : List Title) (fault : Option ℕ) → header_in (rows_of text) ≡ Ok titles → first_fault titles (drop 1 (rows_of text)) ≡ fault
    → claims_in text ≡ read_by titles (claims_left titles (drop 1 (rows_of text))) fault
read-rows text titles fault e f =
    claims-by text ∙ ap (read_with (drop 1 (rows_of text))) e ∙ ap (read_by titles (claims_left titles (drop 1 (rows_of text)))) f
