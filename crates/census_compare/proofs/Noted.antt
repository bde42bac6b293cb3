-- What is counted, one more row at a time.
use Rattle.std.proofs.Common.{◌≡◌, ℕ, ◌+◌, ◌<◌, ◌≤◌, Bool, true, false, List, [], ◌∷◌, ◌++◌, length, take, get_or, refl, ap, ◌∙◌, arith, if◌then◌else◌}
use Rattle.std.proofs.lemmas.List.{take_more}
use Rattle.census_rows.specs.declared.row.Outcome.{Outcome}
use Rattle.census_rows.specs.declared.row.Row.{Row}
use Rattle.census_readback.specs.Shapes.{is_line, lines_that}

swap : (a b n : ℕ) → a + (b + n) ≡ b + (a + n)
swap a b n = omega arith

lines-end : (kind : Outcome → Bool) (rows : List Row) (row : Row) → lines_that kind (rows ++ row ∷ []) ≡ (if is_line kind row then 1 else 0) + lines_that kind rows
lines-end kind [] row = refl
lines-end kind (first ∷ rows) row =
    ap (λ n. (if is_line kind first then 1 else 0) + n) (lines-end kind rows row)
    ∙ swap (if is_line kind first then 1 else 0) (if is_line kind row then 1 else 0) (lines_that kind rows)

pub lines-more : (kind : Outcome → Bool) (rows : List Row) (i : ℕ) (d : Row) → i < length rows
    → lines_that kind (take (i + 1) rows) ≡ (if is_line kind (get_or rows i d) then 1 else 0) + lines_that kind (take i rows)
lines-more kind rows i d less = ap (lines_that kind) (take_more rows i d less) ∙ lines-end kind (take i rows) (get_or rows i d)

pub one-most : (b : Bool) → (if b then 1 else 0) ≤ 1
one-most true = omega arith
one-most false = omega arith
