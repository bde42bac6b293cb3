-- Rows on pages.
use Rattle.std.proofs.Common.{◌≡◌, ℕ, zero, suc, ◌+◌, ◌-◌, ◌*◌, ◌<◌, ◌≤◌, List, [], ◌∷◌, ◌++◌, ap, ◌∙◌, sym, refl, arith, length, length-append, get_or, append_assoc}
use Rattle.std.proofs.lemmas.List.{append-nil, get_or_append_left, get_or-append_right}
use Rattle.census_rows.specs.declared.row.Row.{Row}
use Rattle.census_rows.specs.Store.Paged.{AreFull, rows_of_pages}

pub full-size : (pages : List (List Row)) → AreFull pages → length (rows_of_pages pages) ≡ length pages * 64
full-size [] are = refl
full-size (page ∷ pages) are = (let there = full-size pages are.1 in let size = length-append page (rows_of_pages pages) in omega (arith, there, size, are.0))

pub full-more : (pages : List (List Row)) (page : List Row) → AreFull pages → length page ≡ 64 → AreFull (pages ++ page ∷ [])
full-more [] page are size = (size, tt)
full-more (first ∷ pages) page are size = (are.0, full-more pages page are.1 size)

pub rows-more : (pages : List (List Row)) (page : List Row) → rows_of_pages (pages ++ page ∷ []) ≡ rows_of_pages pages ++ page
rows-more [] page = append-nil page
rows-more (first ∷ pages) page = ap (λ w. first ++ w) (rows-more pages page) ∙ sym (append_assoc first (rows_of_pages pages) page)

pub page-full : (pages : List (List Row)) (index : ℕ) (page : List Row) → AreFull pages → index < length pages → length (get_or pages index page) ≡ 64
page-full [] index page are less = absurd (omega arith)
page-full (first ∷ pages) zero page are less = are.0
page-full (first ∷ pages) (suc index) page are less = page-full pages index page are.1 (omega arith)

-- the row of a full page
pub page-row : (pages : List (List Row)) (last : List Row) (index number : ℕ) (page : List Row) (row : Row) → AreFull pages → index < length pages → number < 64
    → get_or (rows_of_pages pages ++ last) (index * 64 + number) row ≡ get_or (get_or pages index page) number row
page-row [] last index number page row are less few = absurd (omega arith)
page-row (first ∷ pages) last zero number page row are less few =
    let here : 0 * 64 + number ≡ number = omega arith in
    ap (λ k. get_or (rows_of_pages (first ∷ pages) ++ last) k row) here ∙ ap (λ w. get_or w number row) (append_assoc first (rows_of_pages pages) last)
    ∙ get_or_append_left first (rows_of_pages pages ++ last) row number (omega (arith, are.0))
page-row (first ∷ pages) last (suc index) number page row are less few =
    let behind : (suc index * 64 + number) - 64 ≡ index * 64 + number = omega arith in
    ap (λ w. get_or w (suc index * 64 + number) row) (append_assoc first (rows_of_pages pages) last)
    ∙ get_or-append_right first (rows_of_pages pages ++ last) 64 (suc index * 64 + number) row are.0 (omega arith)
    ∙ ap (λ k. get_or (rows_of_pages pages ++ last) k row) behind ∙ page-row pages last index number page row are.1 (omega arith) few

-- a row after those of the full pages
pub last-row : (pages : List (List Row)) (last : List Row) (index : ℕ) (row : Row) → AreFull pages → length pages * 64 ≤ index
    → get_or (rows_of_pages pages ++ last) index row ≡ get_or last (index - length pages * 64) row
last-row pages last index row are over = get_or-append_right (rows_of_pages pages) last (length pages * 64) index row (full-size pages are) over
