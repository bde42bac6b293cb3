-- The cells of tiles appended to a list, one after another.
use Rattle.std.proofs.Common.{◌≡◌, ℕ, zero, suc, ℤ, pos, ◌+ℤ◌, ◌+◌, ◌<◌, ◌≤◌, ◌==◌, Bool, false, cond, List, [], ◌∷◌, ◌++◌, slice_index, refl, sym, ap, ◌∙◌, append_assoc, eq-eqb, arith}
use Rattle.std.specs.Int.{bit_at}
use Rattle.std.proofs.lemmas.Nat.Bits.{bit_at-zero}
use Rattle.life_plane.specs.declared.tile.Tile.{Tile}
use Rattle.life_slots.specs.Places.{start_at}
use Rattle.life_slots.specs.Cells.{row_cells, block_cells, tiles_cells}

pub row_set : (left y : ℤ) (word n : ℕ) → bit_at word n ≡ 1 → row_cells left y word (suc n) ≡ (left +ℤ pos n, y) ∷ row_cells left y word n
unfolding row_cells
row_set left y word n is = ap (λ (b : Bool). cond b ((left +ℤ pos n, y) ∷ row_cells left y word n) (row_cells left y word n)) (eq-eqb (bit_at word n) 1 is)

zero_not_one : (n : ℕ) → n ≡ 0 → (n == 1) ≡ false
zero_not_one n is = ap (λ m. m == 1) is

row_clear : (left y : ℤ) (word n : ℕ) → bit_at word n ≡ 0 → row_cells left y word (suc n) ≡ row_cells left y word n
unfolding row_cells
row_clear left y word n is = ap (λ (b : Bool). cond b ((left +ℤ pos n, y) ∷ row_cells left y word n) (row_cells left y word n)) (zero_not_one (bit_at word n) is)

pub row_pushed : (left y : ℤ) (word n m : ℕ) (items new start : List (ℤ × ℤ)) → suc n ≡ m → bit_at word n ≡ 1 →
    items ++ row_cells left y word m ≡ start → new ≡ items ++ ((left +ℤ pos n, y) ∷ []) → new ++ row_cells left y word n ≡ start
row_pushed left y word n m items new start next is before after =
    ap (λ (xs : List (ℤ × ℤ)). xs ++ row_cells left y word n) after
    ∙ append_assoc items ((left +ℤ pos n, y) ∷ []) (row_cells left y word n)
    ∙ ap (λ (xs : List (ℤ × ℤ)). items ++ xs) (sym (row_set left y word n is) ∙ ap (row_cells left y word) next)
    ∙ before

pub row_skipped : (left y : ℤ) (word n m : ℕ) (items start : List (ℤ × ℤ)) → suc n ≡ m → bit_at word n ≡ 0 →
    items ++ row_cells left y word m ≡ start → items ++ row_cells left y word n ≡ start
row_skipped left y word n m items start next is before =
    ap (λ (xs : List (ℤ × ℤ)). items ++ xs) (sym (row_clear left y word n is) ∙ ap (row_cells left y word) next) ∙ before

pub block_pushed : (left top : ℤ) (rows : List ℕ) (n m : ℕ) (items new start : List (ℤ × ℤ)) → suc n ≡ m →
    items ++ block_cells left top rows m ≡ start → new ≡ items ++ row_cells left (top +ℤ pos n) (slice_index rows n) 64 →
    new ++ block_cells left top rows n ≡ start
unfolding block_cells
block_pushed left top rows n m items new start next before after =
    ap (λ (xs : List (ℤ × ℤ)). xs ++ block_cells left top rows n) after
    ∙ append_assoc items (row_cells left (top +ℤ pos n) (slice_index rows n) 64) (block_cells left top rows n)
    ∙ ap (λ (k : ℕ). items ++ block_cells left top rows k) next
    ∙ before

pub tiles_pushed : (e : (ℤ × ℤ) × Tile) (all rest : List ((ℤ × ℤ) × Tile)) (items new start : List (ℤ × ℤ)) → all ≡ e ∷ rest →
    items ++ tiles_cells all ≡ start → new ≡ items ++ block_cells (start_at e.0.0) (start_at e.0.1) e.1.rows 64 →
    new ++ tiles_cells rest ≡ start
unfolding tiles_cells
tiles_pushed e all rest items new start is before after =
    ap (λ (xs : List (ℤ × ℤ)). xs ++ tiles_cells rest) after
    ∙ append_assoc items (block_cells (start_at e.0.0) (start_at e.0.1) e.1.rows 64) (tiles_cells rest)
    ∙ sym (ap (λ (xs : List ((ℤ × ℤ) × Tile)). items ++ tiles_cells xs) is)
    ∙ before

pub row_none : (left y : ℤ) (word : ℕ) → row_cells left y word 0 ≡ []
unfolding row_cells
row_none left y word = refl

pub block_none : (left top : ℤ) (rows : List ℕ) → block_cells left top rows 0 ≡ []
unfolding block_cells
block_none left top rows = refl

pub tiles_none : (es : List ((ℤ × ℤ) × Tile)) → es ≡ [] → tiles_cells es ≡ []
unfolding tiles_cells
tiles_none es is = ap tiles_cells is

pub row_of_zeros : (left y : ℤ) (word n : ℕ) → word ≡ 0 → row_cells left y word n ≡ []
row_of_zeros left y word zero none = row_none left y word
row_of_zeros left y word (suc n) none =
    row_clear left y word n (ap (λ (w : ℕ). bit_at w n) none ∙ bit_at-zero n) ∙ row_of_zeros left y word n none

-- where no bit is set below n, and from n on
pub row_empty : (left y : ℤ) (word n : ℕ) → ((j : ℕ) → j < n → bit_at word j ≡ 0) → row_cells left y word n ≡ []
row_empty left y word zero none = row_none left y word
row_empty left y word (suc n) none =
    row_clear left y word n (none n (omega arith)) ∙ row_empty left y word n (λ j less. none j (omega arith))

pub row_short : (left y : ℤ) (word n k m : ℕ) → k + n ≡ m → ((j : ℕ) → n ≤ j → j < m → bit_at word j ≡ 0) → row_cells left y word m ≡ row_cells left y word n
row_short left y word n zero m sum none = let same : m ≡ n = omega arith in ap (row_cells left y word) same
row_short left y word n (suc k) m sum none =
    let next : m ≡ suc (k + n) = omega arith in
    ap (row_cells left y word) next
    ∙ row_clear left y word (k + n) (none (k + n) (omega arith) (omega arith))
    ∙ row_short left y word n k (k + n) refl (λ j from less. none j from (omega arith))

block_skipped : (left top : ℤ) (rows : List ℕ) (n : ℕ) → slice_index rows n ≡ 0 → block_cells left top rows (suc n) ≡ block_cells left top rows n
unfolding block_cells
block_skipped left top rows n none = ap (λ (xs : List (ℤ × ℤ)). xs ++ block_cells left top rows n) (row_of_zeros left (top +ℤ pos n) (slice_index rows n) 64 none)

-- and where no row has a live cell
pub block_empty : (left top : ℤ) (rows : List ℕ) (n : ℕ) → ((j : ℕ) → j < n → slice_index rows j ≡ 0) → block_cells left top rows n ≡ []
block_empty left top rows zero none = block_none left top rows
block_empty left top rows (suc n) none =
    block_skipped left top rows n (none n (omega arith)) ∙ block_empty left top rows n (λ j less. none j (omega arith))

pub block_short : (left top : ℤ) (rows : List ℕ) (n k m : ℕ) → k + n ≡ m → ((j : ℕ) → n ≤ j → j < m → slice_index rows j ≡ 0) → block_cells left top rows m ≡ block_cells left top rows n
block_short left top rows n zero m sum none = let same : m ≡ n = omega arith in ap (block_cells left top rows) same
block_short left top rows n (suc k) m sum none =
    let next : m ≡ suc (k + n) = omega arith in
    ap (block_cells left top rows) next
    ∙ block_skipped left top rows (k + n) (none (k + n) (omega arith) (omega arith))
    ∙ block_short left top rows n k (k + n) refl (λ j from less. none j from (omega arith))
