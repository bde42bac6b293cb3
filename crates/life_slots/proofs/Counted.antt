-- How many cells tiles hold: no cell comes twice, and they are no more than a square that holds them all.
use Rattle.std.proofs.Common.{◌≡◌, ℕ, zero, suc, ℤ, pos, ◌+ℤ◌, ◌+◌, ◌<◌, ◌^◌, ◌%◌, ◌==◌, ⊎_elim, Bool, true, false, cond, List, [], ◌∷◌, length, length-append, slice_index, ◌*◌, ◌≤◌, refl, sym, subst, ap, ◌∙◌, arith, eqb-true, eq-eqb, true≢false}
use Rattle.std.specs.Int.{bit_at}
use Rattle.std.specs.Int.RustNames.{count_ones}
use Rattle.std.specs.FinMap as finmap
use Rattle.std.proofs.lemmas.Nat.{pow_pos, mod-pow-add}
use Rattle.std.proofs.lemmas.Nat.Bits.{bit_at-lt}
use lib.Count.{ones, ones_in, ones_cat}
use Rattle.life_model.specs.Cell.{Cell}
use Rattle.life_model.specs.Generation.{contains, insert, from_list, size}
use Rattle.life_model.proofs.Generations.{contains-from_list, size-empty, size-insert}
use Rattle.life_slots.specs.Cells.{row_cells, block_cells, IsCountFrom}
use Rattle.life_slots.proofs.Orders.{true_or_false}
use Rattle.life_slots.proofs.Members.{Has}
use Rattle.life_slots.proofs.Splits.{not_one}

-- ---- a list in which no cell comes twice is as long as its set is large

abbrev pub IsFresh : List Cell → Type 0
IsFresh [] = Unit {0}
IsFresh (c ∷ cs) = (Has cs c → ⊥) × IsFresh cs

lacks : (cs : List Cell) (c : Cell) → (Has cs c → ⊥) → contains (from_list cs) c ≡ false
unfolding Has
lacks cs c not =
    ⊎_elim (λ has. absurd (not (sym (contains-from_list cs c) ∙ has))) (λ none. none) (true_or_false (contains (from_list cs) c))

pub size-fresh : (cs : List Cell) → IsFresh cs → size (from_list cs) ≡ length cs
size-fresh [] lacks_previous = size-empty
size-fresh (c ∷ cs) lacks_previous =
    let more : size (insert (from_list cs) c) ≡ size (from_list cs) + 1 = size-insert (from_list cs) c (lacks cs c lacks_previous.0) in
    let rest : size (from_list cs) ≡ length cs = size-fresh cs lacks_previous.1 in
    omega arith

-- ---- how many bits are set

bit_small : (b : ℕ) → b < 2 → count_ones b ≡ b
unfolding ones ones_in
bit_small zero small = refl
bit_small (suc zero) small = refl
bit_small (suc (suc b)) small = absurd (omega arith)

ones_more : (word n : ℕ) → count_ones (word % 2 ^ suc n) ≡ bit_at word n + count_ones (word % 2 ^ n)
ones_more word n =
    let more : suc n ≡ 1 + n = omega arith in
    let some : 0 < 2 ^ n = pow_pos n in
    let low : word % 2 ^ n < 2 ^ n = omega arith in
    ap (λ (k : ℕ). count_ones (word % 2 ^ k)) more
    ∙ ap count_ones (mod-pow-add word 1 n)
    ∙ ones_cat n (bit_at word n) (word % 2 ^ n) low
    ∙ ap (λ (k : ℕ). k + count_ones (word % 2 ^ n)) (bit_small (bit_at word n) (bit_at-lt word n))

length-row_cells : (left y : ℤ) (word n : ℕ) → length (row_cells left y word n) ≡ count_ones (word % 2 ^ n)
unfolding row_cells
length-row_cells left y word zero = let none : word % 2 ^ 0 ≡ 0 = omega arith in sym (ap count_ones none ∙ bit_small 0 (omega arith))
length-row_cells left y word (suc n) =
    let before : length (row_cells left y word n) ≡ count_ones (word % 2 ^ n) = length-row_cells left y word n in
    let small : bit_at word n < 2 = bit_at-lt word n in
    ⊎_elim
    (λ (one : (bit_at word n == 1) ≡ true).
    let is : bit_at word n ≡ 1 = eqb-true (bit_at word n) 1 one in
    let more : count_ones (word % 2 ^ suc n) ≡ bit_at word n + count_ones (word % 2 ^ n) = ones_more word n in
    ap (λ (b : Bool). length (cond b ((left +ℤ pos n, y) ∷ row_cells left y word n) (row_cells left y word n))) one
    ∙ row_longer (length (row_cells left y word n)) (count_ones (word % 2 ^ n)) (count_ones (word % 2 ^ suc n)) (bit_at word n) before is more)
    (λ (clear : (bit_at word n == 1) ≡ false).
    let is : bit_at word n ≡ 0 = not_one (bit_at word n) small (λ one. true≢false (sym (eq-eqb (bit_at word n) 1 one) ∙ clear)) in
    ap (λ (b : Bool). length (cond b ((left +ℤ pos n, y) ∷ row_cells left y word n) (row_cells left y word n))) clear
    ∙ row_same (length (row_cells left y word n)) (count_ones (word % 2 ^ n)) (count_ones (word % 2 ^ suc n)) (bit_at word n) before is (ones_more word n))
    (true_or_false (bit_at word n == 1))
  where
    row_longer : (a b c d : ℕ) → a ≡ b → d ≡ 1 → c ≡ d + b → suc a ≡ c
    row_longer a b c d p q r = omega arith

    row_same : (a b c d : ℕ) → a ≡ b → d ≡ 0 → c ≡ d + b → a ≡ c
    row_same a b c d p q r = omega arith

pub length-whole_row : (left y : ℤ) (word : ℕ) → word < 2 ^ 64 → count_ones word ≡ length (row_cells left y word 64)
length-whole_row left y word fits =
    let whole : word % 2 ^ 64 ≡ word = omega arith in
    sym (length-row_cells left y word 64 ∙ ap count_ones whole)

-- one row more of a tile counted
counted_more_at : (rows : List ℕ) (n count row : ℕ) (left top : ℤ) →
    ((left y : ℤ) → row ≡ length (row_cells left y (slice_index rows n) 64)) →
    count ≡ length (block_cells left top rows n) → count + row ≡ length (block_cells left top rows (n + 1))
unfolding block_cells
counted_more_at rows n count row left top counts before =
    let next : suc n ≡ n + 1 = omega arith in
    joined count row (length (row_cells left (top +ℤ pos n) (slice_index rows n) 64)) (length (block_cells left top rows n)) _
    before (counts left (top +ℤ pos n))
    (length-append (row_cells left (top +ℤ pos n) (slice_index rows n) 64) (block_cells left top rows n))
    ∙ ap (λ (k : ℕ). length (block_cells left top rows k)) next
  where
    joined : (a b c d e : ℕ) → a ≡ d → b ≡ c → e ≡ c + d → a + b ≡ e
    joined a b c d e p q r = omega arith

pub counted_none : (rows : List ℕ) (left top : ℤ) → 0 ≡ length (block_cells left top rows 0)
unfolding block_cells
counted_none rows left top = refl

-- a tile has as many cells wherever it stands
pub length-block : (left top : ℤ) (rows : List ℕ) (n : ℕ) → length (block_cells left top rows n) ≡ length (block_cells (pos 0) (pos 0) rows n)
unfolding block_cells
length-block left top rows zero = refl
length-block left top rows (suc n) =
    let word : ℕ = slice_index rows n in
    let row : length (row_cells left (top +ℤ pos n) word 64) ≡ length (row_cells (pos 0) (pos 0 +ℤ pos n) word 64) =
    length-row_cells left (top +ℤ pos n) word 64 ∙ sym (length-row_cells (pos 0) (pos 0 +ℤ pos n) word 64) in
    let rest : length (block_cells left top rows n) ≡ length (block_cells (pos 0) (pos 0) rows n) = length-block left top rows n in
    length-append (row_cells left (top +ℤ pos n) word 64) (block_cells left top rows n)
    ∙ (λ i. row i + rest i)
    ∙ sym (length-append (row_cells (pos 0) (pos 0 +ℤ pos n) word 64) (block_cells (pos 0) (pos 0) rows n))

-- no row counted yet
pub counted_from_none : (rows : List ℕ) (from : ℕ) → IsCountFrom rows (record { from = from; height = 0; cells = 0 })
counted_from_none rows from left top =
    let same : from ≡ from + 0 = omega arith in
    none_more _ ∙ ap (λ (k : ℕ). length (block_cells left top rows k)) same
  where
    none_more : (a : ℕ) → a + 0 ≡ a
    none_more a = omega arith

-- one row more counted
pub counted_from : (rows : List ℕ) (from n count row : ℕ) →
    ((left y : ℤ) → row ≡ length (row_cells left y (slice_index rows (from + n)) 64)) →
    IsCountFrom rows (record { from = from; height = n; cells = count }) → IsCountFrom rows (record { from = from; height = n + 1; cells = count + row })
counted_from rows from n count row counts before left top =
    let next : from + n + 1 ≡ from + (n + 1) = omega arith in
    regroup _ count row
    ∙ counted_more_at rows (from + n) (length (block_cells left top rows from) + count) row left top counts (before left top)
    ∙ ap (λ (k : ℕ). length (block_cells left top rows k)) next
  where
    regroup : (a b d : ℕ) → a + (b + d) ≡ a + b + d
    regroup a b d = omega arith

-- rows without a live cell add none
none_in : (left y : ℤ) (word : ℕ) → word ≡ 0 → 0 ≡ length (row_cells left y word 64)
unfolding count_ones
none_in left y word is =
    let none : count_ones (0 % 2 ^ 64) ≡ 0 = refl in
    sym (length-row_cells left y word 64 ∙ ap (λ (w : ℕ). count_ones (w % 2 ^ 64)) is ∙ none)

some_void : (rows : List ℕ) (from : ℕ) → ((y : ℕ) → y < 8 → slice_index rows (from + y) ≡ 0) → (n : ℕ) → n ≤ 8 → IsCountFrom rows (record { from = from; height = n; cells = 0 })
some_void rows from void zero few = counted_from_none rows from
some_void rows from void (suc n) few =
    let after : n + 1 ≡ suc n = omega arith in
    subst (λ (k : ℕ). IsCountFrom rows (record { from = from; height = k; cells = 0 })) after
    (counted_from rows from n 0 0 (λ left y. none_in left y (slice_index rows (from + n)) (void n (omega arith))) (some_void rows from void n (omega arith)))

counted_void : (rows : List ℕ) (from : ℕ) → ((y : ℕ) → y < 8 → slice_index rows (from + y) ≡ 0) → IsCountFrom rows (record { from = from; height = 8; cells = 0 })
counted_void rows from void = some_void rows from void 8 (omega arith)

-- eight rows more of a tile
pub counted_band : (rows : List ℕ) (band count more : ℕ) →
    ((left top : ℤ) → count ≡ length (block_cells left top rows (8 * band))) → IsCountFrom rows (record { from = 8 * band; height = 8; cells = more }) →
    (left top : ℤ) → count + more ≡ length (block_cells left top rows (8 * (band + 1)))
counted_band rows band count more before is left top =
    let next : 8 * band + 8 ≡ 8 * (band + 1) = omega arith in
    ap (λ (k : ℕ). k + more) (before left top) ∙ is left top ∙ ap (λ (k : ℕ). length (block_cells left top rows k)) next

pub counted_past : (rows : List ℕ) (band count : ℕ) →
    ((left top : ℤ) → count ≡ length (block_cells left top rows (8 * band))) → ((y : ℕ) → y < 8 → slice_index rows (8 * band + y) ≡ 0) →
    (left top : ℤ) → count ≡ length (block_cells left top rows (8 * (band + 1)))
counted_past rows band count before void left top =
    let same : count ≡ count + 0 = omega arith in
    same ∙ counted_band rows band count 0 before (counted_void rows (8 * band) void) left top
