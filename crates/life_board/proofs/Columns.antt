-- The columns in which a tile has a live cell.
use Rattle.std.proofs.Common.{◌≡◌, ◌≢◌, ℕ, ◌+◌, ◌*◌, ◌%◌, ◌^◌, ◌<◌, ◌≤◌, ◌⊎◌, inl, ⊎_elim, ◌↔◌, List, w64, slice_index, slice_set, bit_or, max, sym, ap, ◌∙◌, below_more, arith}
use Rattle.std.specs.Int.{bit_at}
use Rattle.std.proofs.lemmas.Bool.{cases_eq, cases_lt}
use Rattle.std.proofs.lemmas.Nat.Bits.{bit_at_or, bit_at-zero, bit_at_set_same, bit_at_set_other}
use Rattle.life_plane.specs.Area.{tile_cell}
use Rattle.life_plane.specs.declared.tile.Tile.{Tile}
use Rattle.life_slots.proofs.EndCells.{one_is_not_none}
use Rattle.life_slots.proofs.Lists.{set_there}
use Rattle.life_board.specs.Squares.{AreColumnsOf}
use Rattle.life_model.proofs.Numbers.{max_zero, zero_max}

-- no row so far has a live cell in the columns whose bit is not set
abbrev pub AreColumnsTo : ℕ → List ℕ → ℕ → Type 0
AreColumnsTo columns rows n = (x : ℕ) → x < 64 → (bit_at columns x ≡ 0) ↔ ((k : ℕ) → k < n → bit_at (slice_index rows k) x ≡ 0)

pub columns_none : (rows : List ℕ) (n : ℕ) → ((k : ℕ) → k < n → slice_index rows k ≡ 0) → AreColumnsTo 0 rows n
columns_none rows n void = λ x wide. (λ none k less. ap (λ w. bit_at w x) (void k less) ∙ bit_at-zero x, λ dead. bit_at-zero x)

-- one more row, which is changed
pub columns_more : (rows : List ℕ) (columns y row : ℕ) → AreColumnsTo columns rows y →
    AreColumnsTo (bit_or columns (slice_index (slice_set rows y row) y)) (slice_set rows y row) (y + 1)
columns_more rows columns y row before = λ x wide.
    let here : ℕ = slice_index (slice_set rows y row) y in
    let is : bit_at (bit_or columns (slice_index (slice_set rows y row) y)) x ≡ max (bit_at columns x) (bit_at (slice_index (slice_set rows y row) y) x) =
    bit_at_or columns here x in
    let old : (k : ℕ) → k < y → bit_at (slice_index (slice_set rows y row) k) x ≡ bit_at (slice_index rows k) x =
    λ k less. (let apart : k ≢ y = omega arith in ap (λ w. bit_at w x) (set_there rows y k row 0 apart)) in (
      λ none.
          let both = zero_max (bit_at columns x) (bit_at (slice_index (slice_set rows y row) y) x) (sym is ∙ none) in
          below_more (λ (k : ℕ). bit_at (slice_index (slice_set rows y row) k) x ≡ 0) y (λ k less. old k less ∙ (before x wide).0 both.0 k less) both.1,
      λ dead.
          is
          ∙ max_zero (bit_at columns x) (bit_at (slice_index (slice_set rows y row) y) x)
          ((before x wide).1 (λ k less. sym (old k less) ∙ dead k (omega arith))) (dead y (omega arith)),
    )

-- if no later row has a live cell, these are the tile's columns
pub columns_all : (tile : Tile) (columns n : ℕ) → n ≤ 64 → AreColumnsTo columns tile.rows n → ((k : ℕ) → n ≤ k → k < 64 → slice_index tile.rows k ≡ 0) → AreColumnsOf columns tile
columns_all tile columns n few to void = λ x wide. (
  λ none y high.
      ⊎_elim (λ (before : y < n). (to x wide).0 none y before)
      (λ (past : n ≤ y). ap (λ w. bit_at w x) (void y past high) ∙ bit_at-zero x)
      (cases_lt y n),
  λ dead. (to x wide).1 (λ k less. dead k (omega arith)),
)

-- one cell made live
pub columns_put : (before after : Tile) (columns x y : ℕ) → x < 64 → y < 64 → AreColumnsOf columns before → tile_cell after x y ≡ 1 →
    ((p q : ℕ) → p < 64 → (p ≢ x) ⊎ (q ≢ y) → tile_cell after p q ≡ tile_cell before p q) →
    AreColumnsOf (bit_or columns (1 * 2 ^ x % 2 ^ 64)) after
columns_put before after columns x y wide high old here others = λ p p_wide.
    ⊎_elim
    (λ (same : p ≡ x).
    let set : bit_at (bit_or columns (1 * 2 ^ x % 2 ^ 64)) p ≡ 1 = ap (bit_at (bit_or columns (1 * 2 ^ x % 2 ^ 64))) same ∙ bit_at_set_same w64 columns x wide in (
      λ none. absurd (one_is_not_none _ set none),
      λ dead. absurd (one_is_not_none _ here (ap (λ n. tile_cell after n y) (sym same) ∙ dead y high)),
    ))
    (λ (apart : p ≢ x).
    let other : bit_at (bit_or columns (1 * 2 ^ x % 2 ^ 64)) p ≡ bit_at columns p = bit_at_set_other w64 columns x wide p apart in (
      λ none q q_high. others p q p_wide (inl apart) ∙ (old p p_wide).0 (sym other ∙ none) q q_high,
      λ dead. other ∙ (old p p_wide).1 (λ q q_high. sym (others p q p_wide (inl apart)) ∙ dead q q_high),
    ))
    (cases_eq p x)
