-- The first and the last live cell of a tile.
use Rattle.std.proofs.Common.{◌≡◌, ℕ, suc, ◌-◌, ◌*◌, ◌%◌, ◌^◌, ◌<◌, ◌≤◌, w64, slice_index, sym, ap, subst, ◌∙◌, arith}
use Rattle.std.specs.Int.{bit_at, trailing_zeros, leading_zeros}
use Rattle.std.proofs.Math.Nat.{pow-suc, div-eq_of_lt-le}
use Rattle.std.proofs.lemmas.Nat.{leading_top}
use Rattle.std.proofs.lemmas.Nat.Bits.{bit_at-zero, bit_at-trailing_zeros, bit_at_above}
use Rattle.life_plane.specs.declared.tile.Tile.{Tile}
use Rattle.life_slots.specs.Ends.{IsVoid, IsFirstIn, IsLastIn}

clear_row : (word x : ℕ) → word ≡ 0 → bit_at word x ≡ 0
clear_row word x clear = ap (λ (w : ℕ). bit_at w x) clear ∙ bit_at-zero x

pub void : (tile : Tile) → ((q : ℕ) → q < 64 → slice_index tile.rows q ≡ 0) → IsVoid tile
void tile clear = record { dead = λ x y wide high. clear_row (slice_index tile.rows y) x (clear y high) }

pub first_found : (tile : Tile) (y : ℕ) → y < 64 → slice_index tile.rows y < 2 ^ 64 → 0 < slice_index tile.rows y →
    ((q : ℕ) → q < y → slice_index tile.rows q ≡ 0) → IsFirstIn tile (trailing_zeros w64 (slice_index tile.rows y)) y
first_found tile y high fits some clear =
    let first = bit_at-trailing_zeros w64 (slice_index tile.rows y) some fits in
    record {
      wide = first.0;
      high = high;
      live = first.1;
      above = λ p q wide less. clear_row (slice_index tile.rows q) p (clear q less);
      before = λ p less. first.2 p less;
    }

-- the highest bit of a word
top_set : (word j : ℕ) → 2 ^ j ≤ word → word < 2 ^ suc j → bit_at word j ≡ 1
top_set word j from under =
    let twice : 2 ^ suc j ≡ 2 ^ j * 2 = pow-suc 2 j in
    ap (λ (n : ℕ). n % 2) (div-eq_of_lt-le {k = 1} (2 ^ j) {m = word} (omega arith) (omega arith))

pub last_found : (tile : Tile) (y : ℕ) → y < 64 → slice_index tile.rows y < 2 ^ 64 → 0 < slice_index tile.rows y →
    ((q : ℕ) → y < q → q < 64 → slice_index tile.rows q ≡ 0) → IsLastIn tile (63 - leading_zeros w64 (slice_index tile.rows y)) y
last_found tile y high fits some clear =
    let word : ℕ = slice_index tile.rows y in
    let top = leading_top 64 word some fits in
    let is : 63 - leading_zeros w64 word ≡ top.0 = (let h = top.1 in omega arith) in
    subst (λ (x : ℕ). IsLastIn tile x y) (sym is) (record {
      wide = (let h = top.1 in omega arith);
      high = high;
      live = top_set word top.0 top.2 top.3;
      below = λ p q wide less inside. clear_row (slice_index tile.rows q) p (clear q less inside);
      behind = λ p past wide. bit_at_above word (suc top.0) p top.3 (let h = past in omega arith);
    })
