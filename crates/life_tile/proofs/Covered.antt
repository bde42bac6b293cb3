-- Rows of bits that start anywhere in a tile.
use Rattle.std.proofs.Common.{◌≡◌, ◌≢◌, ℕ, ℤ, pos, ◌+ℤ◌, length, refl, subst, ◌+◌, ◌-◌, ◌*◌, ◌/◌, ◌%◌, ◌^◌, ◌<◌, ◌≤◌, ◌⊎◌, inl, inr, ⊎_elim, nat_eq, bit_and, bit_or, min, w64, sym, ap, ◌∙◌, arith}
use Rattle.std.specs.Bool.{IsTrue}
use Rattle.std.specs.Int.{bit_at, bit_not}
use Rattle.std.proofs.lemmas.Bool.{cases_eq, cases_lt}
use borrow.Author.Tests.{eqb-true}
use Rattle.std.proofs.lemmas.Int.{ints}
use Rattle.std.proofs.lemmas.Nat.{pow_pos}
use Rattle.std.proofs.lemmas.Nat.Bits.{bit_at_and, bit_at_or, bit_at_not, bit_at-lt, bit_at-zero, bit_at_above, bit_at_cat_low, bit_at_cat_high, same_from_bits}
use Rattle.life_model.specs.Cell.{Cell, plus}
use Rattle.life_model.specs.Generation.{Generation}
use Rattle.life_cells.specs.Limits.{IsPlace, age_limit}
use Rattle.life_plane.proofs.Strips.{bit_at_mod, max_zero_left, max_zero_right}
use Rattle.life_slots.specs.Ends.{IsMember}
use Rattle.life_slots.specs.Places.{start_at}
use Rattle.life_slots.specs.Slots.{place_of, tile_of, IsReached}
use Rattle.life_slots.proofs.Bits.{bit_at_rest, bit_cases}
use Rattle.life_tile.specs.declared.tile_store.TileStore.{TileStore}
use Rattle.life_tile.specs.Reach.{corner_at, IsTileIn}
use Rattle.life_tile.specs.TileStores.{IsKept, members_of}
use Rattle.life_tile.proofs.Edges.{member_live, live_member}

no_more : (n : ℕ) → n ≡ n + 0
no_more n = omega arith

-- a word moved up
moved_low : (n k j : ℕ) → j < 64 → j < k → bit_at (n * 2 ^ k % 2 ^ 64) j ≡ 0
moved_low n k j small below =
    bit_at_mod (n * 2 ^ k) 64 j small ∙ ap (λ m. bit_at m j) (no_more (n * 2 ^ k)) ∙ bit_at_cat_low n k 0 j below ∙ bit_at-zero j

moved_high : (n k j : ℕ) → j < 64 → k ≤ j → bit_at (n * 2 ^ k % 2 ^ 64) j ≡ bit_at n (j - k)
moved_high n k j small above =
    bit_at_mod (n * 2 ^ k) 64 j small ∙ ap (λ m. bit_at m j) (no_more (n * 2 ^ k)) ∙ bit_at_cat_high n k 0 j (pow_pos k) above

pub joined_near : (west east s j : ℕ) → s < 64 → s + j < 64 → bit_at (bit_or (west / 2 ^ s) (east * 2 ^ (64 - s) % 2 ^ 64)) j ≡ bit_at west (s + j)
joined_near west east s j small near =
    bit_at_or (west / 2 ^ s) (east * 2 ^ (64 - s) % 2 ^ 64) j
    ∙ max_zero_right _ _ _ (moved_low east (64 - s) j (omega arith) (omega arith)) (bit_at_rest west s j)

pub joined_far : (west east s j : ℕ) → west < 2 ^ 64 → s < 64 → j < 64 → 64 ≤ s + j → bit_at (bit_or (west / 2 ^ s) (east * 2 ^ (64 - s) % 2 ^ 64)) j ≡ bit_at east (s + j - 64)
joined_far west east s j fits small inside far =
    let at : j - (64 - s) ≡ s + j - 64 = omega arith in
    bit_at_or (west / 2 ^ s) (east * 2 ^ (64 - s) % 2 ^ 64) j
    ∙ max_zero_left _ _ _ (bit_at_rest west s j ∙ bit_at_above west 64 (s + j) fits far) (moved_high east (64 - s) j inside (omega arith) ∙ ap (bit_at east) at)

-- the bits of one word that are not those of another
pub bits_left : (word row j : ℕ) → row < 2 ^ 64 → j < 64 → bit_and word (bit_not w64 row) ≡ 0 → bit_at word j ≡ 1 → bit_at row j ≡ 1
bits_left word row j fits inside none one =
    let both : min (bit_at word j) (bit_at (bit_not w64 row) j) ≡ 0 = sym (bit_at_and word (bit_not w64 row) j) ∙ ap (λ n. bit_at n j) none ∙ bit_at-zero j in
    let other : bit_at (bit_not w64 row) j ≡ 1 - bit_at row j = bit_at_not w64 row j fits inside in
    let less : bit_at row j < 2 = bit_at-lt row j in
    omega arith

no_bit_left : (word row j : ℕ) → word < 2 ^ 64 → row < 2 ^ 64 → ((j : ℕ) → j < 64 → bit_at word j ≡ 1 → bit_at row j ≡ 1) → bit_at (bit_and word (bit_not w64 row)) j ≡ 0
no_bit_left word row j word_fits fits each =
    bit_at_and word (bit_not w64 row) j
    ∙ ⊎_elim
    (λ (set : bit_at word j ≡ 1).
    ⊎_elim
    (λ (inside : j < 64).
    let one : bit_at row j ≡ 1 = each j inside set in
    let other : bit_at (bit_not w64 row) j ≡ 1 - bit_at row j = bit_at_not w64 row j fits inside in
    none_of_two (bit_at word j) (bit_at (bit_not w64 row) j) (inr (let none : 1 - bit_at row j ≡ 0 = omega arith in other ∙ none)))
    (λ (past : 64 ≤ j). none_of_two (bit_at word j) (bit_at (bit_not w64 row) j) (inl (bit_at_above word 64 j word_fits past)))
    (cases_lt j 64))
    (λ (clear : bit_at word j ≡ 0). none_of_two (bit_at word j) (bit_at (bit_not w64 row) j) (inl clear))
    (bit_cases word j)
  where
    none_of_two : (a b : ℕ) → (a ≡ 0) ⊎ (b ≡ 0) → min a b ≡ 0
    none_of_two a b either = ⊎_elim (λ (none : a ≡ 0). let is : min a b ≡ 0 = omega arith in is) (λ (none : b ≡ 0). let is : min a b ≡ 0 = omega arith in is) either

pub no_bits_left : (word row : ℕ) → word < 2 ^ 64 → row < 2 ^ 64 → ((j : ℕ) → j < 64 → bit_at word j ≡ 1 → bit_at row j ≡ 1) → bit_and word (bit_not w64 row) ≡ 0
no_bits_left word row word_fits fits each =
    same_from_bits (bit_and word (bit_not w64 row)) 0 (λ j. no_bit_left word row j word_fits fits each ∙ sym (bit_at-zero j))

pub is_none : (n : ℕ) → IsTrue (nat_eq n 0) → n ≡ 0
is_none n is = eqb-true n 0 is

pub none_is : (n : ℕ) → n ≡ 0 → IsTrue (nat_eq n 0)
none_is n is = ap (λ m. nat_eq m 0) is

-- the first cell of a tile, and the one below its last row, are places
pub corner_placed : (age : ℕ) (place : ℤ × ℤ) → age ≤ age_limit → IsReached age place → IsPlace (corner_at place)
corner_placed age place young reached = record {
  left = omega (arith, ints, reached.west);
  right = omega (arith, ints, reached.east);
  above = omega (arith, ints, reached.north);
  below = omega (arith, ints, reached.south);
}

pub corner_placed_below : (age : ℕ) (place : ℤ × ℤ) → age ≤ age_limit → IsReached age place → IsPlace (start_at place.0, start_at place.1 +ℤ pos 63)
corner_placed_below age place young reached = record {
  left = omega (arith, ints, reached.west);
  right = omega (arith, ints, reached.east);
  above = omega (arith, ints, reached.north);
  below = omega (arith, ints, reached.south);
}

module _ (other : TileStore) (kept : IsKept other) (G : Generation) (by : Cell) where
  abbrev tile_covered : ℕ → Type 0
  tile_covered k = IsTileIn G (tile_of other.current.items k) (corner_at (place_of other.slots.items k)) by

  pub tile_by_members : ((c : Cell) → IsMember (members_of other) c → IsMember G (plus c by)) → (k : ℕ) → 0 < k → k < length other.slots.items → tile_covered k
  tile_by_members all k later inside = record {
    each = λ x y wide high live.
        let cell : Cell = (start_at (place_of other.slots.items k).0 +ℤ pos x, start_at (place_of other.slots.items k).1 +ℤ pos y) in
        all cell
        (live_member other kept cell
        (record {
          k = k;
          later = later;
          before = inside;
          here = record { x = x; y = y; wide = wide; high = high; live = live; is = refl };
        }));
  }

  pub members_by_tiles : ((k : ℕ) → 0 < k → k < length other.slots.items → tile_covered k) → (c : Cell) → IsMember (members_of other) c → IsMember G (plus c by)
  members_by_tiles tiles c is =
      let live = member_live other kept c is in
      let here = live.here in
      subst (λ (d : Cell). IsMember G (plus d by)) (sym here.is) ((tiles live.k live.later live.before).each here.x here.y here.wide here.high here.live)

  pub tiles_more : (n : ℕ) → ((k : ℕ) → 0 < k → k < n → tile_covered k) → tile_covered n → (k : ℕ) → 0 < k → k < n + 1 → tile_covered k
  tiles_more n before here k later less =
      ⊎_elim (λ (same : k ≡ n). subst tile_covered (sym same) here) (λ (apart : k ≢ n). before k later (omega arith)) (cases_eq k n)
