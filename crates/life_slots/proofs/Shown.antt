-- The hinge between slots and cells: a cell is live exactly where the bit of its place's tile is set.
use Rattle.std.proofs.Common.{◌≡◌, ℕ, zero, suc, ℤ, pos, ◌+ℤ◌, ◌<◌, ◌⊎◌, inl, inr, ⊎_elim, Bool, true, false, cond, List, [], ◌∷◌, length, Option, Some, None, get_or, slice_index, refl, sym, subst, ap, ◌∙◌, arith}
use Rattle.std.specs.Option.{unwrap_or, option_map}
use Rattle.std.specs.List.{list_any}
use Rattle.std.specs.Map.{lookup}
use Rattle.std.proofs.lemmas.Int.{ints}
use Rattle.std.proofs.lemmas.Nat.Bits.{bit_at-lt}
use Rattle.std.specs.BTreeMap.{IsOrdered, get, is_at}
use Rattle.std.proofs.lemmas.Map.Views.{All-found}
use Rattle.life_model.specs.Cell.{Cell, same_cell}
use Rattle.life_model.specs.Generation.{Generation, contains}
use Rattle.life_model.proofs.Generations.{contains-from_list, same_members}
use Rattle.life_plane.specs.declared.tile.Tile.{Tile}
use Rattle.life_plane.specs.Flags.{as_bit}
use Rattle.life_plane.specs.Area.{tile_cell}
use Rattle.life_slots.specs.Cells.{tiles_cells, state_at}
use Rattle.life_slots.specs.Places.{place_cmp, start_at}
use Rattle.life_plane.proofs.OneCell.{no_cell}
use Rattle.life_slots.proofs.Orders.{place_total, true_or_false}
use Rattle.life_slots.proofs.Members.{Has, BlockHas, EntryHas, row_in, block_in, tiles_has, tiles_in}
use Rattle.life_slots.proofs.Splits.{same_quotient, not_one, Split, split, same_flag}
use Rattle.life_slots.specs.Slots.{Index, slot_at, tile_of, empty_tile, placed_tiles, generation_shown}

pub empty_cell : (x y : ℕ) → tile_cell empty_tile x y ≡ 0
empty_cell x y = no_cell 64 x y

shown_lookup : (test : ℤ × ℤ → Bool) (es : List ((ℤ × ℤ) × ℕ)) (tiles : List Tile) → lookup test (placed_tiles es tiles) ≡ option_map (tile_of tiles) (lookup test es)
shown_lookup test [] tiles = refl
shown_lookup test (e ∷ es) tiles =
    elim (test e.0) as (λ b. cond b (Some (tile_of tiles e.1)) (lookup test (placed_tiles es tiles)) ≡ option_map (tile_of tiles) (cond b (Some e.1) (lookup test es))) [
      | true ↦ refl
      | false ↦ shown_lookup test es tiles
    ]

length-shown : (es : List ((ℤ × ℤ) × ℕ)) (tiles : List Tile) → length (placed_tiles es tiles) ≡ length es
length-shown [] tiles = refl
length-shown (e ∷ es) tiles = ap suc (length-shown es tiles)

get_or-shown : (es : List ((ℤ × ℤ) × ℕ)) (tiles : List Tile) (k : ℕ) (d : (ℤ × ℤ) × ℕ) →
    get_or (placed_tiles es tiles) k (d.0, tile_of tiles d.1) ≡ ((get_or es k d).0, tile_of tiles (get_or es k d).1)
get_or-shown [] tiles k d = refl
get_or-shown (e ∷ es) tiles zero d = refl
get_or-shown (e ∷ es) tiles (suc k) d = get_or-shown es tiles k d

same_remainder : (a b : ℤ) (x j : ℕ) → x < 64 → j < 64 → (start_at a +ℤ pos x) ≡ (start_at b +ℤ pos j) → x ≡ j
same_remainder a b x j p q is = omega (arith, ints)

module _ (index : Index) (tiles : List Tile) (ordered : IsOrdered place_cmp index) (none : tile_of tiles 0 ≡ empty_tile) where
  set_from_has : (column row : ℤ) (x y : ℕ) → x < 64 → y < 64 →
      Has (tiles_cells (placed_tiles index.entries tiles)) (start_at column +ℤ pos x, start_at row +ℤ pos y) → tile_cell (tile_of tiles (slot_at index (column, row))) x y ≡ 1
  set_from_has column row x y p q has =
      let d : (ℤ × ℤ) × ℕ = ((pos 0, pos 0), 0) in
      let entry : EntryHas (placed_tiles index.entries tiles) (start_at column +ℤ pos x, start_at row +ℤ pos y) = tiles_has _ _ has in
      let e : (ℤ × ℤ) × ℕ = get_or index.entries entry.k d in
      let inside : entry.k < length index.entries = subst (λ (n : ℕ). entry.k < n) (length-shown index.entries tiles) entry.inside in
      let block : BlockHas (start_at e.0.0) (start_at e.0.1) (tile_of tiles e.1).rows 64 (start_at column +ℤ pos x, start_at row +ℤ pos y) =
      subst (λ (f : (ℤ × ℤ) × Tile). BlockHas (start_at f.0.0) (start_at f.0.1) f.1.rows 64 (start_at column +ℤ pos x, start_at row +ℤ pos y))
      (get_or-shown index.entries tiles entry.k d) (entry.block (d.0, tile_of tiles d.1)) in
      let is_x : (start_at column +ℤ pos x) ≡ (start_at e.0.0 +ℤ pos block.row.j) = ap (λ (r : ℤ × ℤ). r.0) block.row.is in
      let is_y : (start_at row +ℤ pos y) ≡ (start_at e.0.1 +ℤ pos block.i) = ap (λ (r : ℤ × ℤ). r.1) block.row.is in
      let column_is : column ≡ e.0.0 = same_quotient column e.0.0 x block.row.j p block.row.inside is_x in
      let row_is : row ≡ e.0.1 = same_quotient row e.0.1 y block.i q block.inside is_y in
      let x_is : x ≡ block.row.j = same_remainder column e.0.0 x block.row.j p block.row.inside is_x in
      let y_is : y ≡ block.i = same_remainder row e.0.1 y block.i q block.inside is_y in
      let found : get place_cmp index e.0 ≡ Some e.1 = All-found place_total index ordered entry.k d inside in
      (λ i. tile_cell (tile_of tiles (slot_at index (column_is i, row_is i))) (x_is i) (y_is i))
      ∙ ap (λ o. tile_cell (tile_of tiles (unwrap_or o 0)) block.row.j block.i) found
      ∙ block.row.set_bit

  has_from_set : (column row : ℤ) (x y : ℕ) (k : ℕ) → x < 64 → y < 64 →
      get place_cmp index (column, row) ≡ Some k → tile_cell (tile_of tiles k) x y ≡ 1 →
      Has (tiles_cells (placed_tiles index.entries tiles)) (start_at column +ℤ pos x, start_at row +ℤ pos y)
  has_from_set column row x y k p q found is =
      tiles_in (placed_tiles index.entries tiles) (column, row) (tile_of tiles k) _
      (shown_lookup (is_at (place_cmp (column, row))) index.entries tiles ∙ ap (λ o. option_map (tile_of tiles) o) found)
      (block_in (start_at column) (start_at row) (tile_of tiles k).rows 64 y _ q
      (row_in (start_at column) (start_at row +ℤ pos y) (slice_index (tile_of tiles k).rows y) 64 x p is))

  has_test : (q : Cell) → contains (generation_shown index tiles) q ≡ list_any (same_cell q) (tiles_cells (placed_tiles index.entries tiles))
  unfolding generation_shown
  has_test q = contains-from_list (tiles_cells (placed_tiles index.entries tiles)) q

  option_cases : (o : Option ℕ) → (o ≡ None) ⊎ ((k : ℕ) × (o ≡ Some k))
  option_cases None = inl refl
  option_cases (Some k) = inr (k, refl)

  -- what is at the cell of a place
  pub shown_state : (column row : ℤ) (x y : ℕ) → x < 64 → y < 64 →
      state_at (generation_shown index tiles) (start_at column +ℤ pos x) (start_at row +ℤ pos y) ≡ tile_cell (tile_of tiles (slot_at index (column, row))) x y
  unfolding Has
  shown_state column row x y p q =
      ap as_bit (has_test (start_at column +ℤ pos x, start_at row +ℤ pos y))
      ∙ ⊎_elim
      (λ (has : list_any (same_cell (start_at column +ℤ pos x, start_at row +ℤ pos y)) (tiles_cells (placed_tiles index.entries tiles)) ≡ true).
      ap as_bit has ∙ sym (set_from_has column row x y p q has))
      (λ (lacks : list_any (same_cell (start_at column +ℤ pos x, start_at row +ℤ pos y)) (tiles_cells (placed_tiles index.entries tiles)) ≡ false).
      ap as_bit lacks
      ∙ sym (not_one (tile_cell (tile_of tiles (slot_at index (column, row))) x y) (bit_at-lt _ x)
      (λ one.
      ⊎_elim
      (λ absent.
      let dead : tile_cell (tile_of tiles (slot_at index (column, row))) x y ≡ 0 =
      ap (λ o. tile_cell (tile_of tiles (unwrap_or o 0)) x y) absent ∙ ap (λ (t : Tile). tile_cell t x y) none ∙ empty_cell x y in
      absurd (omega arith))
      (λ some.
      let set_bit : tile_cell (tile_of tiles some.0) x y ≡ 1 = sym (ap (λ o. tile_cell (tile_of tiles (unwrap_or o 0)) x y) some.1) ∙ one in
      let has = has_from_set column row x y some.0 p q some.1 set_bit in
      let never : true ≡ false = sym has ∙ lacks in
      absurd (cc))
      (option_cases (get place_cmp index (column, row))))))
      (true_or_false (list_any (same_cell (start_at column +ℤ pos x, start_at row +ℤ pos y)) (tiles_cells (placed_tiles index.entries tiles))))

-- generations with the same states in the cells of each place are one
pub same_states : (G H : Generation) →
    ((column row : ℤ) (x y : ℕ) → x < 64 → y < 64 →
    state_at G (start_at column +ℤ pos x) (start_at row +ℤ pos y) ≡ state_at H (start_at column +ℤ pos x) (start_at row +ℤ pos y)) →
    G ≡ H
same_states G H same =
    same_members G H
    (λ c.
    let s : Split c.0 = split c.0 in
    let t : Split c.1 = split c.1 in
    same_flag _ _
    ((λ i. state_at G (s.is i) (t.is i)) ∙ same s.quotient t.quotient s.remainder t.remainder s.small t.small ∙ sym (λ i. state_at H (s.is i) (t.is i))))
