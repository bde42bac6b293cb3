-- One band more of a tile in a step, and one slot more.
use Rattle.std.proofs.Common.{◌≡◌, ◌≢◌, ℕ, ◌+◌, ◌-◌, ◌*◌, ◌%◌, ◌/◌, ◌<◌, ◌≤◌, ◌⊎◌, inl, inr, ⊎_elim, List, [], length, slice_index, slice_set, refl, sym, subst, ap, ◌∙◌, arith}
use Rattle.std.specs.Int.{bit_at}
use Rattle.std.proofs.lemmas.Bool.{cases_eq, cases_lt}
use Rattle.std.proofs.Math.ListN.{length-set}
use Rattle.life_model.specs.Rule.{Rule}
use Rattle.life_plane.specs.declared.tile.Tile.{Tile}
use Rattle.life_plane.specs.Area.{Nine, tile_cell, next_in_area}
use Rattle.life_slots.specs.declared.bands.Bands.{Bands}
use Rattle.life_slots.specs.declared.slot.Slot.{Slot}
use Rattle.life_slots.specs.Slots.{links_of, link_of, tile_of, nine_linked}
use Rattle.life_slots.specs.Rims.{IsNextToBand}
use Rattle.life_slots.specs.Work.{bands_of, band_mark, touch_of, IsTouchedAround, IsTileWorkedOut, IsWorkedOut}
use Rattle.life_slots.proofs.Lists.{set_here, set_there}
use Rattle.life_slots.proofs.Marks.{clear_before}
use Rattle.life_slots.proofs.Marking.{bit_before}

-- no band yet
pub nothing_done : (nine : Nine) (active : Bands) (rule : Rule) (tile : Tile) (columns : List ℕ) → IsTileWorkedOut (record { nine = nine; active = active; rule = rule; before = tile; after = tile; columns = columns; done = 0 })
nothing_done nine active rule tile columns = record {
  next = λ x y wide high less. absurd (omega arith);
  idle = λ x y wide high clear. refl;
  later = λ x y wide high past. refl;
  around = λ m band x y small b_small wide high less. absurd (omega arith);
}

module _ (nine : Nine) (active : Bands) (rule : Rule) (before tile : Tile) (columns : List ℕ) (n : ℕ)
    (worked : IsTileWorkedOut (record { nine = nine; active = active; rule = rule; before = before; after = tile; columns = columns; done = n })) where
  -- bands that have nothing to do
  pub bands_idle : (later : ℕ) → n ≤ later → ((band : ℕ) → n ≤ band → band < later → bit_at active.bits band ≡ 0) → IsTileWorkedOut (record { nine = nine; active = active; rule = rule; before = before; after = tile; columns = columns; done = later })
  bands_idle later more idle = record {
    next = λ x y wide high less busy.
        ⊎_elim
        (λ (old : y / 8 < n). worked.next x y wide high old busy)
        (λ (new : n ≤ y / 8). let never : 1 ≡ 0 = sym busy ∙ idle (y / 8) new less in absurd (omega arith))
        (cases_lt (y / 8) n);
    idle = worked.idle;
    later = λ x y wide high past. worked.later x y wide high (omega arith);
    around = λ m band x y small b_small wide high less near clear.
        ⊎_elim
        (λ (old : y / 8 < n). worked.around m band x y small b_small wide high old near clear)
        (λ (new : n ≤ y / 8). worked.later x y wide high new)
        (cases_lt (y / 8) n);
  }

  -- a band that is worked out
  module _ (after : Tile) (more : List ℕ) (busy : bit_at active.bits n ≡ 1)
      (law : (x y : ℕ) → x < 64 → y < 8 → tile_cell after x (8 * n + y) ≡ next_in_area rule nine x (8 * n + y))
      (others : (x y : ℕ) → (y < 8 * n) ⊎ (8 * n + 8 ≤ y) → tile_cell after x y ≡ tile_cell tile x y)
      (kept : (side k : ℕ) → side < 3 → bit_at (slice_index columns side) k ≡ 1 → bit_at (slice_index more side) k ≡ 1)
      (around : IsTouchedAround more n tile after) where
    apart_from : (x y : ℕ) → y / 8 ≢ n → tile_cell after x y ≡ tile_cell tile x y
    apart_from x y apart = others x y (⊎_elim (λ (less : y < 8 * n). inl less) (λ (past : 8 * n ≤ y). inr (omega arith)) (cases_lt y (8 * n)))

    row_is : (y : ℕ) → y / 8 ≡ n → 8 * n + (y - 8 * n) ≡ y
    row_is y same = omega arith

    pub band_busy : IsTileWorkedOut (record { nine = nine; active = active; rule = rule; before = before; after = after; columns = more; done = n + 1 })
    band_busy = record {
      next = λ x y wide high less wanted.
          ⊎_elim
          (λ (same : y / 8 ≡ n).
          subst (λ z. tile_cell after x z ≡ next_in_area rule nine x z) (row_is y same) (law x (y - 8 * n) wide (omega arith)))
          (λ (apart : y / 8 ≢ n). apart_from x y apart ∙ worked.next x y wide high (omega arith) wanted)
          (cases_eq (y / 8) n);
      idle = λ x y wide high idle.
          ⊎_elim
          (λ (same : y / 8 ≡ n). let never : 1 ≡ 0 = sym busy ∙ ap (bit_at active.bits) (sym same) ∙ idle in absurd (omega arith))
          (λ (apart : y / 8 ≢ n). apart_from x y apart ∙ worked.idle x y wide high idle)
          (cases_eq (y / 8) n);
      later = λ x y wide high past. (let apart : y / 8 ≢ n = omega arith in apart_from x y apart ∙ worked.later x y wide high (omega arith));
      around = λ m band x y small b_small wide high less near clear.
          ⊎_elim
          (λ (same : y / 8 ≡ n).
          subst (λ z. IsNextToBand (record { direction = m; band = band; column = x; row = z }) → tile_cell after x z ≡ tile_cell tile x z) (row_is y same)
          (λ beside. around.same m band x (y - 8 * n) small b_small wide (omega arith) beside clear) near
          ∙ worked.later x y wide high (omega arith))
          (λ (apart : y / 8 ≢ n).
          apart_from x y apart
          ∙ worked.around m band x y small b_small wide high (omega arith) near
          (bit_before (slice_index columns (m % 3)) (slice_index more (m % 3)) (8 * (m / 3) + band) (kept (m % 3) (8 * (m / 3) + band) (omega arith)) clear))
          (cases_eq (y / 8) n);
    }

-- slots that have nothing to do
pub slots_idle : (slots : List Slot) (current : List Tile) (active : List Bands) (rule : Rule) (before after : List Tile) (marks marked : List Bands) (n : ℕ) →
    IsWorkedOut slots (record { current = current; active = active; rule = rule; before = before; after = after; marks_before = marks; marks_after = marked; done = n }) →
    (later : ℕ) → n ≤ later → ((k band : ℕ) → n ≤ k → k < later → band_mark active k band ≡ 0) → IsWorkedOut slots (record { current = current; active = active; rule = rule; before = before; after = after; marks_before = marks; marks_after = marked; done = later })
slots_idle slots current active rule before after marks marked n worked later more idle = record {
  length_after = worked.length_after;
  length_marked = worked.length_marked;
  next = λ k x y positive less wide high busy.
      ⊎_elim
      (λ (old : k < n). worked.next k x y positive old wide high busy)
      (λ (new : n ≤ k). let never : 1 ≡ 0 = sym busy ∙ idle k (y / 8) new less in absurd (omega arith))
      (cases_lt k n);
  idle = worked.idle;
  first = worked.first;
  later = λ k past. worked.later k (omega arith);
  around = λ k m band x y positive less small b_small wide high near clear.
      ⊎_elim
      (λ (old : k < n). worked.around k m band x y positive old small b_small wide high near clear)
      (λ (new : n ≤ k). ap (λ (t : Tile). tile_cell t x y) (worked.later k new))
      (cases_lt k n);
  kept = worked.kept;
}

-- no slot yet
pub no_slot_done : (slots : List Slot) (current : List Tile) (active : List Bands) (rule : Rule) (tiles : List Tile) (marks : List Bands) → IsWorkedOut slots (record { current = current; active = active; rule = rule; before = tiles; after = tiles; marks_before = marks; marks_after = marks; done = 1 })
no_slot_done slots current active rule tiles marks = record {
  length_after = refl;
  length_marked = refl;
  next = λ k x y positive less. absurd (omega arith);
  idle = λ k x y wide high idle. refl;
  first = refl;
  later = λ k past. refl;
  around = λ k m band x y positive less. absurd (omega arith);
  kept = λ k band set. set;
}

module _ (slots : List Slot) (current : List Tile) (active : List Bands) (rule : Rule) (before after : List Tile) (marks marked : List Bands) (n : ℕ) (later : 0 < n) (inside : n < length slots)
    (worked : IsWorkedOut slots (record { current = current; active = active; rule = rule; before = before; after = after; marks_before = marks; marks_after = marked; done = n })) where
  -- a slot of which some bands are worked out
  pub worked_busy : (tile : Tile) (columns : List ℕ) (more : List Bands) → length after ≡ length slots →
      IsTileWorkedOut (record { nine = nine_linked current (links_of slots n); active = bands_of active n; rule = rule; before = tile_of after n; after = tile; columns = columns; done = 8 }) →
      length more ≡ length marked → ((k band : ℕ) → band_mark marked k band ≡ 1 → band_mark more k band ≡ 1) →
      ((m band : ℕ) → m < 9 → band < 8 → band_mark more (link_of slots n m) band ≡ 0 → touch_of columns m band ≡ 0) →
      IsWorkedOut slots (record { current = current; active = active; rule = rule; before = before; after = slice_set after n tile; marks_before = marks; marks_after = more; done = n + 1 })
  worked_busy tile columns more count law same_length kept touched =
      let room : n < length after = omega arith in
      let there : (k : ℕ) → k ≢ n → tile_of (slice_set after n tile) k ≡ tile_of after k = λ k apart. set_there after n k tile (record { rows = [] }) apart in
      let here : tile_of (slice_set after n tile) n ≡ tile = set_here after n tile (record { rows = [] }) room in
      let at : (k x y : ℕ) → k ≡ n → tile_cell (tile_of (slice_set after n tile) k) x y ≡ tile_cell tile x y =
      λ k x y same. ap (λ j. tile_cell (tile_of (slice_set after n tile) j) x y) same ∙ ap (λ (t : Tile). tile_cell t x y) here in
      let was : (k x y : ℕ) → k ≡ n → tile_cell (tile_of after n) x y ≡ tile_cell (tile_of before k) x y =
      λ k x y same. ap (λ (t : Tile). tile_cell t x y) (worked.later n (omega arith)) ∙ ap (λ j. tile_cell (tile_of before j) x y) (sym same) in
      record {
        length_after = length-set after n tile ∙ worked.length_after;
        length_marked = same_length ∙ worked.length_marked;
        next = λ k x y positive less wide high busy.
            ⊎_elim
            (λ (same : k ≡ n).
            at k x y same ∙ law.next x y wide high (omega arith) (ap (λ j. band_mark active j (y / 8)) (sym same) ∙ busy)
            ∙ ap (λ j. next_in_area rule (nine_linked current (links_of slots j)) x y) (sym same))
            (λ (apart : k ≢ n). ap (λ (t : Tile). tile_cell t x y) (there k apart) ∙ worked.next k x y positive (omega arith) wide high busy)
            (cases_eq k n);
        idle = λ k x y wide high idle.
            ⊎_elim
            (λ (same : k ≡ n). at k x y same ∙ law.idle x y wide high (ap (λ j. band_mark active j (y / 8)) (sym same) ∙ idle) ∙ was k x y same)
            (λ (apart : k ≢ n). ap (λ (t : Tile). tile_cell t x y) (there k apart) ∙ worked.idle k x y wide high idle)
            (cases_eq k n);
        first = (let apart : 0 ≢ n = omega arith in there 0 apart ∙ worked.first);
        later = λ k past. (let apart : k ≢ n = omega arith in there k apart ∙ worked.later k (omega arith));
        around = λ k m band x y positive less small b_small wide high near clear.
            ⊎_elim
            (λ (same : k ≡ n).
            at k x y same ∙ law.around m band x y small b_small wide high (omega arith) near (touched m band small b_small (ap (λ j. band_mark more (link_of slots j m) band) (sym same) ∙ clear)) ∙ was k x y same)
            (λ (apart : k ≢ n).
            ap (λ (t : Tile). tile_cell t x y) (there k apart)
            ∙ worked.around k m band x y positive (omega arith) small b_small wide high near (clear_before marked more (link_of slots k m) band (kept (link_of slots k m) band) clear))
            (cases_eq k n);
        kept = λ k band set. kept k band (worked.kept k band set);
      }
