-- One more slot.
use Rattle.std.proofs.Common.{◌≡◌, ◌≢◌, ℕ, ℤ, pos, ◌+ℤ◌, ◌-ℤ◌, ◌+◌, ◌-◌, ◌%◌, ◌/◌, ◌<◌, ◌⊎◌, inl, inr, ⊎_elim, true, false, List, [], ◌∷◌, ◌++◌, Some, length, length-append, get_or, slice_index, refl, sym, subst, ap, ◌∙◌, arith}
use Rattle.std.specs.Option.{unwrap_or}
use Rattle.std.specs.BTreeMap.{IsOrdered, get, is_at}
use Rattle.std.specs.Int.{bit_at}
use Rattle.std.proofs.Math.ListN.{get_or-append}
use Rattle.std.proofs.Math.Seq.{get_or-append_seam}
use Rattle.std.proofs.lemmas.Bool.{cases_eq, cases_lt}
use Rattle.std.proofs.lemmas.Int.{ints}
use Rattle.life_plane.specs.declared.tile.Tile.{Tile}
use Rattle.life_slots.specs.Places.{place_cmp}
use Rattle.std.specs.Ordering.{is_eq}
use Rattle.std.specs.Cmp.{tied_itself}
use Rattle.life_slots.proofs.Orders.{same_or_other, place_total}
use Rattle.life_slots.specs.declared.bands.Bands.{Bands}
use Rattle.life_slots.specs.declared.slot.Slot.{Slot}
use Rattle.life_slots.specs.Slots.{Index, slot_at, neighbour_at, place_of, link_of, tile_of, empty_tile, no_slot}
use Rattle.life_slots.specs.Work.{band_mark}
use Rattle.life_slots.specs.Indexes.{IsIndexed, IsSlotOf}
use Rattle.life_slots.proofs.Marks.{all_marked}
use Rattle.life_slots.proofs.Places.{here_is, slot_cases, slot_of_place}
use Rattle.life_tile.specs.declared.tile_store.TileStore.{TileStore}
use Rattle.life_tile.specs.TileStores.{IsTileStore, IsExtended, all_bands, no_bands}

opposite_side : (a b : ℤ) (d : ℕ) → d < 3 → ((a +ℤ pos d) -ℤ pos 1) ≡ b → ((b +ℤ pos (2 - d)) -ℤ pos 1) ≡ a
opposite_side a b d small is = omega (arith, ints)

-- the way back leads in the opposite direction
opposite : (p q : ℤ × ℤ) (m : ℕ) → m < 9 → neighbour_at p m ≡ q → neighbour_at q (8 - m) ≡ p
opposite p q m small is =
    let across : (8 - m) % 3 ≡ 2 - m % 3 = omega arith in
    let down : (8 - m) / 3 ≡ 2 - m / 3 = omega arith in
    let a : ((q.0 +ℤ pos (2 - m % 3)) -ℤ pos 1) ≡ p.0 = opposite_side p.0 q.0 (m % 3) (omega arith) (ap (λ (z : ℤ × ℤ). z.0) is) in
    let b : ((q.1 +ℤ pos (2 - m / 3)) -ℤ pos 1) ≡ p.1 = opposite_side p.1 q.1 (m / 3) (omega arith) (ap (λ (z : ℤ × ℤ). z.1) is) in
    λ i. (((λ j. (q.0 +ℤ pos (across j)) -ℤ pos 1) ∙ a) i, ((λ j. (q.1 +ℤ pos (down j)) -ℤ pos 1) ∙ b) i)

same_side : (a : ℤ) (d : ℕ) → ((a +ℤ pos d) -ℤ pos 1) ≡ a → d ≡ 1
same_side a d is = omega (arith, ints)

-- only the middle direction leads to the place itself
only_here : (p : ℤ × ℤ) (m : ℕ) → m < 9 → neighbour_at p m ≡ p → m ≡ 4
only_here p m small is =
    let a : m % 3 ≡ 1 = same_side p.0 (m % 3) (ap (λ (z : ℤ × ℤ). z.0) is) in
    let b : m / 3 ≡ 1 = same_side p.1 (m / 3) (ap (λ (z : ℤ × ℤ). z.1) is) in
    omega arith

pub record IsAdded (before after : TileStore) (place : ℤ × ℤ) (links : List ℕ) : Type 0 where
  pub ordered : IsOrdered place_cmp after.index
  pub found : get place_cmp after.index place ≡ Some (length before.slots.items)
  pub others : (q : ℤ × ℤ) → is_at (place_cmp place) q ≡ false → get place_cmp after.index q ≡ get place_cmp before.index q
  pub count : length after.slots.items ≡ length (before.slots.items ++ record { place = place; links = links } ∷ [])
  pub place_kept : (k : ℕ) → place_of after.slots.items k ≡ place_of (before.slots.items ++ record { place = place; links = links } ∷ []) k
  pub link_here : (k m : ℕ) → k < length (before.slots.items ++ record { place = place; links = links } ∷ []) → m < 9 → slice_index links (8 - m) ≡ k → link_of after.slots.items k m ≡ length before.slots.items
  pub link_others : (k m : ℕ) → m < 9 → slice_index links (8 - m) ≢ k → link_of after.slots.items k m ≡ link_of (before.slots.items ++ record { place = place; links = links } ∷ []) k m
  pub links_around : (m : ℕ) → m < 9 → m ≢ 4 → slice_index links m ≡ slot_at before.index (neighbour_at place m)
  pub links_own : slice_index links 4 ≡ length before.slots.items
  pub age : after.age ≡ before.age
  pub rule : after.rule ≡ before.rule
  pub lacks_previous : after.lacks_previous ≡ before.lacks_previous
  pub current : after.current.items ≡ before.current.items ++ empty_tile ∷ []
  pub previous : after.previous.items ≡ before.previous.items ++ empty_tile ∷ []
  pub active : after.active.items ≡ before.active.items ++ all_bands ∷ []
  pub next_active : after.next_active.items ≡ before.next_active.items ++ no_bands ∷ []

one_longer : {A : Type 0} (xs : List A) (x : A) → length (xs ++ x ∷ []) ≡ length xs + 1
one_longer xs x = length-append xs (x ∷ [])

at_end : {A : Type 0} (xs : List A) (x d : A) (n : ℕ) → length xs ≡ n → get_or (xs ++ x ∷ []) n d ≡ x
at_end xs x d n is = ap (λ k. get_or (xs ++ x ∷ []) k d) (sym is) ∙ get_or-append_seam xs x [] d

module _ (before after : TileStore) (place : ℤ × ℤ) (links : List ℕ) (whole : IsTileStore before) (absent : slot_at before.index place ≡ 0) (added : IsAdded before after place links) where
  count_is : length after.slots.items ≡ length before.slots.items + 1
  count_is = added.count ∙ one_longer before.slots.items (record { place = place; links = links })

  old_place : (k : ℕ) → k < length before.slots.items → place_of after.slots.items k ≡ place_of before.slots.items k
  old_place k inside = added.place_kept k ∙ ap (λ (s : Slot). s.place) (get_or-append before.slots.items (record { place = place; links = links } ∷ []) no_slot k inside)

  pub new_place : place_of after.slots.items (length before.slots.items) ≡ place
  new_place = added.place_kept (length before.slots.items) ∙ ap (λ (s : Slot). s.place) (at_end before.slots.items (record { place = place; links = links }) no_slot (length before.slots.items) refl)

  absent_not : (k : ℕ) → get place_cmp before.index place ≡ Some k → ⊥
  absent_not k is =
      let later : 0 < k = whole.indexed.later place k is in
      let none : k ≡ 0 = sym (ap (λ o. unwrap_or o 0) is) ∙ absent in
      omega arith

  some_is : (a b : ℕ) → Some a ≡ Some b → a ≡ b
  some_is a b is = cc

  apart_from : (k : ℕ) → 0 < k → k < length before.slots.items → place_of before.slots.items k ≡ place → ⊥
  apart_from k later inside is = absent_not k (ap (get place_cmp before.index) (sym is) ∙ whole.indexed.indexed k later inside)

  -- an old slot is found as before
  found_old : (q : ℤ × ℤ) → (place ≡ q → ⊥) → get place_cmp after.index q ≡ get place_cmp before.index q
  found_old q apart = ⊎_elim (λ same. absurd (apart same)) (λ other. added.others q other) (same_or_other place q)

  at_new : slot_at after.index place ≡ length before.slots.items
  at_new = ap (λ o. unwrap_or o 0) added.found

  at_old : (q : ℤ × ℤ) → (place ≡ q → ⊥) → slot_at after.index q ≡ slot_at before.index q
  at_old q apart = ap (λ o. unwrap_or o 0) (found_old q apart)

  -- a slot of the index before is no greater than the others
  slot_small : (q : ℤ × ℤ) → slot_at before.index q < length before.slots.items
  slot_small q =
      let some : 0 < length before.slots.items = whole.indexed.some in
      ⊎_elim (λ none. omega arith) (λ there. there.inside) (slot_cases before.index before.slots.items whole.indexed q)

  link_old : (k m : ℕ) → 0 < k → k < length before.slots.items → m < 9 → link_of after.slots.items k m ≡ slot_at after.index (neighbour_at (place_of before.slots.items k) m)
  link_old k m later inside small =
      let pk : ℤ × ℤ = place_of before.slots.items k in
      ⊎_elim
      (λ (same : place ≡ neighbour_at (place_of before.slots.items k) m).
      let back : neighbour_at place (8 - m) ≡ place_of before.slots.items k = opposite (place_of before.slots.items k) place m small (sym same) in
      let beside : 8 - m ≢ 4 = λ middle.
      apart_from k later inside (sym back ∙ ap (λ n. neighbour_at place n) middle ∙ here_is place) in
      let link : slice_index links (8 - m) ≡ k =
      added.links_around (8 - m) (omega arith) beside ∙ ap (slot_at before.index) back ∙ slot_of_place before.index before.slots.items whole.indexed k later inside in
      let longer = one_longer before.slots.items (record { place = place; links = links }) in
      added.link_here k m (omega arith) small link ∙ sym (ap (slot_at after.index) (sym same) ∙ at_new))
      (λ other.
      let apart : place ≡ neighbour_at (place_of before.slots.items k) m → ⊥ = λ same.
      let never : is_at (place_cmp place) (neighbour_at (place_of before.slots.items k) m) ≡ true = subst (λ (q : ℤ × ℤ). is_at (place_cmp place) q ≡ true) same (itself place) in
      let no : true ≡ false = sym never ∙ other in absurd (cc) in
      let link : slice_index links (8 - m) ≢ k = λ is.
      ⊎_elim
      (λ (middle : 8 - m ≡ 4). let k_is : k ≡ length before.slots.items = sym is ∙ ap (slice_index links) middle ∙ added.links_own in absurd (omega arith))
      (λ (beside : 8 - m ≢ 4).
      let at : slot_at before.index (neighbour_at place (8 - m)) ≡ k = sym (added.links_around (8 - m) (omega arith) beside) ∙ is in
      ⊎_elim
      (λ none. let zero : k ≡ 0 = sym at ∙ none in absurd (omega arith))
      (λ there.
      let there_is : place_of before.slots.items k ≡ neighbour_at place (8 - m) = ap (place_of before.slots.items) (sym at) ∙ there.place in
      let twice : 8 - (8 - m) ≡ m = omega arith in
      apart
      (sym
      (ap (λ n. neighbour_at (place_of before.slots.items k) n) (sym twice)
      ∙ opposite place (place_of before.slots.items k) (8 - m) (omega arith) (sym there_is))))
      (slot_cases before.index before.slots.items whole.indexed (neighbour_at place (8 - m))))
      (cases_eq (8 - m) 4) in
      added.link_others k m small link
      ∙ ap (λ (s : Slot). slice_index s.links m) (get_or-append before.slots.items (record { place = place; links = links } ∷ []) no_slot k inside)
      ∙ whole.indexed.linked k m later inside small
      ∙ sym (at_old (neighbour_at (place_of before.slots.items k) m) apart))
      (same_or_other place (neighbour_at (place_of before.slots.items k) m))
    where
      itself : (p : ℤ × ℤ) → is_at (place_cmp p) p ≡ true
      itself p = ap is_eq (tied_itself place_total p)

  link_new : (m : ℕ) → m < 9 → link_of after.slots.items (length before.slots.items) m ≡ slot_at after.index (neighbour_at place m)
  link_new m small =
      let longer = one_longer before.slots.items (record { place = place; links = links }) in
      ⊎_elim
      (λ (middle : m ≡ 4).
      let back : 8 - m ≡ 4 = omega arith in
      added.link_here (length before.slots.items) m (omega arith) small (ap (slice_index links) back ∙ added.links_own)
      ∙ sym (ap (λ n. slot_at after.index (neighbour_at place n)) middle ∙ ap (slot_at after.index) (here_is place) ∙ at_new))
      (λ (beside : m ≢ 4).
      let other : slice_index links (8 - m) ≢ length before.slots.items = λ is.
      let at : slot_at before.index (neighbour_at place (8 - m)) ≡ length before.slots.items = sym (added.links_around (8 - m) (omega arith) (omega arith)) ∙ is in
      let less : slot_at before.index (neighbour_at place (8 - m)) < length before.slots.items = slot_small (neighbour_at place (8 - m)) in
      omega arith in
      added.link_others (length before.slots.items) m small other
      ∙ ap (λ (s : Slot). slice_index s.links m) (at_end before.slots.items (record { place = place; links = links }) no_slot (length before.slots.items) refl)
      ∙ added.links_around m small beside
      ∙ sym (at_old (neighbour_at place m) (λ same. beside (only_here place m small (sym same)))))
      (cases_eq m 4)

  found_cases : (q : ℤ × ℤ) (k : ℕ) → get place_cmp after.index q ≡ Some k → ((place ≡ q) × (k ≡ length before.slots.items)) ⊎ (get place_cmp before.index q ≡ Some k)
  found_cases q k is =
      ⊎_elim
      (λ same. inl (same, some_is k (length before.slots.items) (sym is ∙ ap (get place_cmp after.index) (sym same) ∙ added.found)))
      (λ other. inr (sym (added.others q other) ∙ is))
      (same_or_other place q)

  pub added_indexed : IsIndexed after.index after.slots.items
  added_indexed =
      let some : 0 < length before.slots.items = whole.indexed.some in
      let count : length after.slots.items ≡ length before.slots.items + 1 = count_is in
      record {
        ordered = added.ordered;
        some = omega arith;
        indexed = λ k later inside.
            ⊎_elim
            (λ (old : k < length before.slots.items).
            ap (get place_cmp after.index) (old_place k old)
            ∙ found_old (place_of before.slots.items k) (λ same. apart_from k later old (sym same))
            ∙ whole.indexed.indexed k later old)
            (λ past.
            let k_is : k ≡ length before.slots.items = omega arith in
            ap (λ n. get place_cmp after.index (place_of after.slots.items n)) k_is ∙ ap (get place_cmp after.index) new_place ∙ added.found ∙ ap (λ n. Some n) (sym k_is))
            (cases_lt k (length before.slots.items));
        later = λ q k is. ⊎_elim (λ new. (let k_is = new.1 in omega arith)) (λ old. whole.indexed.later q k old) (found_cases q k is);
        inside = λ q k is. ⊎_elim (λ new. (let k_is = new.1 in omega arith)) (λ old. (let h : k < length before.slots.items = whole.indexed.inside q k old in omega arith)) (found_cases q k is);
        placed = λ q k is.
            ⊎_elim
            (λ new. ap (place_of after.slots.items) new.1 ∙ new_place ∙ new.0)
            (λ old. old_place k (whole.indexed.inside q k old) ∙ whole.indexed.placed q k old)
            (found_cases q k is);
        linked = λ k m later inside small.
            ⊎_elim
            (λ (old : k < length before.slots.items). link_old k m later old small ∙ ap (λ (q : ℤ × ℤ). slot_at after.index (neighbour_at q m)) (sym (old_place k old)))
            (λ past.
            let k_is : k ≡ length before.slots.items = omega arith in
            ap (λ n. link_of after.slots.items n m) k_is ∙ link_new m small
            ∙ ap (λ (q : ℤ × ℤ). slot_at after.index (neighbour_at q m)) (sym new_place) ∙ ap (λ n. slot_at after.index (neighbour_at (place_of after.slots.items n) m)) (sym k_is))
            (cases_lt k (length before.slots.items));
      }

  tile_old : (xs ys : List Tile) → ys ≡ xs ++ empty_tile ∷ [] → (k : ℕ) → k < length xs → tile_of ys k ≡ tile_of xs k
  tile_old xs ys is k inside = ap (λ (ts : List Tile). tile_of ts k) is ∙ get_or-append xs (empty_tile ∷ []) (record { rows = [] }) k inside

  tile_new : (xs ys : List Tile) → ys ≡ xs ++ empty_tile ∷ [] → (k : ℕ) → length xs ≡ k → tile_of ys k ≡ empty_tile
  tile_new xs ys is k past = ap (λ (ts : List Tile). tile_of ts k) is ∙ at_end xs empty_tile (record { rows = [] }) k past

  pub added_store : IsTileStore after
  added_store =
      let some : 0 < length before.slots.items = whole.indexed.some in
      let count : length after.slots.items ≡ length before.slots.items + 1 = count_is in
      record {
        indexed = added_indexed;
        current_length = ap (λ (ts : List Tile). length ts) added.current ∙ one_longer before.current.items empty_tile ∙ ap (λ n. n + 1) whole.current_length ∙ sym count_is;
        previous_length = ap (λ (ts : List Tile). length ts) added.previous ∙ one_longer before.previous.items empty_tile ∙ ap (λ n. n + 1) whole.previous_length ∙ sym count_is;
        active_length = ap (λ (bs : List Bands). length bs) added.active ∙ one_longer before.active.items all_bands ∙ ap (λ n. n + 1) whole.active_length ∙ sym count_is;
        next_active_length = ap (λ (bs : List Bands). length bs) added.next_active ∙ one_longer before.next_active.items no_bands ∙ ap (λ n. n + 1) whole.next_active_length ∙ sym count_is;
        current_none = tile_old before.current.items after.current.items added.current 0 (let h = whole.current_length in omega arith) ∙ whole.current_none;
        previous_none = tile_old before.previous.items after.previous.items added.previous 0 (let h = whole.previous_length in omega arith) ∙ whole.previous_none;
      }

  -- what a place shows
  shown_at : (xs ys : List Tile) → length xs ≡ length before.slots.items → tile_of xs 0 ≡ empty_tile → ys ≡ xs ++ empty_tile ∷ [] →
      (q : ℤ × ℤ) → tile_of ys (slot_at after.index q) ≡ tile_of xs (slot_at before.index q)
  shown_at xs ys count none is q =
      ⊎_elim
      (λ same.
      ap (λ (p : ℤ × ℤ). tile_of ys (slot_at after.index p)) (sym same) ∙ ap (tile_of ys) at_new ∙ tile_new xs ys is (length before.slots.items) count
      ∙ sym (ap (λ (p : ℤ × ℤ). tile_of xs (slot_at before.index p)) (sym same) ∙ ap (tile_of xs) absent ∙ none))
      (λ other.
      ap (λ o. tile_of ys (unwrap_or o 0)) (added.others q other)
      ∙ tile_old xs ys is (slot_at before.index q) (let h : slot_at before.index q < length before.slots.items = slot_small q in omega arith))
      (same_or_other place q)

  pub added_extended : IsExtended before after
  added_extended =
      let count : length after.slots.items ≡ length before.slots.items + 1 = count_is in
      let current_length : length before.current.items ≡ length before.slots.items = whole.current_length in
      let previous_length : length before.previous.items ≡ length before.slots.items = whole.previous_length in
      let active_length : length before.active.items ≡ length before.slots.items = whole.active_length in
      record {
        age = added.age;
        rule = added.rule;
        lacks_previous = added.lacks_previous;
        more = omega arith;
        place = old_place;
        link = λ k m later inside small none.
            ⊎_elim
            (λ same.
            let never : length before.slots.items ≡ 0 = sym (link_old k m later inside small ∙ ap (slot_at after.index) (sym same) ∙ at_new) ∙ none in
            absurd (omega arith))
            (λ other.
            whole.indexed.linked k m later inside small
            ∙ sym (ap (λ o. unwrap_or o 0) (added.others (neighbour_at (place_of before.slots.items k) m) other))
            ∙ sym (link_old k m later inside small) ∙ none)
            (same_or_other place (neighbour_at (place_of before.slots.items k) m));
        current = λ k inside. tile_old before.current.items after.current.items added.current k (omega arith);
        previous = λ k inside. tile_old before.previous.items after.previous.items added.previous k (omega arith);
        current_new = λ k past inside. tile_new before.current.items after.current.items added.current k (omega arith);
        previous_new = λ k past inside. tile_new before.previous.items after.previous.items added.previous k (omega arith);
        active = λ k band inside small clear.
            ⊎_elim
            (λ (old : k < length before.slots.items). (
              old,
              sym (ap (λ (bs : List Bands). band_mark bs k band) added.active
                  ∙ ap (λ (v : Bands). bit_at v.bits band) (get_or-append before.active.items (all_bands ∷ []) no_bands k (omega arith))) ∙ clear,
            ))
            (λ past.
            let never : 1 ≡ 0 =
            sym (ap (λ (bs : List Bands). band_mark bs k band) added.active ∙ ap (λ (v : Bands). bit_at v.bits band) (at_end before.active.items all_bands no_bands k (omega arith)) ∙ all_marked band small)
            ∙ clear in
            absurd (omega arith))
            (cases_lt k (length before.slots.items));
        current_at = shown_at before.current.items after.current.items whole.current_length whole.current_none added.current;
        previous_at = shown_at before.previous.items after.previous.items whole.previous_length whole.previous_none added.previous;
      }

  pub added_slot : IsSlotOf after.slots.items place (length before.slots.items)
  added_slot =
      let count : length after.slots.items ≡ length before.slots.items + 1 = count_is in
      record { later = whole.indexed.some; inside = omega arith; place = new_place }

-- the links of a slot to be are slots
pub links_small : (index : Index) (slots : List Slot) (place : ℤ × ℤ) (links : List ℕ) → IsIndexed index slots → slice_index links 4 ≡ length slots →
    ((m : ℕ) → m < 9 → m ≢ 4 → slice_index links m ≡ slot_at index (neighbour_at place m)) → (m : ℕ) → m < 9 → slice_index links m < length slots + 1
links_small index slots place links whole own around m small =
    ⊎_elim
    (λ (middle : m ≡ 4). let is : slice_index links m ≡ length slots = ap (slice_index links) middle ∙ own in omega arith)
    (λ (beside : m ≢ 4).
    let is : slice_index links m ≡ slot_at index (neighbour_at place m) = around m small beside in
    let some : 0 < length slots = whole.some in
    ⊎_elim (λ none. omega arith) (λ there. let inside = there.inside in omega arith) (slot_cases index slots whole (neighbour_at place m)))
    (cases_eq m 4)
