-- Slots and their places.
use Rattle.std.proofs.Common.{◌≡◌, ℕ, ℤ, pos, ◌+ℤ◌, ◌-ℤ◌, ◌+◌, ◌*◌, ◌%◌, ◌/◌, ◌<◌, ◌≤ℤ◌, ◌⊎◌, inl, inr, ⊎_elim, true, false, List, Option, Some, None, length, refl, sym, subst, ap, ◌∙◌, arith}
use Rattle.std.specs.Option.{unwrap_or}
use Rattle.std.specs.BTreeMap.{get}
use Rattle.std.proofs.lemmas.Int.{ints, by_lt_z}
use Rattle.life_model.specs.Rule.{Rule}
use Rattle.life_model.specs.Generation.{Generation, contains}
use Rattle.life_model.specs.Evolution.{next}
use Rattle.life_model.proofs.Near.{next_near}
use Rattle.life_plane.specs.declared.tile.Tile.{Tile}
use Rattle.life_plane.specs.Flags.{as_bit}
use Rattle.life_plane.specs.Area.{tile_cell, next_in_area}
use Rattle.life_slots.specs.Places.{place_cmp, IsBeside, start_at}
use Rattle.life_slots.proofs.Orders.{true_or_false}
use Rattle.life_slots.proofs.Splits.{Split, split}
use Rattle.life_slots.specs.declared.slot.Slot.{Slot}
use Rattle.life_slots.specs.Slots.{Index, slot_at, neighbour_at, place_of, links_of, link_of, tile_of, empty_tile, nine_linked, generation_shown}
use Rattle.life_slots.specs.Rims.{IsEdge, IsAtEdge}
use Rattle.life_slots.specs.Cells.{state_at}
use Rattle.life_slots.specs.Indexes.{IsIndexed, IsSlotOf, IsClosed}
use Rattle.life_slots.proofs.Shown.{empty_cell, shown_state}
use Rattle.life_slots.proofs.Windows.{Shows, next_shown}

-- ---- directions

-- the middle direction leads to the place itself
pub here_is : (p : ℤ × ℤ) → neighbour_at p 4 ≡ p
here_is p =
    let across : ((p.0 +ℤ pos 1) -ℤ pos 1) ≡ p.0 = omega (arith, ints) in
    let down : ((p.1 +ℤ pos 1) -ℤ pos 1) ≡ p.1 = omega (arith, ints) in
    λ i. (across i, down i)

-- a side of 64 columns or rows on which other 64 are
pub record Side (s p : ℤ) (x : ℕ) : Type 0 where
  pub side : ℕ
  pub small : side < 3
  pub is : ((s +ℤ pos side) -ℤ pos 1) ≡ p
  pub edge : IsEdge side x

side_of : (s p : ℤ) (x : ℕ) → x < 64 → IsBeside (start_at s +ℤ pos x) p → Side s p x
side_of s p x inside beside =
    let from = beside.from in
    let to = beside.to in
    by_lt_z p s
    (λ west. record { side = 0; small = omega arith; is = omega (arith, ints); edge = record { first = λ _. omega (arith, ints); last = λ never. absurd (omega arith) } })
    (λ not_west.
    by_lt_z s p
    (λ east. record { side = 2; small = omega arith; is = omega (arith, ints); edge = record { first = λ never. absurd (omega arith); last = λ _. omega (arith, ints) } })
    (λ not_east. record { side = 1; small = omega arith; is = omega (arith, ints); edge = record { first = λ never. absurd (omega arith); last = λ never. absurd (omega arith) } }))

pub record Direction (s p : ℤ × ℤ) (x y : ℕ) : Type 0 where
  pub m : ℕ
  pub small : m < 9
  pub is : neighbour_at s m ≡ p
  pub edge : IsAtEdge m x y

pub direction_of : (s p : ℤ × ℤ) (x y : ℕ) → x < 64 → y < 64 → IsBeside (start_at s.0 +ℤ pos x) p.0 → IsBeside (start_at s.1 +ℤ pos y) p.1 → Direction s p x y
direction_of s p x y wide high beside_x beside_y =
    let a : Side s.0 p.0 x = side_of s.0 p.0 x wide beside_x in
    let b : Side s.1 p.1 y = side_of s.1 p.1 y high beside_y in
    let small_a : a.side < 3 = a.small in
    let small_b : b.side < 3 = b.small in
    let across : (a.side + 3 * b.side) % 3 ≡ a.side = omega arith in
    let down : (a.side + 3 * b.side) / 3 ≡ b.side = omega arith in
    record {
      m = a.side + 3 * b.side;
      small = omega arith;
      is = λ i. (((λ j. (s.0 +ℤ pos (across j)) -ℤ pos 1) ∙ a.is) i, ((λ j. (s.1 +ℤ pos (down j)) -ℤ pos 1) ∙ b.is) i);
      edge = record { column = subst (λ (n : ℕ). IsEdge n x) (sym across) a.edge; row = subst (λ (n : ℕ). IsEdge n y) (sym down) b.edge };
    }

-- ---- slots of an index

option_cases : (o : Option ℕ) → (o ≡ None) ⊎ ((k : ℕ) × (o ≡ Some k))
option_cases None = inl refl
option_cases (Some k) = inr (k, refl)

nine_same : (rule : Rule) (x y : ℕ) (nw n ne w h e sw s se nw' n' ne' w' h' e' sw' s' se' : Tile) →
    nw ≡ nw' → n ≡ n' → ne ≡ ne' → w ≡ w' → h ≡ h' → e ≡ e' → sw ≡ sw' → s ≡ s' → se ≡ se' →
    next_in_area rule (record { north_west = nw; north = n; north_east = ne; west = w; here = h; east = e; south_west = sw; south = s; south_east = se }) x y
    ≡ next_in_area rule (record { north_west = nw'; north = n'; north_east = ne'; west = w'; here = h'; east = e'; south_west = sw'; south = s'; south_east = se' }) x y
nine_same rule x y nw n ne w h e sw s se nw' n' ne' w' h' e' sw' s' se' p1 p2 p3 p4 p5 p6 p7 p8 p9 =
    λ i. next_in_area rule (record { north_west = p1 i; north = p2 i; north_east = p3 i; west = p4 i; here = p5 i; east = p6 i; south_west = p7 i; south = p8 i; south_east = p9 i }) x y

module _ (index : Index) (slots : List Slot) (whole : IsIndexed index slots) where
  pub slot_cases : (p : ℤ × ℤ) → (slot_at index p ≡ 0) ⊎ IsSlotOf slots p (slot_at index p)
  slot_cases p =
      ⊎_elim
      (λ none. inl (ap (λ o. unwrap_or o 0) none))
      (λ some.
      let is : slot_at index p ≡ some.0 = ap (λ o. unwrap_or o 0) some.1 in
      inr (subst (IsSlotOf slots p) (sym is) (record { later = whole.later p some.0 some.1; inside = whole.inside p some.0 some.1; place = whole.placed p some.0 some.1 })))
      (option_cases (get place_cmp index p))

  pub slot_of_place : (k : ℕ) → 0 < k → k < length slots → slot_at index (place_of slots k) ≡ k
  slot_of_place k later inside = ap (λ o. unwrap_or o 0) (whole.indexed k later inside)

  module _ (tiles : List Tile) (none : tile_of tiles 0 ≡ empty_tile) where
    -- what is at the cell of an absent place
    pub state_absent : (p : ℤ × ℤ) (x y : ℕ) → x < 64 → y < 64 → slot_at index p ≡ 0 →
        state_at (generation_shown index tiles) (start_at p.0 +ℤ pos x) (start_at p.1 +ℤ pos y) ≡ 0
    state_absent p x y wide high absent =
        shown_state index tiles whole.ordered none p.0 p.1 x y wide high
        ∙ ap (λ k. tile_cell (tile_of tiles k) x y) absent ∙ ap (λ (t : Tile). tile_cell t x y) none ∙ empty_cell x y

    -- what is at the cell of a slot's place
    pub state_of_slot : (k : ℕ) → 0 < k → k < length slots → (x y : ℕ) → x < 64 → y < 64 →
        state_at (generation_shown index tiles) (start_at (place_of slots k).0 +ℤ pos x) (start_at (place_of slots k).1 +ℤ pos y) ≡ tile_cell (tile_of tiles k) x y
    state_of_slot k later inside x y wide high =
        shown_state index tiles whole.ordered none (place_of slots k).0 (place_of slots k).1 x y wide high
        ∙ ap (λ j. tile_cell (tile_of tiles j) x y) (slot_of_place k later inside)

    shows : Shows (generation_shown index tiles) (λ column row. tile_of tiles (slot_at index (column, row)))
    shows = record { state = λ column row x y wide high. shown_state index tiles whole.ordered none column row x y wide high }

    -- what the links of a slot show is what is around its place
    pub next_linked : (rule : Rule) (k : ℕ) → 0 < k → k < length slots → (x y : ℕ) → x < 64 → y < 64 →
        next_in_area rule (nine_linked tiles (links_of slots k)) x y
        ≡ state_at (next rule (generation_shown index tiles)) (start_at (place_of slots k).0 +ℤ pos x) (start_at (place_of slots k).1 +ℤ pos y)
    next_linked rule k later inside x y wide high =
        let c : ℤ = (place_of slots k).0 in
        let r : ℤ = (place_of slots k).1 in
        let tile : (m : ℕ) (a b : ℤ) → m < 9 → neighbour_at (c, r) m ≡ (a, b) → tile_of tiles (link_of slots k m) ≡ tile_of tiles (slot_at index (a, b)) =
        λ m a b small is. ap (tile_of tiles) (whole.linked k m later inside small ∙ ap (slot_at index) is) in
        let less : (z : ℤ) → ((z +ℤ pos 0) -ℤ pos 1) ≡ (z -ℤ pos 1) = λ z. omega (arith, ints) in
        let same : (z : ℤ) → ((z +ℤ pos 1) -ℤ pos 1) ≡ z = λ z. omega (arith, ints) in
        let more : (z : ℤ) → ((z +ℤ pos 2) -ℤ pos 1) ≡ (z +ℤ pos 1) = λ z. omega (arith, ints) in
        nine_same rule x y _ _ _ _ _ _ _ _ _ _ _ _ _ _ _ _ _ _
        (tile 0 (c -ℤ pos 1) (r -ℤ pos 1) (omega arith) (λ i. (less c i, less r i)))
        (tile 1 c (r -ℤ pos 1) (omega arith) (λ i. (same c i, less r i)))
        (tile 2 (c +ℤ pos 1) (r -ℤ pos 1) (omega arith) (λ i. (more c i, less r i)))
        (tile 3 (c -ℤ pos 1) r (omega arith) (λ i. (less c i, same r i)))
        (tile 4 c r (omega arith) (λ i. (same c i, same r i)))
        (tile 5 (c +ℤ pos 1) r (omega arith) (λ i. (more c i, same r i)))
        (tile 6 (c -ℤ pos 1) (r +ℤ pos 1) (omega arith) (λ i. (less c i, more r i)))
        (tile 7 c (r +ℤ pos 1) (omega arith) (λ i. (same c i, more r i)))
        (tile 8 (c +ℤ pos 1) (r +ℤ pos 1) (omega arith) (λ i. (more c i, more r i)))
        ∙ next_shown (generation_shown index tiles) (λ column row. tile_of tiles (slot_at index (column, row))) shows rule c r x y wide high

    -- where no tile has a live cell at an edge that has no neighbour, no cell is live in or next to an absent place
    pub quiet : ((k : ℕ) → 0 < k → k < length slots → IsClosed slots tiles k) → (p : ℤ × ℤ) → slot_at index p ≡ 0 →
        (X Y : ℤ) → IsBeside X p.0 → IsBeside Y p.1 → state_at (generation_shown index tiles) X Y ≡ 0
    quiet closed p absent X Y beside_x beside_y =
        let s : Split X = split X in
        let t : Split Y = split Y in
        let q : ℤ × ℤ = (s.quotient, t.quotient) in
        (λ i. state_at (generation_shown index tiles) (s.is i) (t.is i))
        ∙ ⊎_elim
        (λ none_there. state_absent (s.quotient, t.quotient) s.remainder t.remainder s.small t.small none_there)
        (λ (there : IsSlotOf slots (s.quotient, t.quotient) (slot_at index (s.quotient, t.quotient))).
        let k : ℕ = slot_at index (s.quotient, t.quotient) in
        let d : Direction (s.quotient, t.quotient) p s.remainder t.remainder =
        direction_of (s.quotient, t.quotient) p s.remainder t.remainder s.small t.small
        (subst (λ (z : ℤ). IsBeside z p.0) s.is beside_x) (subst (λ (z : ℤ). IsBeside z p.1) t.is beside_y) in
        let link : link_of slots k d.m ≡ 0 =
        whole.linked k d.m there.later there.inside d.small ∙ ap (λ (z : ℤ × ℤ). slot_at index (neighbour_at z d.m)) there.place ∙ ap (slot_at index) d.is ∙ absent in
        shown_state index tiles whole.ordered none s.quotient t.quotient s.remainder t.remainder s.small t.small
        ∙ ((closed k there.later there.inside).closed d.m d.small link).still s.remainder t.remainder s.small t.small d.edge)
        (slot_cases (s.quotient, t.quotient))

-- no cell is born far from all live cells
pub dead_next : (rule : Rule) (G : Generation) (X Y : ℤ) →
    ((a b : ℤ) → (X -ℤ pos 1) ≤ℤ a → a ≤ℤ (X +ℤ pos 1) → (Y -ℤ pos 1) ≤ℤ b → b ≤ℤ (Y +ℤ pos 1) → state_at G a b ≡ 0) →
    state_at (next rule G) X Y ≡ 0
dead_next rule G X Y dead =
    ⊎_elim
    (λ (live : contains (next rule G) (X, Y) ≡ true).
    let near = next_near rule G (X, Y) live in
    let one : state_at G near.0.0 near.0.1 ≡ 1 = ap as_bit near.1 in
    let none : state_at G near.0.0 near.0.1 ≡ 0 =
    dead near.0.0 near.0.1 (let h = near.2.left in let k = near.2.right in omega (arith, ints)) (let h = near.2.left in let k = near.2.right in omega (arith, ints))
    (let h = near.2.above in let k = near.2.below in omega (arith, ints)) (let h = near.2.above in let k = near.2.below in omega (arith, ints)) in
    let never : 1 + 0 ≡ 0 + 0 = sym one ∙ none in
    absurd (omega arith))
    (λ (dead_there : contains (next rule G) (X, Y) ≡ false). ap as_bit dead_there)
    (true_or_false (contains (next rule G) (X, Y)))
