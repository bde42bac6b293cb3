-- What a store keeps in a step.
use Rattle.std.proofs.Common.{◌≡◌, ℕ, ℤ, pos, ◌+ℤ◌, ◌+◌, ◌<◌, false, List, length, refl, sym, subst, ap, ◌∙◌, arith}
use Rattle.std.proofs.lemmas.Int.{ints}
use Rattle.std.proofs.Math.Path.{transport}
use Rattle.life_model.specs.Rule.{Rule}
use Rattle.life_model.specs.Generation.{Generation, contains}
use Rattle.life_model.specs.Evolution.{next}
use Rattle.life_model.proofs.Near.{next_near}
use Rattle.life_cells.specs.Limits.{age_limit}
use Rattle.life_cells.proofs.Within.{within_near}
use Rattle.life_plane.specs.declared.tile.Tile.{Tile}
use Rattle.life_plane.specs.Area.{tile_cell}
use Rattle.life_slots.specs.Places.{start_at}
use Rattle.life_slots.specs.declared.bands.Bands.{Bands}
use Rattle.life_slots.specs.declared.slot.Slot.{Slot}
use Rattle.life_slots.specs.Slots.{place_of, tile_of, generation_shown, IsReached}
use Rattle.life_slots.specs.Work.{band_mark, IsWorkedOut, IsIdle}
use Rattle.life_slots.specs.Cells.{state_at}
use Rattle.life_slots.specs.Indexes.{IsClosed}
use Rattle.life_slots.proofs.Marks.{clear_before}
use Rattle.life_slots.proofs.Steps.{advanced, settled_again, closed_again, closed_idle}
use Rattle.life_tile.specs.declared.tile_store.TileStore.{TileStore}
use Rattle.life_tile.specs.TileStores.{members_of, IsKept, IsGrown, IsBegun}

reached_later : (age : ℕ) (place : ℤ × ℤ) → IsReached age place → IsReached (age + 1) place
reached_later age place reached = record {
  west = omega (arith, ints, reached.west);
  east = omega (arith, ints, reached.east);
  north = omega (arith, ints, reached.north);
  south = omega (arith, ints, reached.south);
}

pub worked_at : (slots slots' : List Slot) (current cur' : List Tile) (active todo' : List Bands) (rule rule' : Rule) (previous alt' after : List Tile) (marks marks' marked : List Bands) →
    slots ≡ slots' → current ≡ cur' → active ≡ todo' → rule ≡ rule' → previous ≡ alt' → marks ≡ marks' →
    IsWorkedOut slots (record { current = current; active = active; rule = rule; before = previous; after = after; marks_before = marks; marks_after = marked; done = length slots }) →
    IsWorkedOut slots' (record { current = cur'; active = todo'; rule = rule'; before = alt'; after = after; marks_before = marks'; marks_after = marked; done = length slots' })
worked_at slots slots' current cur' active todo' rule rule' previous alt' after marks marks' marked p q r t s v worked =
    transport
    (λ i. IsWorkedOut (p i) (record { current = q i; active = r i; rule = t i; before = s i; after = after; marks_before = v i; marks_after = marked; done = length (p i) }))
    worked

module _ (s b u : TileStore) (after : List Tile) (marked : List Bands) (kept : IsKept s) (grown : IsGrown s) (young : s.age < age_limit) (begun : IsBegun s b)
    (worked : IsWorkedOut s.slots.items (record { current = s.current.items; active = b.active.items; rule = s.rule; before = b.previous.items; after = after; marks_before = b.next_active.items; marks_after = marked; done = length s.slots.items }))
    (current_is : u.current.items ≡ after) (previous_is : u.previous.items ≡ s.current.items) (active_is : u.active.items ≡ marked) (next_active_length : length u.next_active.items ≡ length s.slots.items) where
  after_is : generation_shown s.index after ≡ next s.rule (members_of s)
  after_is =
      advanced s.index s.slots.items kept.whole.indexed s.current.items b.previous.items after b.active.items b.next_active.items marked s.rule kept.whole.current_none begun.previous_none worked
      grown.closed begun.settled

  idle_marks : (k : ℕ) → IsIdle u.active.items k → IsIdle marked k
  idle_marks k idle = λ band small. sym (ap (λ (bs : List Bands). band_mark bs k band) active_is) ∙ idle band small

  pub members_next : generation_shown s.index u.current.items ≡ next s.rule (members_of s)
  members_next = ap (generation_shown s.index) current_is ∙ after_is

  earlier_is : generation_shown s.index u.previous.items ≡ members_of s
  earlier_is = ap (generation_shown s.index) previous_is

  pub kept_next : IsKept (record s { current = u.current; previous = u.previous; active = u.active; next_active = u.next_active; lacks_previous = false; age = s.age + 1 })
  kept_next = record {
    whole = record {
      indexed = kept.whole.indexed;
      current_length = ap (λ (ts : List Tile). length ts) current_is ∙ worked.length_after ∙ begun.previous_length;
      previous_length = ap (λ (ts : List Tile). length ts) previous_is ∙ kept.whole.current_length;
      active_length = ap (λ (bs : List Bands). length bs) active_is ∙ worked.length_marked ∙ begun.next_active_length;
      next_active_length = next_active_length;
      current_none = ap (λ (ts : List Tile). tile_of ts 0) current_is ∙ worked.first ∙ begun.previous_none;
      previous_none = ap (λ (ts : List Tile). tile_of ts 0) previous_is ∙ kept.whole.current_none;
    };
    young = omega arith;
    within = λ c has.
        let near = next_near s.rule (members_of s) c (sym (ap (λ (G : Generation). contains G c) members_next) ∙ has) in
        within_near s.age near.0 c (kept.within near.0 near.1) near.2;
    reached = λ k later inside. reached_later s.age (place_of s.slots.items k) (kept.reached k later inside);
    earlier = λ _. members_next ∙ ap (next s.rule) (sym earlier_is);
    earlier_closed = λ _ k later inside. subst (λ (ts : List Tile). IsClosed s.slots.items ts k) (sym previous_is) (grown.closed k later inside);
    settled = λ k band later inside small clear.
        let clear_after : band_mark marked k band ≡ 0 = sym (ap (λ (bs : List Bands). band_mark bs k band) active_is) ∙ clear in
        let clear_mark : band_mark b.next_active.items k band ≡ 0 = clear_before b.next_active.items marked k band (worked.kept k band) clear_after in
        record {
          known = refl;
          cell = λ x y wide high in_band.
              ap (λ (ts : List Tile). tile_cell (tile_of ts k) x y) previous_is
              ∙ settled_again s.index s.slots.items kept.whole.indexed s.current.items b.previous.items after b.active.items b.next_active.items marked s.rule kept.whole.current_none begun.previous_none worked
              k x y later inside wide high (ap (band_mark marked k) in_band ∙ clear_after)
              (begun.again k x y later inside wide high (ap (band_mark b.next_active.items k) in_band ∙ clear_mark))
              ∙ ap (λ (ts : List Tile). state_at (next s.rule (generation_shown s.index ts)) (start_at (place_of s.slots.items k).0 +ℤ pos x) (start_at (place_of s.slots.items k).1 +ℤ pos y)) (sym current_is);
        };
    closed = λ k later inside idle.
        subst (λ (ts : List Tile). IsClosed s.slots.items ts k) (sym current_is)
        (closed_idle s.index s.slots.items kept.whole.indexed s.current.items b.previous.items after b.active.items b.next_active.items marked s.rule kept.whole.current_none begun.previous_none worked
        k later inside (idle_marks k idle) (begun.previous_closed k later inside));
    calm = λ _. refl;
    grown = λ calm. record {
      closed = λ k later inside.
          subst (λ (ts : List Tile). IsClosed s.slots.items ts k) (sym current_is)
          (closed_again s.index s.slots.items kept.whole.indexed s.current.items b.previous.items after b.active.items b.next_active.items marked s.rule kept.whole.current_none begun.previous_none worked
          (idle_marks 0 calm) begun.previous_closed k later inside);
    };
  }
