use Rattle.std.proofs.Common.{◌<◌, ◌||◌, All, List, length, sym, subst, ◌∙◌, rules}
use Rattle.std.specs.List.{list_any}
use Rattle.std.proofs.lemmas.List.Elements.{All-nil}
use Rattle.life_model.specs.Cell.{same_cell}
use Rattle.life_plane.specs.declared.tile.Tile.{Tile}
use Rattle.life_slots.specs.Cells.{tiles_cells}
use Rattle.life_slots.specs.Ends.{IsVoid}
use Rattle.life_slots.specs.Places.{IsInside}
use Rattle.life_slots.specs.Seats.{has_tile, IsSeat}
use Rattle.life_slots.specs.Slots.{placed_tiles, tile_of}
use Rattle.life_slots.specs.declared.seats.Seat.{Seat}
use Rattle.life_slots.proofs.Listed.{all_first, all_rest}
use Rattle.life_slots.proofs.Seated.{Entry, all_pushed, no_more, seat_of, seat_pushed, seat_taken, seat_void}
use Rattle.life_slots.proofs.seats.live_seats.Goals as goal

pub loop-place-init : goal.loop-place-init
loop-place-init c =
    let gives = c.into_iter-place-iterator.ensures.into_iter_gives ∙ c.iter-place-items.ensures.rest in
    record {
      next_is = search rules;
      inside = subst (λ (xs : List Entry). All (λ e. IsInside e.0) xs) (sym gives) (λ k d below. c.requires.inside _ _ (c.iter-place-items.ensures.found k d below));
      slots = subst (λ (xs : List Entry). All (λ e. e.1 < length c.args.tiles.now) xs) (sym gives) (λ k d below. c.requires.slots _ _ (c.iter-place-items.ensures.found k d below));
      seats = subst (λ (xs : List Seat). All (IsSeat (length c.args.tiles.now)) xs) (sym c.new-seats.ensures.items) (All-nil (IsSeat (length c.args.tiles.now)));
      cells = λ q. (λ i. list_any (has_tile c.args.tiles.now q) (c.new-seats.ensures.items i) || list_any (same_cell q) (tiles_cells (placed_tiles (gives i) c.args.tiles.now)));
    }

pub tile_in-requires : goal.tile_in-requires
tile_in-requires c = all_first (λ e. e.1 < length c.args.tiles.now) _ _ _ c.in-Some.ensures.steps c.loop-place.invariant.slots

pub loop-place-preserved-in-Continue-1 : goal.loop-place-preserved-in-Continue-1
loop-place-preserved-in-Continue-1 c =
    let place : IsInside c.in-Some.place.now = all_first (λ e. IsInside e.0) _ _ _ c.in-Some.ensures.steps c.loop-place.invariant.inside in
    let slot : c.in-Some.slot.now < length c.args.tiles.now = all_first (λ e. e.1 < length c.args.tiles.now) _ _ _ c.in-Some.ensures.steps c.loop-place.invariant.slots in
    let pushed = seat_pushed (c.in-Some.place.now, c.in-Some.slot.now) c.loop-place.seats.items c.push.new.self.items place c.in_ok-push.ensures.items in
    record {
      next_is = search rules;
      inside = all_rest (λ e. IsInside e.0) _ _ _ c.in-Some.ensures.steps c.loop-place.invariant.inside;
      slots = all_rest (λ e. e.1 < length c.args.tiles.now) _ _ _ c.in-Some.ensures.steps c.loop-place.invariant.slots;
      seats = all_pushed (IsSeat (length c.args.tiles.now)) c.loop-place.seats.items (seat_of (c.in-Some.place.now, c.in-Some.slot.now)) c.push.new.self.items pushed
          c.loop-place.invariant.seats (record { inside = place; slot = slot });
      cells = λ q.
          seat_taken c.args.tiles.now q (c.in-Some.place.now, c.in-Some.slot.now) _ _ c.loop-place.seats.items c.push.new.self.items c.in-Some.ensures.steps pushed
          ∙ c.loop-place.invariant.cells q;
    }

pub loop-place-preserved : goal.loop-place-preserved
loop-place-preserved c =
    let void : IsVoid (tile_of c.args.tiles.now c.in-Some.slot.now) = subst (λ (t : Tile). IsVoid t) c.tile_in.ensures (c.is_void.ensures.void c.if-not-is_void.false) in
    record {
      next_is = search rules;
      inside = all_rest (λ e. IsInside e.0) _ _ _ c.in-Some.ensures.steps c.loop-place.invariant.inside;
      slots = all_rest (λ e. e.1 < length c.args.tiles.now) _ _ _ c.in-Some.ensures.steps c.loop-place.invariant.slots;
      seats = c.loop-place.invariant.seats;
      cells = λ q.
          seat_void c.args.tiles.now q (c.in-Some.place.now, c.in-Some.slot.now) _ _ c.loop-place.seats.items c.in-Some.ensures.steps void
          ∙ c.loop-place.invariant.cells q;
    }

pub returns-clause-cells : goal.returns-clause-cells
returns-clause-cells c = λ q.
    no_more c.args.tiles.now q _ c.loop-place.seats.items c.in-None.ensures.steps.0
    ∙ c.loop-place.invariant.cells q
