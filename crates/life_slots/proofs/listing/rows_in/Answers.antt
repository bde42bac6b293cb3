use Rattle.std.proofs.Common.{◌≡◌, ◌≤◌, pos, All, List, length, get_or, slice_index, sym, subst, ap, ◌∙◌, arith}
use Rattle.std.proofs.lemmas.List.{take_all}
use Rattle.life_plane.specs.declared.tile.Tile.{Tile}
use Rattle.life_slots.specs.Seats.{IsBetween}
use Rattle.life_slots.specs.Slots.{tile_of}
use Rattle.life_slots.specs.declared.seats.Seat.{Seat}
use Rattle.life_slots.proofs.Seated.{between_more, between_none}
use Rattle.life_slots.proofs.listing.rows_in.Goals as goal

pub loop-seat-init : goal.loop-seat-init
loop-seat-init c = record { first = omega arith; end = omega arith; rows = between_none c.args.tiles.now 64 0 c.args.seats.now }

pub loop-seat-preserved : goal.loop-seat-preserved
loop-seat-preserved c =
    let none : Seat = record { row = pos 0; column = pos 0; slot = 0 } in
    let seat : Seat = get_or c.args.seats.now c.loop-seat.seat-index none in
    let tile_is : c.tile_in-tile.result.now ≡ tile_of c.args.tiles.now seat.slot = c.tile_in-tile.ensures in
    let first_small = c.loop-seat.invariant.first in
    let end_small = c.loop-seat.invariant.end in
    let first_is = c.min-first.ensures in
    let end_is = c.max-end.ensures in
    let eight_small = c.first_eight.ensures.small in
    let eights_small = c.end_of_eights.ensures.small in
    let first_least : c.min-first.result ≤ c.loop-seat.first = omega arith in
    let end_most : c.loop-seat.end ≤ c.max-end.result = omega arith in
    let first_here : c.min-first.result ≤ c.first_eight.result = omega arith in
    let end_here : c.end_of_eights.result ≤ c.max-end.result = omega arith in
    record {
      first = omega arith;
      end = omega arith;
      rows = between_more c.args.tiles.now c.loop-seat.first c.loop-seat.end c.min-first.result c.max-end.result c.loop-seat.seat-index c.args.seats.now none
          c.loop-seat-test.true first_least end_most c.loop-seat.invariant.rows
          (record {
            above = λ y less. sym (ap (λ (t : Tile). slice_index t.rows y) tile_is) ∙ c.first_eight.ensures.void y (omega arith);
            below = λ y past small. sym (ap (λ (t : Tile). slice_index t.rows y) tile_is) ∙ c.end_of_eights.ensures.void y (omega arith) small;
          });
    }

pub returns-clause-rows : goal.returns-clause-rows
returns-clause-rows c =
    let all : length c.args.seats.now ≤ c.loop-seat.seat-index = c.loop-seat-test.false in
    subst (λ (ss : List Seat). All (IsBetween c.args.tiles.now c.loop-seat.first c.loop-seat.end) ss) (take_all c.loop-seat.seat-index c.args.seats.now all) c.loop-seat.invariant.rows
