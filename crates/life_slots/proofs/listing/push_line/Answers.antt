use Rattle.std.proofs.Common.{◌||◌, pos, get_or, ap, sym, ◌∙◌}
use Rattle.std.proofs.Math.Bool.{or_assoc}
use Rattle.std.specs.List.{list_any}
use Rattle.life_model.specs.Cell.{Cell, same_cell}
use Rattle.life_plane.specs.declared.tile.Tile.{Tile}
use Rattle.life_slots.specs.Seats.{has_line}
use Rattle.life_slots.specs.declared.seats.Seat.{Seat}
use Rattle.life_slots.proofs.Seated.{line_pushed, placed_left, placed_top, seat_more}
use Rattle.life_slots.proofs.listing.push_line.Goals as goal

pub loop-seat-preserved : goal.loop-seat-preserved
loop-seat-preserved c = λ q.
    let none : Seat = record { row = pos 0; column = pos 0; slot = 0 } in
    let seat : Seat = get_or c.args.seats.now c.loop-seat.seat-index none in
    let is_seat = c.requires.seats c.loop-seat.seat-index none c.loop-seat-test.true in
    let init = list_any (same_cell q) c.args.cells.now.items in
    line_pushed c.args.tiles.now c.args.y seat _ _ c.tile_in-tile.result.now.rows c.loop-seat.cells.items c.push_row.new.cells.items q
    (placed_left seat.column c.corner_of-left.result.0 is_seat.inside.west is_seat.inside.east (ap (λ (r : Cell). r.0) c.corner_of-left.ensures))
    (placed_top seat.row c.corner_of-left.result.1 c.args.y is_seat.inside.north is_seat.inside.south c.requires.row (ap (λ (r : Cell). r.1) c.corner_of-left.ensures))
    (ap (λ (t : Tile). t.rows) c.tile_in-tile.ensures)
    c.in_ok-push_row.ensures
    ∙ ap (λ b. b || has_line c.args.tiles.now c.args.y q seat) (c.loop-seat.invariant q)
    ∙ or_assoc init _ (has_line c.args.tiles.now c.args.y q seat)
    ∙ ap (λ b. init || b) (sym (seat_more (has_line c.args.tiles.now c.args.y q) c.args.seats.now c.loop-seat.seat-index none c.loop-seat-test.true))
