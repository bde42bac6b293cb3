use Rattle.std.proofs.Common.{◌||◌, ◌-◌, ◌≤◌, take, drop, ap, sym, ◌∙◌, arith}
use Rattle.std.proofs.Math.Bool.{or_assoc}
use Rattle.std.specs.List.{list_any}
use Rattle.life_model.specs.Cell.{same_cell}
use Rattle.life_slots.specs.Seats.{has_tile}
use Rattle.life_slots.proofs.Seated.{seats_joined}
use Rattle.life_slots.proofs.listing.push_seats.Goals as goal

pub loop-from-preserved : goal.loop-from-preserved
loop-from-preserved c =
    let later : c.loop-from.from ≤ c.end_of_row-to.result = omega (arith, c.end_of_row-to.ensures.later) in
    record {
      inside = c.end_of_row-to.ensures.inside;
      pushed = λ q.
          let init = list_any (same_cell q) c.args.cells.now.items in
          let more = list_any (has_tile c.args.tiles.now q) (take (c.end_of_row-to.result - c.loop-from.from) (drop c.loop-from.from c.args.seats.now)) in
          c.in_ok-push_lines.ensures q
          ∙ ap (λ b. b || more) (c.loop-from.invariant.pushed q)
          ∙ or_assoc init (list_any (has_tile c.args.tiles.now q) (take c.loop-from.from c.args.seats.now)) more
          ∙ ap (λ b. init || b) (sym (seats_joined (has_tile c.args.tiles.now q) c.args.seats.now c.loop-from.from c.end_of_row-to.result later));
    }
