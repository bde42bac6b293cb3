use Rattle.std.proofs.Common.{ap, sym, ◌||◌, ◌∙◌, arith}
use Rattle.std.proofs.Math.Bool.{or-false, or_assoc}
use Rattle.std.specs.List.{list_any}
use Rattle.life_model.specs.Cell.{same_cell}
use Rattle.life_slots.specs.Seats.{has_line, has_rows}
use Rattle.life_slots.proofs.Seated.{rows_above, rows_below, rows_more}
use Rattle.life_slots.proofs.listing.push_lines.Goals as goal

pub loop-y-init : goal.loop-y-init
loop-y-init c = record {
  inside = c.rows_in-first.ensures.first;
  pushed = λ q.
      let init = list_any (same_cell q) c.args.cells.now.items in
      sym (or-false init) ∙ ap (λ b. init || b) (sym (rows_above c.args.tiles.now q c.rows_in-first.result.0 c.rows_in-first.result.1 c.args.seats.now c.rows_in-first.ensures.rows));
}

pub loop-y-preserved : goal.loop-y-preserved
loop-y-preserved c = record {
  inside = (let end = c.rows_in-first.ensures.end in let before = c.loop-y-test.true in omega arith);
  pushed = λ q.
      let init = list_any (same_cell q) c.args.cells.now.items in
      let line = list_any (has_line c.args.tiles.now c.loop-y.y q) c.args.seats.now in
      let rows = list_any (has_rows c.args.tiles.now c.loop-y.y q) c.args.seats.now in
      c.in_ok-push_line.ensures q
      ∙ ap (λ b. b || line) (c.loop-y.invariant.pushed q)
      ∙ or_assoc init rows line
      ∙ ap (λ b. init || b) (sym (rows_more c.args.tiles.now c.loop-y.y q c.args.seats.now));
}

pub returns : goal.returns
returns c = λ q.
    let init = list_any (same_cell q) c.args.cells.now.items in
    let past = c.loop-y-test.false in
    c.loop-y.invariant.pushed q
    ∙ ap (λ b. init || b)
    (rows_below c.args.tiles.now q c.rows_in-first.result.0 c.rows_in-first.result.1 c.loop-y.y c.args.seats.now (omega arith) c.loop-y.invariant.inside c.rows_in-first.ensures.rows)
