use Rattle.std.proofs.Common.{ap, ◌∙◌, inl, inr, sym, subst, arith, ◌++◌, map, Vec, Global}
use Rattle.std.specs.Prelude.{All}
use Rattle.std.specs.List.{list_any}
use Rattle.life_model.specs.Cell.{Cell}
use Rattle.life_cells.specs.Limits.{IsWithin}
use Rattle.life_cells.specs.Readings.{cell_of_pair}
use Rattle.life_cells.specs.CodeReading.{begins_near, is_far}
use Rattle.life_cells.proofs.Drawings.{cells_left-dead, cells_left-end, bit_set, bit_clear, left_far, left_near, left_more}
use Rattle.life_cells.proofs.Kept.{if_refused, near_left}
use Rattle.life_cells.proofs.reader.push_column.Goals.{then-column-ge-PLACE_LIMIT-via-then-column-ge-PLACE_LIMIT, then-column-ge-PLACE_LIMIT-via-else-column-ge-PLACE_LIMIT+then-y-ge-PLACE_LIMIT, then-value-row-eq1+else-column-ge-PLACE_LIMIT+else-y-ge-PLACE_LIMIT+in_ok-push_cell, else-value-row-eq1}
use Rattle.life_cells.proofs.reader.push_column.Goals as goal

pub returns-then-column-ge-PLACE_LIMIT-clause-far : goal.returns-then-column-ge-PLACE_LIMIT-clause-far
returns-then-column-ge-PLACE_LIMIT-clause-far c = λ _.
    let live = bit_set c.args.value c.rows.row c.if-value-row-eq1.true in
    c.rows.invariant.far
    ∙ elim c.then-column-ge-PLACE_LIMIT.branch [
      | then-column-ge-PLACE_LIMIT-via-then-column-ge-PLACE_LIMIT w ↦ left_far c.args.strip c.args.column c.args.value c.rows.row (omega arith) live (inl w.if-column-ge-PLACE_LIMIT.true)
      | then-column-ge-PLACE_LIMIT-via-else-column-ge-PLACE_LIMIT+then-y-ge-PLACE_LIMIT w ↦ left_far c.args.strip c.args.column c.args.value c.rows.row (omega arith) live (inr w.if-y-ge-PLACE_LIMIT.true)
    ]

pub returns-in_err-push_cell-clause-memory : goal.returns-in_err-push_cell-clause-memory
returns-in_err-push_cell-clause-memory c =
    if_refused _ (c.rows.invariant.first (near_left c.args.strip c.args.column c.args.value c.rows.row (omega arith) (bit_set c.args.value c.rows.row c.if-value-row-eq1.true) (omega arith) (omega arith)))

pub rows-preserved : goal.rows-preserved
rows-preserved c =
    let k = c.args.strip in
    let x = c.args.column in
    let v = c.args.value in
    let j = c.rows.row in
    elim c.if-value-row-eq1.branch [
      | then-value-row-eq1+else-column-ge-PLACE_LIMIT+else-y-ge-PLACE_LIMIT+in_ok-push_cell w ↦
          let live = bit_set v j w.if-value-row-eq1.true in
          let e = ap (λ (cells : Vec Cell Global). cells.items) w.cells-is in
          record {
            cells = left_more k x v j _ c.rows.cells.items _ (omega arith) live c.rows.invariant.cells (e ∙ w.in_ok-push_cell.ensures.cells);
            far = c.rows.invariant.far ∙ left_near k x v j (omega arith) live (omega arith) (omega arith);
            first = λ _. c.rows.invariant.first (near_left k x v j (omega arith) live (omega arith) (omega arith));
            within = λ all. subst (λ cells. All (IsWithin 0) cells) (sym e) (w.in_ok-push_cell.ensures.within (c.rows.invariant.within all));
          }
      | else-value-row-eq1 w ↦
          let dead = cells_left-dead k x v j (omega arith) (bit_clear v j w.if-value-row-eq1.false) in
          let e = ap (λ (cells : Vec Cell Global). cells.items) w.cells-is in
          record {
            cells = c.rows.invariant.cells ∙ (λ i. sym e i ++ map cell_of_pair (dead i));
            far = c.rows.invariant.far ∙ ap (list_any is_far) dead;
            first = λ near. c.rows.invariant.first (ap begins_near dead ∙ near);
            within = λ all. subst (λ cells. All (IsWithin 0) cells) (sym e) (c.rows.invariant.within all);
          }
    ]

pub returns-clause-near : goal.returns-clause-near
returns-clause-near c = c.rows.invariant.far ∙ ap (list_any is_far) (cells_left-end c.args.strip c.args.column c.args.value c.rows.row (omega arith))
