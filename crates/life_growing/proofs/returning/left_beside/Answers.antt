use Rattle.std.proofs.Common.{Bool, List, [], ◌∷◌, ◌++◌, filter, get_or, not, sym, ap, ◌∙◌}
use Rattle.std.proofs.lemmas.List.{take_all}
use Rattle.std.proofs.lemmas.List.Elements.{All-nil, All-push, All-same}
use Rattle.life_model.specs.Cell.{Cell, origin}
use Rattle.life_model.specs.Generation.{contains, from_list}
use Rattle.life_model.specs.Symmetry.{translate_of}
use Rattle.life_cells.specs.Limits.{IsPlace}
use Rattle.life_classes.proofs.Kept.{from_list-filter}
use Rattle.life_growing.proofs.ComingBack.{next_fails, next_passes}
use Rattle.life_growing.proofs.returning.left_beside.Goals.{then-not-is_moved_cell+in_ok-push, else-not-is_moved_cell}
use Rattle.life_growing.proofs.returning.left_beside.Goals as goal

pub loop-cell-init : goal.loop-cell-init
loop-cell-init c = record {
  left = c.new-items.ensures.items;
  placed = All-same IsPlace c.new-items.result.items _ c.new-items.ensures.items (All-nil IsPlace);
}

pub is_moved_cell-requires-clause-placed : goal.is_moved_cell-requires-clause-placed
is_moved_cell-requires-clause-placed c =
    c.as_slice-cell-items.ensures.placed c.loop-cell.cell-index _ c.loop-cell-test.true

pub loop-cell-preserved : goal.loop-cell-preserved
loop-cell-preserved c =
    let test : Cell → Bool = λ q. not (contains (translate_of c.args.cells.now c.args.by) q) in
    let all = c.as_slice-cell-items.result.now in
    let n = c.loop-cell.cell-index in
    let at = c.loop-cell.invariant in
    let inside = c.loop-cell-test.true in
    elim c.if-not-is_moved_cell.branch [
      | then-not-is_moved_cell+in_ok-push w ↦
          let is = ap (λ v. v.items) w.items-is ∙ w.in_ok-push.ensures.items in
          record {
            left = is ∙ ap (λ (cs : List Cell). cs ++ get_or all n origin ∷ []) at.left
                ∙ next_passes test all n inside (ap not (sym c.is_moved_cell.ensures ∙ w.if-not-is_moved_cell.true));
            placed = All-same IsPlace _ _ is (All-push IsPlace _ _ at.placed
                (c.as_slice-cell-items.ensures.placed n origin inside));
          }
      | else-not-is_moved_cell w ↦
          let is = ap (λ v. v.items) w.items-is in
          record {
            left = is ∙ at.left
                ∙ next_fails test all n inside (ap not (sym c.is_moved_cell.ensures ∙ w.if-not-is_moved_cell.false));
            placed = All-same IsPlace _ _ is at.placed;
          }
    ]

pub from_ordered-requires-clause-placed : goal.from_ordered-requires-clause-placed
from_ordered-requires-clause-placed c = c.put_in_order.ensures.placed c.loop-cell.invariant.placed

pub returns : goal.returns
returns c =
    let test : Cell → Bool = λ q. not (contains (translate_of c.args.cells.now c.args.by) q) in
    let all = c.as_slice-cell-items.result.now in
    c.from_ordered.ensures ∙ c.put_in_order.ensures.same ∙ ap from_list c.loop-cell.invariant.left
    ∙ ap (λ (cs : List Cell). from_list (filter test cs))
    (take_all c.loop-cell.cell-index all c.loop-cell-test.false ∙ c.as_slice-cell-items.ensures.cells)
    ∙ from_list-filter test c.args.later.now
