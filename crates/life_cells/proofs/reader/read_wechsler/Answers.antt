use Rattle.std.proofs.Common.{◌≢◌, length, ap, ◌∙◌, arith}
use Rattle.std.proofs.lemmas.Bool.Decides.{nat_tests}
use Rattle.std.proofs.lemmas.Result.{err_from_is_err_and}
use Rattle.life_model.specs.Symmetry.{normal}
use Rattle.life_cells.proofs.CodeReadings.{refusal_empty, told, lawful, spelt_is, all_placed, width_of_list, height_of_list}
use Rattle.life_cells.proofs.Kept.{keeps_whole, some_cell}
use Rattle.life_cells.proofs.reader.read_wechsler.Goals as goal

pub returns-then-is_empty-clause-refused : goal.returns-then-is_empty-clause-refused
returns-then-is_empty-clause-refused c = λ _. refusal_empty c.args.text.now (grind (arith, nat_tests))

pub returns-in_err-cells-clause-refused : goal.returns-in_err-cells-clause-refused
returns-in_err-cells-clause-refused c =
    let more : length c.args.text.now ≢ 0 = grind (arith, nat_tests) in
    let p = err_from_is_err_and c.from_residual.result c.from_residual.ensures.1 in
    rw (p.1, p.2) (λ known. told c.args.text.now c.in_err-cells.field-0.0 more (c.in_err-cells.ensures.drawn known))

pub from_ordered-requires-clause-placed : goal.from_ordered-requires-clause-placed
from_ordered-requires-clause-placed c = c.put_in_order.ensures.placed (all_placed _ c.in_ok-cells.ensures.within)

pub of-requires-clause-wide : goal.of-requires-clause-wide
of-requires-clause-wide c = width_of_list _ _ (c.from_ordered.ensures ∙ c.put_in_order.ensures.same) c.in_ok-cells.ensures.within

pub of-requires-clause-high : goal.of-requires-clause-high
of-requires-clause-high c = height_of_list _ _ (c.from_ordered.ensures ∙ c.put_in_order.ensures.same) c.in_ok-cells.ensures.within

pub returns-clause-shape : goal.returns-clause-shape
returns-clause-shape c =
    c.in_ok-shape.ensures.shape ∙ ap normal (c.from_ordered.ensures ∙ c.put_in_order.ensures.same ∙ spelt_is c.args.text.now c.in_ok-cells.cells.items c.in_ok-cells.ensures.drawn)

pub returns-clause-lawful : goal.returns-clause-lawful
returns-clause-lawful c =
    let more : length c.args.text.now ≢ 0 = grind (arith, nat_tests) in
    lawful c.args.text.now c.in_ok-cells.cells.items more c.in_ok-cells.ensures.drawn

pub returns-then-is_empty-clause-memory : goal.returns-then-is_empty-clause-memory
returns-then-is_empty-clause-memory c = λ e. cc

pub returns-in_err-cells-clause-memory : goal.returns-in_err-cells-clause-memory
returns-in_err-cells-clause-memory c =
    let p = err_from_is_err_and c.from_residual.result c.from_residual.ensures.1 in
    rw (p.1, p.2) (λ refused. keeps_whole c.args.text.now (c.in_err-cells.ensures.memory refused))

pub returns-in_err-shape-clause-memory : goal.returns-in_err-shape-clause-memory
returns-in_err-shape-clause-memory c =
    let p = err_from_is_err_and c.from_residual-in_err-shape.result c.from_residual-in_err-shape.ensures.1 in
    rw (p.1, p.2) (λ refused. keeps_whole c.args.text.now
    (c.in_ok-cells.ensures.kept (some_cell _ _ (c.from_ordered.ensures ∙ c.put_in_order.ensures.same) c.in_err-shape.ensures.memory)))
