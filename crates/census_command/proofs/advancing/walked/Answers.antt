use Rattle.std.proofs.Common.{◌≡◌, ◌+◌, ◌≤◌, ◌∙◌, sym, ap, subst, arith}
use Rattle.std.proofs.lemmas.Result.{err_from_is_err_and}
use Rattle.life_model.specs.Evolution.{next}
use Rattle.life_model.specs.Generation.{size}
use Rattle.life_model.proofs.Recurrences.{generation-zero, generation-next}
use Rattle.census_command.proofs.Advanced.{none_before, none_larger, outgrows, small_before}
use Rattle.census_command.proofs.advancing.walked.Goals as goal

pub loop-age-init : goal.loop-age-init
loop-age-init c = record {
  cells = c.in_ok-board.ensures.cells ∙ sym (generation-zero _ _);
  age = c.in_ok-board.ensures.age;
  small = none_before _ _ _;
}

pub returns-in_err-check_cells-clause-fails : goal.returns-in_err-check_cells-clause-fails
returns-in_err-check_cells-clause-fails c =
    let early = c.loop-age-test.true in
    let p = err_from_is_err_and c.from_residual-in_err-check_cells.result c.from_residual-in_err-check_cells.ensures.1 in
    rw (p.1, p.2)
    (outgrows c.args.rule.now c.args.list.now c.args.most _ c.args.generations _ c.loop-age.age _ c.in_err-check_cells.ensures c.loop-age.invariant.age
    c.loop-age.invariant.cells (omega arith) c.loop-age.invariant.small)

pub loop-age-preserved : goal.loop-age-preserved
loop-age-preserved c =
    let R = c.args.rule.now in
    let G = c.args.list.now in
    let few = subst (λ X. size X ≤ c.args.most) c.loop-age.invariant.cells c.in_ok-check_cells.ensures in
    record {
      cells = c.in_ok-step.ensures.cells ∙ ap (next R) c.loop-age.invariant.cells ∙ sym (generation-next _ _ c.loop-age.age);
      age = c.in_ok-step.ensures.age ∙ ap (λ k. k + 1) c.loop-age.invariant.age;
      small = small_before R G c.args.most c.loop-age.age c.loop-age.invariant.small few;
    }

pub returns-in_err-check_cells-2-clause-fails : goal.returns-in_err-check_cells-2-clause-fails
returns-in_err-check_cells-2-clause-fails c =
    let reached = c.loop-age.auto.age-end in
    let p = err_from_is_err_and c.from_residual-in_err-check_cells-2.result c.from_residual-in_err-check_cells-2.ensures.1 in
    rw (p.1, p.2)
    (outgrows c.args.rule.now c.args.list.now c.args.most _ c.args.generations _ c.loop-age.age _ c.in_err-check_cells-2.ensures c.loop-age.invariant.age
    c.loop-age.invariant.cells reached c.loop-age.invariant.small)

pub returns-clause-small : goal.returns-clause-small
returns-clause-small c =
    let ended = c.loop-age-test.false in
    let reached = c.loop-age.auto.age-end in
    let same : c.loop-age.age ≡ c.args.generations = omega arith in
    none_larger c.args.rule.now c.args.list.now c.args.most c.args.generations c.loop-age.age _ same c.loop-age.invariant.cells c.loop-age.invariant.small
    c.in_ok-check_cells-2.ensures
