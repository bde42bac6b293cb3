use Rattle.std.proofs.Common.{◌≡◌, ◌+◌, length, get_or, ◌∙◌, sym, subst, arith}
use Rattle.std.specs.Prelude.{All}
use Rattle.std.proofs.lemmas.List.{take_all}
use Rattle.std.proofs.lemmas.List.Elements.{All-more}
use Rattle.std.proofs.lemmas.List.Sums.{sum_by_more}
use Rattle.life_cells.proofs.DotLists.{in_column, in_column_here, behind_other, first_value, other_values}
use Rattle.life_cells.proofs.writer.first_column.Goals as goal

pub returns-then-dot-column-clause-behind : goal.returns-then-dot-column-clause-behind
returns-then-dot-column-clause-behind c =
    let first = c.requires.sorted 0 c.dots.i (0, 0) (omega arith) c.dots-test.true in
    behind_other _ c.dots.i (0, 0) c.args.dots.now c.requires.sorted c.dots-test.true (omega arith)

pub returns-then-dot-column-clause-value : goal.returns-then-dot-column-clause-value
returns-then-dot-column-clause-value c =
    let first = c.requires.sorted 0 c.dots.i (0, 0) (omega arith) c.dots-test.true in
    c.dots.invariant.value ∙ first_value _ c.dots.i c.args.dots.now (behind_other _ c.dots.i (0, 0) c.args.dots.now c.requires.sorted c.dots-test.true (omega arith))

pub returns-then-dot-column-clause-others : goal.returns-then-dot-column-clause-others
returns-then-dot-column-clause-others c = λ x h. other_values _ c.dots.i x c.args.dots.now c.dots.invariant.here h

pub dots-preserved : goal.dots-preserved
dots-preserved c =
    let dots = c.args.dots.now in
    let p = (get_or dots 0 (0, 0)).0 in
    let i = c.dots.i in
    let same : (get_or dots i (0, 0)).0 ≡ p = omega arith in
    record {
      value = (λ t. c.dots.invariant.value t + sym (in_column_here p (get_or dots i (0, 0)) same) t) ∙ sym (sum_by_more (in_column p) dots i (0, 0) c.dots-test.true);
      here = All-more (λ d. d.0 ≡ p) dots i (0, 0) c.dots-test.true c.dots.invariant.here same;
    }

pub returns-clause-others : goal.returns-clause-others
returns-clause-others c = λ x h.
    let dots = c.args.dots.now in
    let all = subst (All (λ d. d.0 ≡ (get_or dots 0 (0, 0)).0)) (take_all c.dots.i dots c.dots-test.false ∙ sym (take_all (length dots) dots (omega arith))) c.dots.invariant.here in
    other_values _ (length dots) x dots all h
