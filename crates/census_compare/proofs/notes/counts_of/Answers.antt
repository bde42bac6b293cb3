use Rattle.std.proofs.Common.{◌+◌, ap, arith, sym, take, ◌∙◌, if◌then◌else◌}
use Rattle.census_readback.specs.Shapes.{any_outcome, is_line, lines_that}
use Rattle.census_compare.specs.Notes.{has_code}
use Rattle.census_compare.proofs.Noted.{lines-more, one-most}
use Rattle.census_compare.proofs.notes.counts_of.Goals as goal

pub loop-index-preserved : goal.loop-index-preserved
loop-index-preserved c =
    let l = c.loop-index in
    let rows = c.args.rows.now in
    let row = c.row-row.result in
    let codes = lines-more has_code rows l.index row (omega arith) ∙ ap (λ r. (if is_line has_code r then 1 else 0) + lines_that has_code (take l.index rows)) (sym c.row-row.ensures) in
    let lines = lines-more any_outcome rows l.index row (omega arith) ∙ ap (λ r. (if is_line any_outcome r then 1 else 0) + lines_that any_outcome (take l.index rows)) (sym c.row-row.ensures) in
    let code = one-most (is_line has_code row) in
    let line = one-most (is_line any_outcome row) in
    record {
      compared = omega (arith, l.invariant.compared, c.count_of_code-code.ensures, codes);
      all = omega (arith, l.invariant.all, c.count_of_line-line.ensures, lines);
      few = omega (arith, l.invariant.few, c.count_of_code-code.ensures, code);
      few_all = omega (arith, l.invariant.few_all, c.count_of_line-line.ensures, line);
    }
