use Rattle.std.proofs.Common.{arith, ap, ◌∙◌}
use Rattle.census_merge.specs.Kept.{closed_to}
use Rattle.census_merge.proofs.Ranks.{most-is, number-most}
use Rattle.census_merge.proofs.numbering.numbers_of.Goals as goal

pub overflow_add-count : goal.overflow_add-count
overflow_add-count c =
    let is = c.loop-index.invariant.count-is in
    let least = number-most c.args.rows.now c.loop-index.index in
    let less = c.loop-index-test.true in
    let end = c.len-index-end.ensures in
    let size = c.in_ok-flags.ensures.size in
    omega (arith, is, least, less, end, size)

pub returns-clause-count : goal.returns-clause-count
returns-clause-count c =
    let over = c.loop-index-test.false in
    let within = c.loop-index.auto.index-end in
    let end = c.len-index-end.ensures in
    let size = c.in_ok-flags.ensures.size in
    let is = most-is in
    c.loop-index.invariant.count-is ∙ ap (closed_to c.args.rows.now) (omega (arith, over, within, end, size, is))
