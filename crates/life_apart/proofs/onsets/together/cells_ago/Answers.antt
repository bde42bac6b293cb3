use Rattle.std.proofs.Common.{◌++◌, sym, ◌∙◌}
use Rattle.life_apart.proofs.OnsetsLemmas.Counts.{cells_more, read_cells, read_past, read_placed}
use Rattle.life_apart.specs.Onsets.Pasts.{past_of}
use Rattle.life_apart.proofs.onsets.together.cells_ago.Goals as goal

pub returns-in-None-clause-outside : goal.returns-in-None-clause-outside
returns-in-None-clause-outside c all =
    let os = c.args.parts.now in
    let i = c.loop-part.part-index in
    (rw c.in-None.is at c.in_ok-set.ensures.outside) (past_of c.args.ago c.part-item.result)
    (read_past os c.requires.courses i c.part-item.result c.loop-part-test.true c.part-item.is c.args.ago)
    (read_placed os c.requires.courses i c.part-item.result c.loop-part-test.true c.part-item.is c.args.ago all)

pub loop-part-preserved : goal.loop-part-preserved
loop-part-preserved c =
    let os = c.args.parts.now in
    let i = c.loop-part.part-index in
    c.in_ok-extend_from_slice-in-Some.ensures.items
    ∙ (λ j. c.loop-part.invariant j
    ++ (c.as_slice.ensures.cells
    ∙ read_cells os c.requires.courses i c.part-item.result c.loop-part-test.true c.part-item.is c.args.ago c.in-Some.set
    (rw c.in-Some.is at c.in_ok-set.ensures.set)) j)
    ∙ sym (cells_more c.args.ago os i c.part-item.result c.loop-part-test.true)
