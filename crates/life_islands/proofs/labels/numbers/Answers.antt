use Rattle.std.proofs.Common.{[], ◌∷◌, ◌++◌, sym, ap, ◌∙◌}
use Rattle.life_islands.proofs.labels.numbers.Goals as goal
use Rattle.life_cells.proofs.PrintLemmas.{range_one_more}

pub loop-n-preserved : goal.loop-n-preserved
loop-n-preserved c =
    c.in_ok-push.ensures.items ∙ ap (λ xs. xs ++ c.loop-n.n ∷ []) c.loop-n.invariant ∙ sym (range_one_more c.loop-n.n)
