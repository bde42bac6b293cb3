use Rattle.std.proofs.Common.{◌++◌, ◌∷◌, [], ap, ◌∙◌, refl}
use Rattle.life_cells.proofs.Columns.{zeros_turn}
use Rattle.life_cells.proofs.writer.push_zeros.Goals as goal

pub runs-preserved : goal.runs-preserved
runs-preserved c =
    zeros_turn c.runs.left _ _ c.runs.text.items _ c.runs-test.true refl c.runs.invariant
    (c.in_ok-push-2.ensures.items ∙ ap (λ t. t ++ 122 ∷ []) c.in_ok-push.ensures.items)
