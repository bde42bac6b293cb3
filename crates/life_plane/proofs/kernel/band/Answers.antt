use Rattle.std.proofs.Common.{ℕ, List, slice_index, ap, subst, ◌∙◌}
use Rattle.std.specs.Int.{bit_at}
use Rattle.life_plane.specs.declared.logic.Logic.{Logic}
use Rattle.life_plane.specs.Logics.{IsLogicOf}
use Rattle.life_plane.proofs.kernel.band.Goals as goal
use Rattle.life_plane.proofs.kernel.band.Goals.{in-Life, in-General}

pub returns-clause-next : goal.returns-clause-next
returns-clause-next c = λ rule is x y column row.
    ap (λ w. bit_at w x) (c.replace.ensures.rows y row)
    ∙ (elim c.match-logic.branch [
      | in-Life w ↦ ap (λ (rows : List ℕ). bit_at (slice_index rows y) x) w.next-is ∙ w.next_rows-next.ensures rule (subst (λ (l : Logic). IsLogicOf l rule) w.in-Life.is is) x y column row
      | in-General w ↦ ap (λ (rows : List ℕ). bit_at (slice_index rows y) x) w.next-is ∙ w.next_rows-next-in-General.ensures rule (subst (λ (l : Logic). IsLogicOf l rule) w.in-General.is is) x y column row
    ])
