use Rattle.std.proofs.Common.{ℕ, ◌<◌, pos, get_or}
use Rattle.life_model.specs.Cell.{opposite, plus}
use Rattle.life_strays.specs.Strays.{IsNoReturn}
use Rattle.life_strays.proofs.returning.some_may_return.Given as goal

abbrev pub invariant-loop-cell : goal.invariant-loop-cell
invariant-loop-cell g l =
    (k : ℕ) → k < l.cell-index →
    IsNoReturn l.number (g.P.Plane.members l.start) (g.P.Plane.members l.later) l.set l.heirs
    (plus (get_or l.listed k (pos 0, pos 0)) (opposite l.first))
