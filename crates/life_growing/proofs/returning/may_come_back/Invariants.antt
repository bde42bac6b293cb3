use Rattle.std.proofs.Common.{ℕ, ◌<◌, get_or}
use Rattle.life_model.specs.Cell.{opposite, origin, plus}
use Rattle.life_growing.specs.Returning.{ComesBackBy}
use Rattle.life_growing.proofs.returning.may_come_back.Given as goal

-- no move to one of the cells before this place brings the cells back
abbrev pub invariant-loop-n : goal.invariant-loop-n
invariant-loop-n g l = (k : ℕ) → k < l.n →
    ComesBackBy l.rule l.bound l.cells l.later (plus (get_or l.all k origin) (opposite l.from)) → ⊥
