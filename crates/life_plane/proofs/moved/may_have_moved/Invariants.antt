use Rattle.std.proofs.Common.{◌≡◌, ℕ, ◌<◌, false, get_or}
use Rattle.life_model.specs.Cell.{opposite, origin, plus}
use Rattle.life_plane.specs.Field.{has}
use Rattle.life_plane.proofs.moved.may_have_moved.Given as goal

-- no move that leads the first cell to one before this place leads the last cell to one of the list
abbrev pub invariant-loop-to : goal.invariant-loop-to
invariant-loop-to l = (k : ℕ) → k < l.to-index →
    has l.list (plus l.last (plus (get_or l.list k origin) (opposite l.from))) ≡ false
