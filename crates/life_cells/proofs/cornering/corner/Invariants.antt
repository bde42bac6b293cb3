use Rattle.std.proofs.Common.{◌≡◌, get_or, take, pos}
use Rattle.life_model.specs.Symmetry.{least_by}
use Rattle.life_cells.proofs.cornering.corner.Given as goal

-- the least coordinates of the first cell and of those seen so far
abbrev pub invariant-loop-cell : goal.invariant-loop-cell
invariant-loop-cell l =
    (l.x ≡ least_by (λ b. b.0) (get_or l.cells 0 (pos 0, pos 0)) (take l.cell-index l.rest))
    × (l.y ≡ least_by (λ b. b.1) (get_or l.cells 0 (pos 0, pos 0)) (take l.cell-index l.rest))
