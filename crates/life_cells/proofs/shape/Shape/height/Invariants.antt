use Rattle.std.proofs.Common.{◌≡◌, map, take, nat_abs}
use Rattle.life_model.specs.Box.{extent}
use Rattle.life_cells.proofs.shape.Shape.height.Given as goal

abbrev pub invariant-loop-cell : goal.invariant-loop-cell
invariant-loop-cell l = l.height ≡ extent (map (λ c. nat_abs c.1) (take l.cell-index l.cell-items))
