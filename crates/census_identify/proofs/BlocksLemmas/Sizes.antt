-- The box of a normal form.
use Rattle.std.proofs.Common.{◌≡◌, map, ap}
use Rattle.std.specs.Prelude.{nat_abs}
use Rattle.life_model.specs.Box.{extent, height, width}
use Rattle.life_model.specs.Cell.{Cell}
use Rattle.life_model.specs.Generation.{Generation, cells}
use Rattle.life_model.specs.Symmetry.{normal}
use Rattle.life_cells.proofs.Boxes.{normal_normal}

pub width_of_normal : (G : Generation) → width (normal G) ≡ width G
unfolding width
width_of_normal G = ap (λ H. extent (map (λ (c : Cell). nat_abs c.0) (cells H))) (normal_normal G)

pub height_of_normal : (G : Generation) → height (normal G) ≡ height G
unfolding height
height_of_normal G = ap (λ H. extent (map (λ (c : Cell). nat_abs c.1) (cells H))) (normal_normal G)
