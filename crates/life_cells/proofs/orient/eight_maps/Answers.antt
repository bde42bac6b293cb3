use Rattle.std.proofs.Common.{lit<, refl, List, [], ◌∷◌}
use Rattle.std.specs.List.{Contains}
use Rattle.life_model.specs.Symmetry.{Orientation, Same, FlipX, FlipY, Half, Swap, SwapFlipX, SwapFlipY, SwapHalf}
use Rattle.life_cells.proofs.orient.eight_maps.Goals as goal

abbrev all : List Orientation
all = Same ∷ FlipX ∷ FlipY ∷ Half ∷ Swap ∷ SwapFlipX ∷ SwapFlipY ∷ SwapHalf ∷ []

stands : (m : Orientation) → Contains all m
stands Same = (0, lit< tt, refl)
stands FlipX = (1, lit< tt, refl)
stands FlipY = (2, lit< tt, refl)
stands Half = (3, lit< tt, refl)
stands Swap = (4, lit< tt, refl)
stands SwapFlipX = (5, lit< tt, refl)
stands SwapFlipY = (6, lit< tt, refl)
stands SwapHalf = (7, lit< tt, refl)

pub returns-clause-each : goal.returns-clause-each
returns-clause-each c = stands
