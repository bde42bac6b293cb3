-- The eight maps by their names.
use Rattle.life_model.specs.Symmetry as symmetry
use Rattle.life_cells.specs.declared.orient.Orient.{Orient}
use Rattle.life_cells.specs.declared.orient.Orient.TheVariants.{Same, FlipX, FlipY, Half, Swap, SwapFlipX, SwapFlipY, SwapHalf}

abbrev pub orientation : Orient → symmetry.Orientation
orientation Same = symmetry.Same
orientation FlipX = symmetry.FlipX
orientation FlipY = symmetry.FlipY
orientation Half = symmetry.Half
orientation Swap = symmetry.Swap
orientation SwapFlipX = symmetry.SwapFlipX
orientation SwapFlipY = symmetry.SwapFlipY
orientation SwapHalf = symmetry.SwapHalf
