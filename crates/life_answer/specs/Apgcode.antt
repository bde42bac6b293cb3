-- The code of an object, as on LifeWiki. The choice among equally short bodies is this project's own.
use Rattle.std.specs.Prelude.{ℕ, List, [], ◌∷◌, ◌++◌, codes, decimal, map, flat_map, ◌==◌, if◌then◌else◌}
use Rattle.std.specs.List.{range_with_len}
use Rattle.life_model.specs.Cell.{Cell, origin, same_cell}
use Rattle.life_model.specs.Rule.{Rule}
use Rattle.life_model.specs.Generation.{Generation, size}
use Rattle.life_model.specs.Evolution.{generation}
use Rattle.life_model.specs.Symmetry.{Orientation, Same, FlipX, FlipY, Half, Swap, SwapFlipX, SwapFlipY, SwapHalf, image_under}
use Rattle.life_cells.specs.Wechsler.{body}
use Rattle.life_cells.specs.TextOrder.{least_text}

-- `xs` and the population of a still life, `xp` and the period of what recurs in place, `xq` and the period of what recurs
-- elsewhere
abbrev pub prefix : ℕ → ℕ → Cell → List ℕ
prefix population period displacement =
    if same_cell displacement origin
    then (if period == 1 then codes "xs" ++ decimal population else codes "xp" ++ decimal period)
    else codes "xq" ++ decimal period

abbrev pub orientations : List Orientation
orientations = Same ∷ FlipX ∷ FlipY ∷ Half ∷ Swap ∷ SwapFlipX ∷ SwapFlipY ∷ SwapHalf ∷ []

-- the Wechsler texts of a set, turned by each of the eight maps
abbrev pub turned_bodies : Generation → List (List ℕ)
turned_bodies G = map (λ m. body (image_under G m)) orientations

-- the Wechsler texts of all phases of one period
abbrev pub bodies : Rule → Generation → ℕ → List (List ℕ)
bodies R H period = flat_map (λ n. turned_bodies (generation R H n)) (range_with_len 0 period)

-- the code of a set that recurs after `period` steps, moved by `displacement`: its prefix, then the least of those texts, by
-- length, then by bytes
unfoldable pub code_of : Rule → Generation → ℕ → Cell → List ℕ
code_of R H period displacement = prefix (size H) period displacement ++ codes "_" ++ least_text (bodies R H period)
