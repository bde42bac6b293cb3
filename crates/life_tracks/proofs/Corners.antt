-- How far the corner of one set is from that of another.
use Rattle.std.proofs.Common.{◌≡◌, List, ap, ◌∙◌, arith}
use Rattle.std.proofs.lemmas.Int.{ints}
use Rattle.life_model.specs.Cell.{Cell, opposite, plus}
use Rattle.life_model.specs.Generation.{Generation, cells}
use Rattle.life_model.specs.Symmetry.{corner, corner_of}
use Rattle.life_model.proofs.Cells.{pair}

-- the displacement from the corner of one set to that of another
pub difference : (E P : Generation) (cs ds : List Cell) (from to d : Cell) → cs ≡ cells E → ds ≡ cells P → from ≡ corner_of cs →
    to ≡ corner_of ds → d ≡ plus to (opposite from) → d ≡ plus (opposite (corner E)) (corner P)
unfolding corner
difference E P cs ds from to d cs_are ds_are from_is to_is d_is =
    d_is ∙ (let e : plus to (opposite from) ≡ plus (opposite from) to = pair (omega (arith, ints)) (omega (arith, ints)) in e)
    ∙ (λ i. plus (opposite ((from_is ∙ ap corner_of cs_are) i)) ((to_is ∙ ap corner_of ds_are) i))
