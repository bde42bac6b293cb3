use Rattle.std.proofs.Common.{◌≡◌, w64, to_z, of_z, arith}
use Rattle.std.specs.Int.{int_max}
use Rattle.std.proofs.lemmas.Int.{to_z-of_z}
use Rattle.life_apart.proofs.Boxes.{far_across, far_down, further_of}
use Rattle.life_apart.proofs.clearance.Bounds.distance.Goals as goal

pub returns : goal.returns
returns c =
    let b = c.args.self.now in
    let d = c.args.cell in
    let across = c.distance_from-across.result in
    let down = c.distance_from-down.result in
    let is : to_z w64 (of_z w64 c.max.result) ≡ int_max across down = grind (arith, to_z-of_z) in
    further_of b d across down (to_z w64 (of_z w64 c.max.result)) is
    (far_across b d across (grind (arith, to_z-of_z)))
    (far_down b d down (grind (arith, to_z-of_z)))
