use Rattle.std.proofs.Common.{◌≡◌, ℤ, ap, arith}
use Rattle.std.proofs.lemmas.Int.{ints}
use Rattle.life_model.proofs.Cells.{pair}
use Rattle.life_slots.specs.Places.{start_at}
use Rattle.life_slots.proofs.ends.cell_at.Goals as goal

pub returns : goal.returns
returns c =
    let here = c.requires.inside in
    let left : c.corner_of-corner.result.0 ≡ start_at c.args.place.0 = ap (λ (r : ℤ × ℤ). r.0) c.corner_of-corner.ensures in
    let top : c.corner_of-corner.result.1 ≡ start_at c.args.place.1 = ap (λ (r : ℤ × ℤ). r.1) c.corner_of-corner.ensures in
    pair (omega (arith, ints, here.west, here.east)) (omega (arith, ints, here.north, here.south))
