use Rattle.std.proofs.Common.{ℕ, ◌+◌, pos, ◌-ℤ◌, ◌≤ℤ◌, w64, to_z, of_z, arith}
use Rattle.std.proofs.lemmas.Int.{ints}
use lib.IntN.{nat_abs}
use Rattle.life_apart.proofs.Rooms.{apart_before}
use Rattle.life_apart.proofs.clearance.room.Goals as goal

pub returns-clause-apart : goal.returns-clause-apart
returns-clause-apart c R Q within apart =
    let n : ℕ = nat_abs (to_z w64 (of_z w64 (to_z w64 (of_z w64 c.distance-far.result) -ℤ pos 1))) in
    let long : pos (n + 1) ≤ℤ c.distance-far.result = omega (arith, ints) in
    apart_before R n _ c.args.set.now Q (omega arith) (c.distance-far.ensures.far (n + 1) Q long within apart)
