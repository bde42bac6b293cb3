use Rattle.std.proofs.Common.{◌/◌, ◌<◌, ◌≤◌, arith}
use Rattle.std.proofs.Math.Nat.{div-le_self, le-div_iff_mul-le, lt-mul-div-succ}
use Rattle.life_orbit.proofs.lanes.rounds_over.Goals as goal

pub returns-clause-over : goal.returns-clause-over
returns-clause-over c = omega (arith, lt-mul-div-succ c.args.places {b = c.args.each} (omega arith))

pub returns-clause-least : goal.returns-clause-least
returns-clause-least c k h =
    let some : 0 < c.args.each = omega arith in
    let early : k ≤ c.args.places / c.args.each = omega arith in
    (le-div_iff_mul-le some).0 early

pub returns-clause-few : goal.returns-clause-few
returns-clause-few c = omega (arith, div-le_self c.args.places c.args.each)
