use mir.Syntax.{w128}
use Rattle.std.proofs.Common.{ap, ◌∙◌, arith}
use Rattle.std.specs.Prelude.{unsigned_abs}
use Rattle.std.proofs.lemmas.Int.{ints, to_z-of_z}
use Rattle.life_things.proofs.LatticeLemmas.Likeness.{down_alike, none_alike, up_alike}
use Rattle.life_things.proofs.lattice.turn.residue.Goals as goal

pub returns-then-number-ge0-clause-same : goal.returns-then-number-ge0-clause-same
returns-then-number-ge0-clause-same c =
    up_alike c.args.modulus c.args.number c.unsigned_abs.result
    (c.unsigned_abs.ensures.value ∙ ap unsigned_abs (to_z-of_z w128 c.args.number c.ranges.number))
    (let test = c.if-number-ge0.true in omega (arith, ints))

pub returns-then-rest-eq0-clause-same : goal.returns-then-rest-eq0-clause-same
returns-then-rest-eq0-clause-same c =
    none_alike c.args.modulus c.args.number c.unsigned_abs.result
    (c.unsigned_abs.ensures.value ∙ ap unsigned_abs (to_z-of_z w128 c.args.number c.ranges.number))
    (let test = c.if-number-ge0.false in omega (arith, ints)) c.if-rest-eq0.true

pub returns-clause-same : goal.returns-clause-same
returns-clause-same c =
    down_alike c.args.modulus c.args.number c.unsigned_abs.result
    (c.unsigned_abs.ensures.value ∙ ap unsigned_abs (to_z-of_z w128 c.args.number c.ranges.number))
    (let test = c.if-number-ge0.false in omega (arith, ints)) c.requires.some
