use Rattle.std.proofs.Common.{◌≡◌, ◌+◌, ◌<◌, true, subst}
use Rattle.std.specs.Bool.{OnTrue}
use Rattle.life_model.specs.Evolution.{generation}
use Rattle.life_strays.specs.Strays.{AreHeirs, LacksSome}
use Rattle.life_strays.proofs.Trails.{next_trail}
use Rattle.life_strays.proofs.trailing.next_trail.Goals as goal

pub returns-clause-trail : goal.returns-clause-trail
returns-clause-trail g c = λ R n is members at.
    let G = g.P.Plane.members c.args.start.now in
    let trail = c.args.trail in
    let after = c.args.after in
    let heirs = c.in_ok-heirs.heirs in
    let tells = c.in_ok-tells.tells in
    next_trail R after n G trail at heirs tells (subst (λ F. AreHeirs F trail.heirs heirs) members c.in_ok-heirs.ensures)
    (subst (λ m. OnTrue tells ((trail.tells ≡ true) × (after < m →
    LacksSome m G (generation R G (n + 1)) trail.set heirs))) is
    (subst (λ F. OnTrue tells ((trail.tells ≡ true) × (after < c.args.number →
    LacksSome c.args.number G F trail.set heirs))) members c.in_ok-tells.ensures.told))
