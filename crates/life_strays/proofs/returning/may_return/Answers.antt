use Rattle.std.proofs.Common.{subst}
use Rattle.life_plane.specs.Offsets.{IsMovedInto}
use Rattle.life_strays.proofs.returning.may_return.Goals as goal

pub returns : goal.returns
returns g c = λ no within there return.
    subst (λ d. IsMovedInto c.args.heirs.now (g.P.Plane.members c.args.start.now) d → ⊥) c.back.ensures.way
    (c.may_lead-2.ensures no) return
