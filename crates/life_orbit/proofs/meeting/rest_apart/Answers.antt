use Rattle.std.proofs.Common.{sym, subst, ◌∙◌}
use Rattle.std.specs.Bool.{OnTrue}
use Rattle.life_model.specs.Cell.{origin}
use Rattle.life_plane.proofs.Offsets.{same_by_test}
use Rattle.life_orbit.specs.Hulls.{AreFar}
use Rattle.life_orbit.proofs.Clearances.{apart_at_rest}
use Rattle.life_orbit.proofs.meeting.rest_apart.Goals as goal

pub returns : goal.returns
returns c far =
    apart_at_rest c.args.orbit.now c.args.other.now c.requires c.hull.ensures.recurs c.hull-2.ensures.recurs
    c.hull.result c.hull-2.result c.hull.ensures.hull c.hull-2.ensures.hull
    (sym c.displacement.ensures
    ∙ same_by_test c.displacement.result origin c.ne.result c.ne.ensures c.if-ne.false)
    (sym c.displacement-2.ensures
    ∙ same_by_test c.displacement-2.result origin c.ne-2.result c.ne-2.ensures c.if-ne-2.false)
    (subst (λ b. OnTrue b (AreFar c.hull.result origin c.hull-2.result)) far c.are_far.ensures)
