use Rattle.std.proofs.Common.{◌∙◌, sym}
use Rattle.life_find.proofs.Offsets.{apart_by_answer, apart_by_size}
use Rattle.life_find.proofs.offset.plane_offset.Goals as goal

pub returns-then-population-clause-apart : goal.returns-then-population-clause-apart
returns-then-population-clause-apart g c =
    apart_by_size _ _ (λ e. c.if-population.true (c.population.ensures ∙ e ∙ sym c.population-2.ensures))

pub returns-clause-apart : goal.returns-clause-apart
returns-clause-apart g c = apart_by_answer _ _ c.offset_from_plane.result c.offset_from_plane.ensures.apart
