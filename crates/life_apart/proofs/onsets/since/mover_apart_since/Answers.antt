use Rattle.std.proofs.Common.{refl, sym, ap, ◌∙◌}
use Rattle.std.proofs.lemmas.List.{get_or_read}
use Rattle.life_orbit.specs.Course.{Course}
use Rattle.life_apart.proofs.onsets.since.mover_apart_since.Goals as goal

pub returns-then-rests-clause-apart : goal.returns-then-rests-clause-apart
returns-then-rests-clause-apart c R are e moves =
    absurd (moves (ap (λ (o : Course). o.displacement)
    (sym (get_or_read c.args.parts.now c.args.place c.index-parts-place.result c.requires.place c.index-parts-place.is e))
    ∙ c.if-rests.ensures.0 refl))

pub returns-clause-apart : goal.returns-clause-apart
returns-clause-apart c R are e moves = c.place_apart_since.ensures.apart R are
