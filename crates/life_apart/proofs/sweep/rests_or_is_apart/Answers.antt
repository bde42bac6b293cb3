use Rattle.std.proofs.Common.{refl, sym, ap, ◌∙◌}
use Rattle.std.proofs.lemmas.List.{get_or_read}
use Rattle.life_orbit.specs.Course.{Course}
use Rattle.life_apart.proofs.Sweeping.{places_apart}
use Rattle.life_apart.proofs.sweep.rests_or_is_apart.Goals as goal

pub returns-then-rests-clause-apart : goal.returns-then-rests-clause-apart
returns-then-rests-clause-apart c R of t e moves =
    absurd (moves (ap (λ (o : Course). o.displacement)
    (sym (get_or_read c.args.orbits.now c.args.place c.index-orbits-place.result c.requires.place c.index-orbits-place.is e))
    ∙ c.if-rests.ensures.0 refl))

pub returns-clause-apart : goal.returns-clause-apart
returns-clause-apart c R of t e moves = (c.is_apart_from_others.ensures R of).0 t

pub returns-clause-found : goal.returns-clause-found
returns-clause-found c R of pairs =
    (c.is_apart_from_others.ensures R of).1
    (λ j within. places_apart R c.args.orbits.now pairs c.args.place j c.requires.place within)
