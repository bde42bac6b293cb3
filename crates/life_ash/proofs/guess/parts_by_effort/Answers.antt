use Rattle.std.proofs.Common.{arith}
use Rattle.std.specs.List.{All}
use Rattle.std.proofs.lemmas.List.Elements.{All-same}
use Rattle.life_model.specs.Generation.{cells}
use Rattle.life_cells.specs.Limits.{IsWithin}
use Rattle.life_ash.proofs.Firsts.{firsts_within}
use Rattle.life_ash.proofs.guess.parts_by_effort.Goals as goal
use Rattle.life_ash.specs.Parts.{ash_age_limit}

pub orbits_of-requires-clause-within : goal.orbits_of-requires-clause-within
orbits_of-requires-clause-within g c =
    All-same (λ x. All (IsWithin ash_age_limit) (cells x.first)) _ _ c.as_slice.ensures.value
    (firsts_within c.rule-rule.result (g.P.Plane.steps_made c.args.plane.now) ash_age_limit
    (g.P.Plane.members c.args.plane.now) c.in_ok-all.all.items c.in_ok-all.ensures.together
    (omega arith) c.age-age.ensures.within)
