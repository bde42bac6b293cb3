use Rattle.std.proofs.Common.{refl, ap, ◌∙◌, arith}
use Rattle.std.proofs.lemmas.Int.{ints}
use Rattle.life_model.specs.Generation.{contains}
use Rattle.life_model.proofs.Recurrences.{generation-zero}
use Rattle.life_ash.specs.Parts.{ash_age_limit}
use Rattle.life_cells.proofs.Places.{by_places}
use Rattle.life_census.proofs.field.is_placed.Goals as goal

pub returns : goal.returns
returns c high =
    let o = c.args.orbit.now in
    let later = c.hull-hull.ensures.recurs.recurs.later in
    by_places ash_age_limit o.set (λ d here.
    let inside = c.hull-hull.ensures.hull 0 d (omega arith) (ap (λ G. contains G d) (generation-zero o.rule o.set) ∙ here) in
    let left = c.if-not-are_places.ensures.least refl in
    let right = c.if-not-are_places.ensures.greatest refl in
    let above = c.are_places-2.ensures.least high in
    let below = c.are_places-2.ensures.greatest high in
    record {
      left = omega (arith, ints);
      right = omega (arith, ints);
      above = omega (arith, ints);
      below = omega (arith, ints);
    })
