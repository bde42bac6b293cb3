use Rattle.std.proofs.Common.{[], ◌∷◌}
use Rattle.life_things.proofs.four.four_ways.Goals as goal

pub related-requires-clause-stay : goal.related-requires-clause-stay
related-requires-clause-stay c =
    c.lightest-numbers.ensures.lighter.stays (c.args.steps.0 ∷ c.args.steps.1 ∷ c.args.steps.2 ∷ c.args.steps.3 ∷ [])
    c.space_numbers.ensures.stay
