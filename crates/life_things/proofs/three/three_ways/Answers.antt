use Rattle.std.proofs.Common.{[], ◌∷◌}
use Rattle.life_things.proofs.Going.{by_span, to_span}
use Rattle.life_things.proofs.three.three_ways.Goals as goal

pub related-requires-clause-stay : goal.related-requires-clause-stay
related-requires-clause-stay c =
    c.lightest-numbers.ensures.lighter.stays (c.args.first ∷ c.args.second ∷ c.args.third ∷ []) c.plane_numbers.ensures.stay

pub returns-in-Some : goal.returns-in-Some
returns-in-Some c = (
  λ t. by_span c.args.one.now c.args.other.now c.args.start c.args.first (c.args.second ∷ c.args.third ∷ [])
      c.in-Some.span.from c.in-Some.span.until
      (c.in-Some.ensures.outside c.args.one.now c.args.other.now c.requires.field) (c.tried.ensures.0 t),
  λ clear. c.tried.ensures.1
      (to_span c.args.one.now c.args.other.now c.args.start c.args.first (c.args.second ∷ c.args.third ∷ [])
      c.in-Some.span.from c.in-Some.span.until clear),
)
