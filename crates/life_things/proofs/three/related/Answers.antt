use Rattle.std.proofs.Common.{[], ◌∷◌, refl, sym, subst, true≢false}
use Rattle.life_things.specs.Clear.{StaysClearBetween}
use Rattle.life_things.proofs.Relating.{above_is, three_by, three_first, three_second, three_third}
use Rattle.life_things.proofs.three.related.Goals as goal

pub returns-then-not-tried : goal.returns-then-not-tried
returns-then-not-tried c = (
  λ t. absurd (true≢false (sym t)),
  λ clear. c.if-not-tried.ensures.1
      (subst (StaysClearBetween c.args.one.now c.args.other.now c.args.start c.args.steps.0 (c.args.steps.1 ∷ c.args.steps.2 ∷ []) 0)
      (sym (above_is c.args.numbers.first c.above.result c.requires.few.first c.above.ensures.value))
      (three_first c.args.one.now c.args.other.now c.args.start c.args.numbers c.requires.some c.args.steps.0 c.args.steps.1 c.args.steps.2
      c.requires.stay c.requires.three clear)),
)

pub returns-then-not-tried-2 : goal.returns-then-not-tried-2
returns-then-not-tried-2 c = (
  λ t. absurd (true≢false (sym t)),
  λ clear. c.if-not-tried-2.ensures.1
      (subst (StaysClearBetween c.args.one.now c.args.other.now c.args.start c.args.steps.1 (c.args.steps.0 ∷ c.args.steps.2 ∷ []) 0)
      (sym (above_is c.args.numbers.second c.above-2.result c.requires.few.second c.above-2.ensures.value))
      (three_second c.args.one.now c.args.other.now c.args.start c.args.numbers c.requires.some c.args.steps.0 c.args.steps.1 c.args.steps.2
      c.requires.stay c.requires.three clear)),
)

pub returns : goal.returns
returns c = (
  λ t. three_by c.args.one.now c.args.other.now c.args.start c.args.numbers c.requires.some c.args.steps.0 c.args.steps.1 c.args.steps.2
      c.requires.stay c.requires.three
      (subst (StaysClearBetween c.args.one.now c.args.other.now c.args.start c.args.steps.0 (c.args.steps.1 ∷ c.args.steps.2 ∷ []) 0)
      (above_is c.args.numbers.first c.above.result c.requires.few.first c.above.ensures.value)
      (c.if-not-tried.ensures.0 refl))
      (subst (StaysClearBetween c.args.one.now c.args.other.now c.args.start c.args.steps.1 (c.args.steps.0 ∷ c.args.steps.2 ∷ []) 0)
      (above_is c.args.numbers.second c.above-2.result c.requires.few.second c.above-2.ensures.value)
      (c.if-not-tried-2.ensures.0 refl))
      (subst (StaysClearBetween c.args.one.now c.args.other.now c.args.start c.args.steps.2 (c.args.steps.0 ∷ c.args.steps.1 ∷ []) 0)
      (above_is c.args.numbers.third c.above-3.result c.requires.few.third c.above-3.ensures.value)
      (c.tried-3.ensures.0 t)),
  λ clear. c.tried-3.ensures.1
      (subst (StaysClearBetween c.args.one.now c.args.other.now c.args.start c.args.steps.2 (c.args.steps.0 ∷ c.args.steps.1 ∷ []) 0)
      (sym (above_is c.args.numbers.third c.above-3.result c.requires.few.third c.above-3.ensures.value))
      (three_third c.args.one.now c.args.other.now c.args.start c.args.numbers c.requires.some c.args.steps.0 c.args.steps.1 c.args.steps.2
      c.requires.stay c.requires.three clear)),
)
