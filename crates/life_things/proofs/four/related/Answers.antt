use Rattle.std.proofs.Common.{[], ◌∷◌, refl, sym, subst, true≢false}
use Rattle.life_things.specs.Clear.{StaysClearBetween}
use Rattle.life_things.proofs.Relating.{above_is, four_by, four_first, four_fourth, four_second, four_third}
use Rattle.life_things.proofs.four.related.Goals as goal

pub returns-then-not-tried : goal.returns-then-not-tried
returns-then-not-tried c = (
  λ t. absurd (true≢false (sym t)),
  λ clear. c.if-not-tried.ensures.1
      (subst (StaysClearBetween c.args.one.now c.args.other.now c.args.start c.args.steps.0 (c.args.steps.1 ∷ c.args.steps.2 ∷ c.args.steps.3 ∷ []) 0)
      (sym (above_is c.args.numbers.first c.above.result c.requires.few.first c.above.ensures.value))
      (four_first c.args.one.now c.args.other.now c.args.start c.args.numbers c.requires.some c.args.steps.0 c.args.steps.1 c.args.steps.2 c.args.steps.3
      c.requires.stay clear)),
)

pub returns-then-not-tried-2 : goal.returns-then-not-tried-2
returns-then-not-tried-2 c = (
  λ t. absurd (true≢false (sym t)),
  λ clear. c.if-not-tried-2.ensures.1
      (subst (StaysClearBetween c.args.one.now c.args.other.now c.args.start c.args.steps.1 (c.args.steps.0 ∷ c.args.steps.2 ∷ c.args.steps.3 ∷ []) 0)
      (sym (above_is c.args.numbers.second c.above-2.result c.requires.few.second c.above-2.ensures.value))
      (four_second c.args.one.now c.args.other.now c.args.start c.args.numbers c.requires.some c.args.steps.0 c.args.steps.1 c.args.steps.2 c.args.steps.3
      c.requires.stay clear)),
)

pub returns-then-not-tried-3 : goal.returns-then-not-tried-3
returns-then-not-tried-3 c = (
  λ t. absurd (true≢false (sym t)),
  λ clear. c.if-not-tried-3.ensures.1
      (subst (StaysClearBetween c.args.one.now c.args.other.now c.args.start c.args.steps.2 (c.args.steps.0 ∷ c.args.steps.1 ∷ c.args.steps.3 ∷ []) 0)
      (sym (above_is c.args.numbers.third c.above-3.result c.requires.few.third c.above-3.ensures.value))
      (four_third c.args.one.now c.args.other.now c.args.start c.args.numbers c.requires.some c.args.steps.0 c.args.steps.1 c.args.steps.2 c.args.steps.3
      c.requires.stay clear)),
)

pub returns : goal.returns
returns c = (
  λ t. four_by c.args.one.now c.args.other.now c.args.start c.args.numbers c.requires.some c.args.steps.0 c.args.steps.1 c.args.steps.2 c.args.steps.3
      c.requires.stay
      (subst (StaysClearBetween c.args.one.now c.args.other.now c.args.start c.args.steps.0 (c.args.steps.1 ∷ c.args.steps.2 ∷ c.args.steps.3 ∷ []) 0)
      (above_is c.args.numbers.first c.above.result c.requires.few.first c.above.ensures.value)
      (c.if-not-tried.ensures.0 refl))
      (subst (StaysClearBetween c.args.one.now c.args.other.now c.args.start c.args.steps.1 (c.args.steps.0 ∷ c.args.steps.2 ∷ c.args.steps.3 ∷ []) 0)
      (above_is c.args.numbers.second c.above-2.result c.requires.few.second c.above-2.ensures.value)
      (c.if-not-tried-2.ensures.0 refl))
      (subst (StaysClearBetween c.args.one.now c.args.other.now c.args.start c.args.steps.2 (c.args.steps.0 ∷ c.args.steps.1 ∷ c.args.steps.3 ∷ []) 0)
      (above_is c.args.numbers.third c.above-3.result c.requires.few.third c.above-3.ensures.value)
      (c.if-not-tried-3.ensures.0 refl))
      (subst (StaysClearBetween c.args.one.now c.args.other.now c.args.start c.args.steps.3 (c.args.steps.0 ∷ c.args.steps.1 ∷ c.args.steps.2 ∷ []) 0)
      (above_is c.args.numbers.fourth c.above-4.result c.requires.few.fourth c.above-4.ensures.value)
      (c.tried-4.ensures.0 t)),
  λ clear. c.tried-4.ensures.1
      (subst (StaysClearBetween c.args.one.now c.args.other.now c.args.start c.args.steps.3 (c.args.steps.0 ∷ c.args.steps.1 ∷ c.args.steps.2 ∷ []) 0)
      (sym (above_is c.args.numbers.fourth c.above-4.result c.requires.few.fourth c.above-4.ensures.value))
      (four_fourth c.args.one.now c.args.other.now c.args.start c.args.numbers c.requires.some c.args.steps.0 c.args.steps.1 c.args.steps.2 c.args.steps.3
      c.requires.stay clear)),
)
