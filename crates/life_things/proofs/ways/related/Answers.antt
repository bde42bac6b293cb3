use Rattle.std.proofs.Common.{[], ◌∷◌, refl, sym, subst, true≢false}
use Rattle.life_things.specs.Clear.{StaysClearBetween}
use Rattle.life_things.proofs.Relating.{above_is, two_by, two_first, two_second}
use Rattle.life_things.proofs.ways.related.Goals as goal

pub returns-then-not-tried : goal.returns-then-not-tried
returns-then-not-tried c = (
  λ t. absurd (true≢false (sym t)),
  λ clear. c.if-not-tried.ensures.1
      (subst (StaysClearBetween c.args.one.now c.args.other.now c.args.start c.args.step (c.args.last ∷ []) 0)
      (sym (above_is c.args.numbers.first c.above.result c.requires.few.first c.above.ensures.value))
      (two_first c.args.one.now c.args.other.now c.args.start c.args.numbers c.requires.some c.args.step c.args.last
      c.requires.stay c.requires.two.0 c.requires.two.1 clear)),
)

pub returns : goal.returns
returns c = (
  λ t. two_by c.args.one.now c.args.other.now c.args.start c.args.numbers c.requires.some c.args.step c.args.last
      c.requires.stay c.requires.two.0 c.requires.two.1
      (subst (StaysClearBetween c.args.one.now c.args.other.now c.args.start c.args.step (c.args.last ∷ []) 0)
      (above_is c.args.numbers.first c.above.result c.requires.few.first c.above.ensures.value)
      (c.if-not-tried.ensures.0 refl))
      (subst (StaysClearBetween c.args.one.now c.args.other.now c.args.start c.args.last (c.args.step ∷ []) 0)
      (above_is c.args.numbers.second c.above-2.result c.requires.few.second c.above-2.ensures.value)
      (c.tried-2.ensures.0 t)),
  λ clear. c.tried-2.ensures.1
      (subst (StaysClearBetween c.args.one.now c.args.other.now c.args.start c.args.last (c.args.step ∷ []) 0)
      (sym (above_is c.args.numbers.second c.above-2.result c.requires.few.second c.above-2.ensures.value))
      (two_second c.args.one.now c.args.other.now c.args.start c.args.numbers c.requires.some c.args.step c.args.last
      c.requires.stay c.requires.two.0 c.requires.two.1 clear)),
)
