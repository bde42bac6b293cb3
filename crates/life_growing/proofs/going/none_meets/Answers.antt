use Rattle.std.proofs.Common.{refl, subst, arith}
use Rattle.std.proofs.lemmas.List.{take_all}
use Rattle.life_growing.specs.Emissions.{NoneMeets}
use Rattle.life_growing.proofs.GoingMeetings.{more_meet_none}
use Rattle.life_growing.proofs.going.none_meets.Goals as goal

pub loop-thing-preserved : goal.loop-thing-preserved
loop-thing-preserved c =
    more_meet_none c.args.things.now c.args.others.now c.thing-item.result c.loop-thing.thing-index c.loop-thing-test.true
    c.thing-item.is c.loop-thing.invariant (c.if-not-meets_none.ensures.0 refl)

pub returns : goal.returns
returns c = (
  λ t. subst (λ As. NoneMeets As c.args.others.now)
      (take_all c.loop-thing.thing-index c.args.things.now (omega (arith, c.loop-thing-test.false))) c.loop-thing.invariant,
  λ none. refl,
)
