use Rattle.std.proofs.Common.{◌<◌, slice_index, length, refl, arith}
use Rattle.life_slots.proofs.Linking.{connected_more}
use Rattle.life_slots.proofs.slot.connect.Goals as goal

pub loop-direction-init : goal.loop-direction-init
loop-direction-init c = record {
  place = λ k. refl;
  here = λ k m inside small never. absurd (omega arith);
  others = λ k m small none. refl;
}

pub loop-direction-preserved : goal.loop-direction-preserved
loop-direction-preserved c =
    let small : c.loop-direction.direction < 9 = c.loop-direction-test.true in
    let bound : slice_index c.args.links.now c.loop-direction.direction < length c.args.slots.now = c.requires c.loop-direction.direction small in
    let inside : slice_index c.args.links.now c.loop-direction.direction < length c.loop-direction.slots = omega arith in
    connected_more c.args.links.now c.args.slot c.args.slots.now c.loop-direction.slots c.loop-direction.direction (slice_index c.args.links.now c.loop-direction.direction) c.with_link.result
    small inside refl c.with_link.ensures.here c.with_link.ensures.others c.loop-direction.auto.slots c.loop-direction.invariant

pub returns-clause-place : goal.returns-clause-place
returns-clause-place c = c.loop-direction.invariant.place

pub returns-clause-here : goal.returns-clause-here
returns-clause-here c = λ k m inside small is. c.loop-direction.invariant.here k m inside small (omega arith) is

pub returns-clause-others : goal.returns-clause-others
returns-clause-others c = λ k m small apart. c.loop-direction.invariant.others k m small (λ _. apart)
