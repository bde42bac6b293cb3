use Rattle.std.proofs.Common.{◌≡◌, ◌+◌, ◌<◌, ◌≤◌, [], length, slice_set, sym, ◌∙◌, arith}
use Rattle.std.proofs.lemmas.List.{get_or_past}
use Rattle.life_slots.proofs.Working.{no_slot_done, slots_idle, worked_busy}
use Rattle.life_slots.proofs.stepping.next_tiles_by.Goals as goal

pub loop-slot-init : goal.loop-slot-init
loop-slot-init c = record {
  later = c.first_busy-slot.ensures.from;
  worked = λ rule of.
      slots_idle c.args.slots.now c.args.current.now c.args.active.now rule c.args.previous.now c.args.previous.now c.args.marks.now c.args.marks.now 1
      (no_slot_done c.args.slots.now c.args.current.now c.args.active.now rule c.args.previous.now c.args.marks.now)
      c.first_busy-slot.result c.first_busy-slot.ensures.from c.first_busy-slot.ensures.idle;
}

pub loop-slot-preserved : goal.loop-slot-preserved
loop-slot-preserved c =
    let from : c.loop-slot.slot + 1 ≤ c.first_busy-slot-in-loop-slot.result = c.first_busy-slot-in-loop-slot.ensures.from in
    let later : 0 < c.loop-slot.slot = c.loop-slot.invariant.later in
    let inside : c.loop-slot.slot < length c.args.slots.now = c.loop-slot-test.true in
    let room : length c.loop-slot.previous ≡ length c.args.slots.now = omega arith in
    record {
      later = omega arith;
      worked = λ rule of.
          slots_idle c.args.slots.now c.args.current.now c.args.active.now rule c.args.previous.now (slice_set c.loop-slot.previous c.loop-slot.slot c.work_out-touched.new.tile) c.args.marks.now c.mark.new.marks (c.loop-slot.slot + 1)
          (worked_busy c.args.slots.now c.args.current.now c.args.active.now rule c.args.previous.now c.loop-slot.previous c.args.marks.now c.loop-slot.marks c.loop-slot.slot later inside (c.loop-slot.invariant.worked rule of)
          c.work_out-touched.new.tile c.work_out-touched.result.columns c.mark.new.marks room (c.work_out-touched.ensures rule of) c.mark.ensures.length c.mark.ensures.kept c.mark.ensures.marked)
          c.first_busy-slot-in-loop-slot.result from c.first_busy-slot-in-loop-slot.ensures.idle;
    }

pub returns : goal.returns
returns c = λ rule of.
    let worked = c.loop-slot.invariant.worked rule of in
    let past : length c.args.slots.now ≤ c.loop-slot.slot = c.loop-slot-test.false in
    record {
      length_after = worked.length_after;
      length_marked = worked.length_marked;
      next = λ k x y later inside wide high busy. worked.next k x y later (omega arith) wide high busy;
      idle = worked.idle;
      first = worked.first;
      later = λ k past.
          get_or_past c.loop-slot.previous k (record { rows = [] }) (let same = worked.length_after in omega arith)
          ∙ sym (get_or_past c.args.previous.now k (record { rows = [] }) (omega arith));
      around = λ k m band x y later inside small b_small wide high near clear. worked.around k m band x y later (omega arith) small b_small wide high near clear;
      kept = worked.kept;
    }
