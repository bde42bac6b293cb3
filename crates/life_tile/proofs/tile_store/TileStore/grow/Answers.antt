use Rattle.std.proofs.Common.{◌≡◌, ◌<◌, ◌≤◌, ⊎_elim, length, sym, subst, ◌∙◌, arith}
use Rattle.std.proofs.lemmas.Bool.{cases_eq, cases_lt}
use Rattle.life_slots.specs.Indexes.{IsClosed}
use Rattle.life_tile.proofs.Kept.{extended_itself, extended_more, closed_extended, closed_new, members_extended}
use Rattle.life_tile.proofs.tile_store.TileStore.grow.Goals as goal

pub loop-slot-init : goal.loop-slot-init
loop-slot-init c = record { kept = c.requires; extended = extended_itself c.args.self.now; closed = λ k later never. absurd (omega arith) }

pub grow_around-requires-clause-kept : goal.grow_around-requires-clause-kept
grow_around-requires-clause-kept c = c.loop-slot.invariant.kept

pub grow_around-requires-clause-slot : goal.grow_around-requires-clause-slot
grow_around-requires-clause-slot c = (let more : length c.args.self.now.slots.items ≤ length c.loop-slot.self.slots.items = c.loop-slot.invariant.extended.more in omega arith)

pub returns-in_err-grow_around-clause-members : goal.returns-in_err-grow_around-clause-members
returns-in_err-grow_around-clause-members c = members_extended c.args.self.now c.grow_around.new.self c.requires.whole c.grow_around.ensures.kept.whole
    (extended_more c.args.self.now c.loop-slot.self c.grow_around.new.self c.loop-slot.invariant.extended c.grow_around.ensures.extended)

pub returns-in_err-grow_around-clause-rule : goal.returns-in_err-grow_around-clause-rule
returns-in_err-grow_around-clause-rule c = c.grow_around.ensures.extended.rule ∙ c.loop-slot.invariant.extended.rule

pub returns-in_err-grow_around-clause-age : goal.returns-in_err-grow_around-clause-age
returns-in_err-grow_around-clause-age c = c.grow_around.ensures.extended.age ∙ c.loop-slot.invariant.extended.age

pub loop-slot-preserved : goal.loop-slot-preserved
loop-slot-preserved c = record {
  kept = c.grow_around.ensures.kept;
  extended = extended_more c.args.self.now c.loop-slot.self c.grow_around.new.self c.loop-slot.invariant.extended c.grow_around.ensures.extended;
  closed = λ k later less.
      let more : length c.args.self.now.slots.items ≤ length c.loop-slot.self.slots.items = c.loop-slot.invariant.extended.more in
      ⊎_elim
      (λ (here : k ≡ c.loop-slot.slot). subst (IsClosed c.grow_around.new.self.slots.items c.grow_around.new.self.current.items) (sym here) c.in_ok-grow_around.ensures.closed)
      (λ other. closed_extended c.loop-slot.self c.grow_around.new.self k c.grow_around.ensures.extended later (omega arith) (c.loop-slot.invariant.closed k later (omega arith)))
      (cases_eq k c.loop-slot.slot);
}

pub returns-clause-kept : goal.returns-clause-kept
returns-clause-kept c = c.loop-slot.invariant.kept

pub returns-clause-members : goal.returns-clause-members
returns-clause-members c = members_extended c.args.self.now c.loop-slot.self c.requires.whole c.loop-slot.invariant.kept.whole c.loop-slot.invariant.extended

pub returns-clause-rule : goal.returns-clause-rule
returns-clause-rule c = c.loop-slot.invariant.extended.rule

pub returns-clause-age : goal.returns-clause-age
returns-clause-age c = c.loop-slot.invariant.extended.age

pub returns-clause-grown : goal.returns-clause-grown
returns-clause-grown c = record {
  closed = λ k later inside.
      ⊎_elim
      (λ (old : k < length c.args.self.now.slots.items). c.loop-slot.invariant.closed k later (omega arith))
      (λ past. closed_new c.args.self.now c.loop-slot.self k c.loop-slot.invariant.extended past inside)
      (cases_lt k (length c.args.self.now.slots.items));
}
