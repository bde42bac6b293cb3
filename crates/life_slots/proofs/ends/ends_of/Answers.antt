use Rattle.std.proofs.Common.{◌≡◌, ℕ, ◌+◌, ◌<◌, length, sym, subst, arith}
use Rattle.life_slots.specs.Ends.{AreEnds, IsLiveAt, IsLiveIn}
use Rattle.life_slots.specs.Slots.{place_of, tile_of}
use Rattle.life_slots.proofs.EndCells.{ends_first, ends_joined, ends_kept, ends_none}
use Rattle.life_slots.proofs.ends.ends_of.Goals as goal
use Rattle.life_slots.proofs.ends.ends_of.Goals.{in-Some+in-Some-ends, in-Some+in-None, in_default}

pub loop-slot-init : goal.loop-slot-init
loop-slot-init c = ends_none c.args.slots.now c.args.tiles.now

pub loop-slot-preserved : goal.loop-slot-preserved
loop-slot-preserved c =
    let later : 0 < c.loop-slot.slot = omega arith in
    elim c.match-of_tile.branch [
      | in-Some+in-Some-ends w ↦
          subst (AreEnds (IsLiveAt c.args.slots.now c.args.tiles.now (c.loop-slot.slot + 1))) (sym w.ends-is)
          (ends_joined c.args.slots.now c.args.tiles.now c.loop-slot.slot later w.in-Some-ends.before w.in-Some.more w.joined.result
          (subst (AreEnds (IsLiveAt c.args.slots.now c.args.tiles.now c.loop-slot.slot)) w.in-Some-ends.is c.loop-slot.invariant)
          (subst (AreEnds (IsLiveIn (tile_of c.args.tiles.now c.loop-slot.slot) (place_of c.args.slots.now c.loop-slot.slot))) w.in-Some.is c.of_tile.ensures) w.joined.ensures)
      | in-Some+in-None w ↦
          subst (AreEnds (IsLiveAt c.args.slots.now c.args.tiles.now (c.loop-slot.slot + 1))) (sym w.ends-is)
          (ends_first c.args.slots.now c.args.tiles.now c.loop-slot.slot later
          (subst (AreEnds (IsLiveAt c.args.slots.now c.args.tiles.now c.loop-slot.slot)) w.in-None.is c.loop-slot.invariant) w.in-Some.more
          (subst (AreEnds (IsLiveIn (tile_of c.args.tiles.now c.loop-slot.slot) (place_of c.args.slots.now c.loop-slot.slot))) w.in-Some.is c.of_tile.ensures))
      | in_default w ↦
          subst (AreEnds (IsLiveAt c.args.slots.now c.args.tiles.now (c.loop-slot.slot + 1))) (sym w.ends-is)
          (ends_kept c.args.slots.now c.args.tiles.now c.loop-slot.slot c.loop-slot.ends c.loop-slot.invariant
          (subst (AreEnds (IsLiveIn (tile_of c.args.tiles.now c.loop-slot.slot) (place_of c.args.slots.now c.loop-slot.slot))) w.in_default.is c.of_tile.ensures))
    ]

pub returns : goal.returns
returns c =
    let all : c.loop-slot.slot ≡ length c.args.slots.now = omega arith in
    subst (λ (n : ℕ). AreEnds (IsLiveAt c.args.slots.now c.args.tiles.now n) c.loop-slot.ends) all c.loop-slot.invariant
