use Rattle.std.proofs.Common.{◌≡◌, ◌<◌, ◌≤◌, length, sym, subst, below_more, arith}
use Rattle.life_plane.specs.declared.tile.Tile.{Tile}
use Rattle.life_slots.specs.Slots.{link_of, tile_of}
use Rattle.life_slots.specs.Rims.{IsRimOf, IsStill}
use Rattle.life_tile.proofs.Kept.{extended_itself, extended_more}
use Rattle.life_tile.proofs.tile_store.TileStore.grow_around.Goals as goal

pub loop-direction-init : goal.loop-direction-init
loop-direction-init c = record { kept = c.requires.kept; extended = extended_itself c.args.self.now; still = λ m never. absurd (omega arith) }

pub grow_towards-requires-clause-kept : goal.grow_towards-requires-clause-kept
grow_towards-requires-clause-kept c = c.loop-direction.invariant.kept

pub grow_towards-requires-clause-slot : goal.grow_towards-requires-clause-slot
grow_towards-requires-clause-slot c = (let more = c.loop-direction.invariant.extended.more in let inside = c.requires.slot in omega arith)

pub grow_towards-requires-clause-rim : goal.grow_towards-requires-clause-rim
grow_towards-requires-clause-rim c = subst (IsRimOf c.rim_of-rim.result) (sym (c.loop-direction.invariant.extended.current c.args.slot c.requires.slot)) c.rim_of-rim.ensures

pub returns-in_err-grow_towards-clause-extended : goal.returns-in_err-grow_towards-clause-extended
returns-in_err-grow_towards-clause-extended c = extended_more c.args.self.now c.loop-direction.self c.grow_towards.new.self c.loop-direction.invariant.extended c.grow_towards.ensures.extended

pub loop-direction-preserved : goal.loop-direction-preserved
loop-direction-preserved c =
    let more : length c.args.self.now.slots.items ≤ length c.loop-direction.self.slots.items = c.loop-direction.invariant.extended.more in
    let slot : c.args.slot < length c.args.self.now.slots.items = c.requires.slot in
    let inside : c.args.slot < length c.loop-direction.self.slots.items = omega arith in
    record {
      kept = c.grow_towards.ensures.kept;
      extended = extended_more c.args.self.now c.loop-direction.self c.grow_towards.new.self c.loop-direction.invariant.extended c.grow_towards.ensures.extended;
      still = below_more (λ m. link_of c.grow_towards.new.self.slots.items c.args.slot m ≡ 0 → IsStill (tile_of c.args.self.now.current.items c.args.slot) m) c.loop-direction.direction
          (λ m less none. c.loop-direction.invariant.still m less (c.grow_towards.ensures.extended.link c.args.slot m c.requires.later inside (omega arith) none))
          (λ none.
          subst (λ (t : Tile). IsStill t c.loop-direction.direction) (c.loop-direction.invariant.extended.current c.args.slot c.requires.slot)
          (c.in_ok-grow_towards.ensures.grown none));
    }

pub returns-clause-kept : goal.returns-clause-kept
returns-clause-kept c = c.loop-direction.invariant.kept

pub returns-clause-extended : goal.returns-clause-extended
returns-clause-extended c = c.loop-direction.invariant.extended

pub returns-clause-closed : goal.returns-clause-closed
returns-clause-closed c = record {
  closed = λ m small none.
      subst (λ (t : Tile). IsStill t m) (sym (c.loop-direction.invariant.extended.current c.args.slot c.requires.slot)) (c.loop-direction.invariant.still m (omega arith) none);
}

pub returns-then-is_surrounded-clause-extended : goal.returns-then-is_surrounded-clause-extended
returns-then-is_surrounded-clause-extended c = extended_itself c.args.self.now

pub returns-then-is_surrounded-clause-closed : goal.returns-then-is_surrounded-clause-closed
returns-then-is_surrounded-clause-closed c = record { closed = λ m small none. absurd (c.is_surrounded.ensures c.if-is_surrounded.true m small none) }

pub returns-then-is_idle-clause-extended : goal.returns-then-is_idle-clause-extended
returns-then-is_idle-clause-extended c = extended_itself c.args.self.now

pub returns-then-is_idle-clause-closed : goal.returns-then-is_idle-clause-closed
returns-then-is_idle-clause-closed c = c.requires.kept.closed c.args.slot c.requires.later c.requires.slot (c.is_idle.ensures c.if-is_idle.true)
