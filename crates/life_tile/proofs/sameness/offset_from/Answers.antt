use Rattle.std.proofs.Common.{◌≡◌, true≢false, length, get_or, sym, subst, ◌∙◌, arith}
use Rattle.life_model.specs.Cell.{origin, plus, opposite}
use Rattle.life_model.specs.Generation.{size, from_list}
use Rattle.life_plane.specs.Offsets.{IsOffset}
use Rattle.life_slots.specs.Ends.{AreEnds, IsMember}
use Rattle.life_tile.specs.TileStores.{members_of}
use Rattle.life_tile.proofs.SameCells.{some_by_ends, offset_of_nothing, apart_by_count, offset_of_all, apart_by_missing}
use Rattle.life_tile.proofs.Halved.{apart_by_stranger}
use Rattle.life_tile.proofs.sameness.offset_from.Goals as goal

pub returns-then-population-cells-clause-apart : goal.returns-then-population-cells-clause-apart
returns-then-population-cells-clause-apart c =
    apart_by_count c.args.cells.now (members_of c.args.store.now) c.requires.rising (λ same. c.if-population-cells.true (c.population.ensures ∙ same))

pub bounds-cells-0 : goal.bounds-cells-0
bounds-cells-0 c = some_by_ends (members_of c.args.store.now) (length c.args.cells.now) c.in-Some.ends c.in-Some.ensures (omega arith)

pub lists_changed-requires-clause-to : goal.lists_changed-requires-clause-to
lists_changed-requires-clause-to c =
    c.requires.placed 0 origin (some_by_ends (members_of c.args.store.now) (length c.args.cells.now) c.in-Some.ends c.in-Some.ensures (omega arith))

pub returns-then-not-lists_changed-clause-apart : goal.returns-then-not-lists_changed-clause-apart
returns-then-not-lists_changed-clause-apart c =
    apart_by_stranger c.args.cells.now (members_of c.args.store.now) c.requires.rising c.in-Some.ends c.in-Some.ensures (c.lists_changed.ensures c.if-not-lists_changed.true)

pub are_live-requires-clause-from : goal.are_live-requires-clause-from
are_live-requires-clause-from c =
    c.requires.placed 0 origin (some_by_ends (members_of c.args.store.now) (length c.args.cells.now) c.in-Some.ends c.in-Some.ensures (omega arith))

pub returns-then-not-are_live-clause-apart : goal.returns-then-not-are_live-clause-apart
returns-then-not-are_live-clause-apart c =
    apart_by_missing c.args.cells.now (members_of c.args.store.now) c.requires.rising c.in-Some.ends c.in-Some.ensures
    (λ all. true≢false (sym (c.are_live.ensures.1 all) ∙ c.if-not-are_live.true))

pub move_between-requires-clause-from_placed : goal.move_between-requires-clause-from_placed
move_between-requires-clause-from_placed c =
    c.requires.placed 0 origin (some_by_ends (members_of c.args.store.now) (length c.args.cells.now) c.in-Some.ends c.in-Some.ensures (omega arith))

pub returns-in-None-clause-offset : goal.returns-in-None-clause-offset
returns-in-None-clause-offset c =
    let as_many : size (members_of c.args.store.now) ≡ length c.args.cells.now = omega arith in
    offset_of_nothing c.args.cells.now (members_of c.args.store.now) c.requires.rising
    (subst (AreEnds (IsMember (members_of c.args.store.now))) c.in-None.is c.ends.ensures) as_many

pub returns-else-not-are_live-clause-offset : goal.returns-else-not-are_live-clause-offset
returns-else-not-are_live-clause-offset c =
    let as_many : size (members_of c.args.store.now) ≡ length c.args.cells.now = omega arith in
    subst (IsOffset (from_list c.args.cells.now) (members_of c.args.store.now)) (sym c.move_between.ensures)
    (offset_of_all c.args.cells.now (members_of c.args.store.now) c.requires.rising (plus c.in-Some.ends.first (opposite (get_or c.args.cells.now 0 origin)))
    (some_by_ends (members_of c.args.store.now) (length c.args.cells.now) c.in-Some.ends c.in-Some.ensures as_many) as_many
    (c.are_live.ensures.0 c.if-not-are_live.false))
