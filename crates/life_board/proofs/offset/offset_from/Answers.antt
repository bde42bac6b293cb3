use Rattle.std.proofs.Common.{◌≡◌, MatchOption, true≢false, length, get_or, sym, subst, ◌∙◌, arith}
use Rattle.life_model.specs.Cell.{Cell, origin, plus, opposite}
use Rattle.life_model.specs.Generation.{size, from_list}
use Rattle.life_plane.specs.Offsets.{IsOffset}
use Rattle.life_slots.specs.declared.ends.Ends.{Ends}
use Rattle.life_tile.proofs.SameCells.{some_by_ends, offset_of_nothing, apart_by_count, offset_of_all, apart_by_missing}
use Rattle.life_board.specs.Squares.{members_of, AreEnds, HasNoMember}
use Rattle.life_board.proofs.offset.offset_from.Goals as goal

abbrev both : Cell × Cell → Ends
both ends = record { first = ends.0; last = ends.1 }

pub returns-then-population-cells-clause-apart : goal.returns-then-population-cells-clause-apart
returns-then-population-cells-clause-apart c =
    apart_by_count c.args.cells.now (members_of c.args.square.now) c.requires.rising (λ same. c.if-population-cells.true (c.population.ensures ∙ same))

pub bounds-cells-0 : goal.bounds-cells-0
bounds-cells-0 c = some_by_ends (members_of c.args.square.now) (length c.args.cells.now) (both c.in-Some.ends) c.in-Some.ensures (omega arith)

pub are_live-requires-clause-from : goal.are_live-requires-clause-from
are_live-requires-clause-from c =
    c.requires.placed 0 origin (some_by_ends (members_of c.args.square.now) (length c.args.cells.now) (both c.in-Some.ends) c.in-Some.ensures (omega arith))

pub returns-then-not-are_live-clause-apart : goal.returns-then-not-are_live-clause-apart
returns-then-not-are_live-clause-apart c =
    apart_by_missing c.args.cells.now (members_of c.args.square.now) c.requires.rising (both c.in-Some.ends) c.in-Some.ensures
    (λ all. true≢false (sym (c.are_live.ensures.1 all) ∙ c.if-not-are_live.true))

pub move_between-requires-clause-from_placed : goal.move_between-requires-clause-from_placed
move_between-requires-clause-from_placed c =
    c.requires.placed 0 origin (some_by_ends (members_of c.args.square.now) (length c.args.cells.now) (both c.in-Some.ends) c.in-Some.ensures (omega arith))

pub returns-in-None-clause-offset : goal.returns-in-None-clause-offset
returns-in-None-clause-offset c =
    let as_many : size (members_of c.args.square.now) ≡ length c.args.cells.now = omega arith in
    offset_of_nothing c.args.cells.now (members_of c.args.square.now) c.requires.rising
    (subst (λ r. MatchOption r (HasNoMember (members_of c.args.square.now)) (AreEnds (members_of c.args.square.now))) c.in-None.is c.ends.ensures) as_many

pub returns-else-not-are_live-clause-offset : goal.returns-else-not-are_live-clause-offset
returns-else-not-are_live-clause-offset c =
    let as_many : size (members_of c.args.square.now) ≡ length c.args.cells.now = omega arith in
    subst (IsOffset (from_list c.args.cells.now) (members_of c.args.square.now)) (sym c.move_between.ensures)
    (offset_of_all c.args.cells.now (members_of c.args.square.now) c.requires.rising (plus c.in-Some.ends.0 (opposite (get_or c.args.cells.now 0 origin)))
    (some_by_ends (members_of c.args.square.now) (length c.args.cells.now) (both c.in-Some.ends) c.in-Some.ensures as_many) as_many
    (c.are_live.ensures.0 c.if-not-are_live.false))
