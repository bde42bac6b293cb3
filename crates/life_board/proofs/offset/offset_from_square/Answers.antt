use Rattle.std.proofs.Common.{◌≡◌, MatchOption, true≢false, refl, sym, subst, ◌∙◌, arith}
use Rattle.life_model.specs.Cell.{Cell, plus, opposite}
use Rattle.life_model.specs.Generation.{size}
use Rattle.life_plane.specs.Offsets.{IsOffset}
use Rattle.life_slots.specs.declared.ends.Ends.{Ends}
use Rattle.life_plane.proofs.Later.{place_from_within}
use Rattle.life_tile.proofs.SameCells.{some_by_ends, size_of_none, offset_of_no_cell, sets_apart_by_count, offset_of_members, sets_apart_by_missing}
use Rattle.life_board.specs.Squares.{members_of, AreEnds, HasNoMember}
use Rattle.life_board.proofs.offset.offset_from_square.Goals as goal

abbrev both : Cell × Cell → Ends
both ends = record { first = ends.0; last = ends.1 }

pub returns-then-population-clause-apart : goal.returns-then-population-clause-apart
returns-then-population-clause-apart c =
    sets_apart_by_count (members_of c.args.other.now) (members_of c.args.square.now)
    (λ same. c.if-population.true (c.population.ensures ∙ same ∙ sym c.population-2.ensures))

pub returns-in-None-clause-offset : goal.returns-in-None-clause-offset
returns-in-None-clause-offset c =
    let same : size (members_of c.args.square.now) ≡ size (members_of c.args.other.now) = omega arith in
    let none =
    size_of_none (members_of c.args.other.now)
    (subst (λ r. MatchOption r (HasNoMember (members_of c.args.other.now)) (AreEnds (members_of c.args.other.now))) c.in-None.is c.ends.ensures) in
    offset_of_no_cell (members_of c.args.other.now) (members_of c.args.square.now) none (same ∙ none)

pub returns-in-None-ends-clause-offset : goal.returns-in-None-ends-clause-offset
returns-in-None-ends-clause-offset c =
    let same : size (members_of c.args.square.now) ≡ size (members_of c.args.other.now) = omega arith in
    let none =
    size_of_none (members_of c.args.square.now)
    (subst (λ r. MatchOption r (HasNoMember (members_of c.args.square.now)) (AreEnds (members_of c.args.square.now))) c.in-None-ends.is c.ends-in-Some.ensures) in
    offset_of_no_cell (members_of c.args.other.now) (members_of c.args.square.now) (sym same ∙ none) none

pub has_square-requires-clause-from : goal.has_square-requires-clause-from
has_square-requires-clause-from c =
    place_from_within c.args.other.now.age c.in-Some.from.0 c.requires.other.young (c.requires.other.within c.in-Some.from.0 c.in-Some.ensures.first)

pub returns-then-not-has_square-clause-apart : goal.returns-then-not-has_square-clause-apart
returns-then-not-has_square-clause-apart c =
    sets_apart_by_missing (members_of c.args.other.now) (members_of c.args.square.now) (both c.in-Some.from) (both c.in-Some-ends.to) c.in-Some.ensures c.in-Some-ends.ensures
    (λ all. true≢false (sym (c.has_square.ensures.1 all) ∙ c.if-not-has_square.true))

pub move_between-requires-clause-from_placed : goal.move_between-requires-clause-from_placed
move_between-requires-clause-from_placed c =
    place_from_within c.args.other.now.age c.in-Some.from.0 c.requires.other.young (c.requires.other.within c.in-Some.from.0 c.in-Some.ensures.first)

pub move_between-requires-clause-to_placed : goal.move_between-requires-clause-to_placed
move_between-requires-clause-to_placed c =
    place_from_within c.args.square.now.age c.in-Some-ends.to.0 c.requires.kept.young (c.requires.kept.within c.in-Some-ends.to.0 c.in-Some-ends.ensures.first)

pub returns-else-not-has_square-clause-offset : goal.returns-else-not-has_square-clause-offset
returns-else-not-has_square-clause-offset c =
    let same : size (members_of c.args.square.now) ≡ size (members_of c.args.other.now) = omega arith in
    subst (IsOffset (members_of c.args.other.now) (members_of c.args.square.now)) (sym c.move_between.ensures)
    (offset_of_members (members_of c.args.other.now) (members_of c.args.square.now) (plus c.in-Some-ends.to.0 (opposite c.in-Some.from.0))
    (some_by_ends (members_of c.args.other.now) (size (members_of c.args.other.now)) (both c.in-Some.from) c.in-Some.ensures refl) same
    (c.has_square.ensures.0 c.if-not-has_square.false))
