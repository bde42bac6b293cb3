use Rattle.std.proofs.Common.{◌≡◌, true≢false, refl, sym, subst, ◌∙◌, arith}
use Rattle.life_model.specs.Cell.{plus, opposite}
use Rattle.life_model.specs.Generation.{size}
use Rattle.life_plane.specs.Offsets.{IsOffset}
use Rattle.life_slots.specs.Ends.{AreEnds, IsMember}
use Rattle.life_plane.proofs.Later.{place_from_within}
use Rattle.life_tile.specs.TileStores.{members_of}
use Rattle.life_tile.proofs.SameCells.{some_by_ends, size_of_none, offset_of_no_cell, sets_apart_by_count, offset_of_members, sets_apart_by_missing}
use Rattle.life_tile.proofs.sameness.offset_from_store.Goals as goal

pub returns-then-population-clause-apart : goal.returns-then-population-clause-apart
returns-then-population-clause-apart c =
    sets_apart_by_count (members_of c.args.other.now) (members_of c.args.store.now)
    (λ same. c.if-population.true (c.population.ensures ∙ same ∙ sym c.population-2.ensures))

pub returns-in-None-clause-offset : goal.returns-in-None-clause-offset
returns-in-None-clause-offset c =
    let same : size (members_of c.args.store.now) ≡ size (members_of c.args.other.now) = omega arith in
    let none = size_of_none (members_of c.args.other.now) (subst (AreEnds (IsMember (members_of c.args.other.now))) c.in-None.is c.ends.ensures) in
    offset_of_no_cell (members_of c.args.other.now) (members_of c.args.store.now) none (same ∙ none)

pub returns-in-None-ends-clause-offset : goal.returns-in-None-ends-clause-offset
returns-in-None-ends-clause-offset c =
    let same : size (members_of c.args.store.now) ≡ size (members_of c.args.other.now) = omega arith in
    let none = size_of_none (members_of c.args.store.now) (subst (AreEnds (IsMember (members_of c.args.store.now))) c.in-None-ends.is c.ends-in-Some.ensures) in
    offset_of_no_cell (members_of c.args.other.now) (members_of c.args.store.now) (sym same ∙ none) none

pub returns-then-not-has_store-clause-apart : goal.returns-then-not-has_store-clause-apart
returns-then-not-has_store-clause-apart c =
    sets_apart_by_missing (members_of c.args.other.now) (members_of c.args.store.now) c.in-Some.from c.in-Some-ends.to c.in-Some.ensures c.in-Some-ends.ensures
    (λ all. true≢false (sym (c.has_store.ensures.1 all) ∙ c.if-not-has_store.true))

pub move_between-requires-clause-from_placed : goal.move_between-requires-clause-from_placed
move_between-requires-clause-from_placed c =
    place_from_within c.args.other.now.age c.in-Some.from.first c.requires.other.young (c.requires.other.within c.in-Some.from.first c.in-Some.ensures.first)

pub move_between-requires-clause-to_placed : goal.move_between-requires-clause-to_placed
move_between-requires-clause-to_placed c =
    place_from_within c.args.store.now.age c.in-Some-ends.to.first c.requires.kept.young (c.requires.kept.within c.in-Some-ends.to.first c.in-Some-ends.ensures.first)

pub returns-else-not-has_store-clause-offset : goal.returns-else-not-has_store-clause-offset
returns-else-not-has_store-clause-offset c =
    let same : size (members_of c.args.store.now) ≡ size (members_of c.args.other.now) = omega arith in
    subst (IsOffset (members_of c.args.other.now) (members_of c.args.store.now)) (sym c.move_between.ensures)
    (offset_of_members (members_of c.args.other.now) (members_of c.args.store.now) (plus c.in-Some-ends.to.first (opposite c.in-Some.from.first))
    (some_by_ends (members_of c.args.other.now) (size (members_of c.args.other.now)) c.in-Some.from c.in-Some.ensures refl) same
    (c.has_store.ensures.0 c.if-not-has_store.false))
