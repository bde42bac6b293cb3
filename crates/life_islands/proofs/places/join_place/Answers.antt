use Rattle.std.proofs.Common.{sym, ◌∙◌}
use Rattle.life_islands.specs.Labels.{sets_of}
use Rattle.life_islands.specs.Splits.{IsLink}
use Rattle.life_islands.proofs.Joins.{join_is_new, join_tied, link_within}
use Rattle.life_islands.proofs.Linked.{link_of_seats, sets_are_colours, settled_by_seats}
use Rattle.life_islands.proofs.places.join_place.Goals as goal
use Rattle.life_islands.proofs.places.join_place.Goals.{After-join-arg-1}

pub link_at-requires-clause-whole : goal.link_at-requires-clause-whole
link_at-requires-clause-whole c =
    let a = c.args in
    let G = a.list.now in
    sets_are_colours G (sets_of G a.isles.now) (sets_of G a.sets.now) a.place c.seats_around-seats.result c.seats_around-seats.ensures
    c.requires.laid_out (sym c.has_in_row.ensures ∙ c.if-has_in_row.false) a.rule.now

link : (c : After-join-arg-1) → IsLink c.args.rule.now c.args.list.now (sets_of c.args.list.now c.args.sets.now) (c.in-Some.one, c.in-Some.other)
link c =
    let a = c.args in
    let G = a.list.now in
    link_of_seats a.rule.now G (sets_of G a.isles.now) (sets_of G a.sets.now) a.place c.seats_around-seats.result
    c.seats_around-seats.ensures c.requires.laid_out (sym c.has_in_row.ensures ∙ c.if-has_in_row.false) (c.in-Some.one, c.in-Some.other) c.in-Some.ensures.some

pub join-requires : goal.join-requires
join-requires c =
    link_within c.args.rule.now c.args.list.now c.args.sets.now c.requires.sets (c.in-Some.one, c.in-Some.other) (link (goal.at.join-requires c).After-join-arg-1)

pub returns-in-Some-clause-tied : goal.returns-in-Some-clause-tied
returns-in-Some-clause-tied c =
    let a = c.args in
    join_tied a.rule.now a.list.now a.sets.now c.requires.sets (c.in-Some.one, c.in-Some.other)
    (link (goal.at.returns-in-Some-clause-tied c).After-join-arg-1)
    (record { labels = a.sets.now.labels; forest = c.join.new.forest }) c.join.result c.join.ensures

pub returns-in-Some-clause-settled : goal.returns-in-Some-clause-settled
returns-in-Some-clause-settled c e =
    let a = c.args in
    absurd (join_is_new a.rule.now a.list.now a.sets.now c.requires.sets (c.in-Some.one, c.in-Some.other)
    (link (goal.at.returns-in-Some-clause-settled c).After-join-arg-1)
    (record { labels = a.sets.now.labels; forest = c.join.new.forest }) c.join.result c.join.ensures e)

pub returns-in-None-clause-settled : goal.returns-in-None-clause-settled
returns-in-None-clause-settled c none place =
    let a = c.args in
    let G = a.list.now in
    settled_by_seats a.rule.now G (sets_of G a.isles.now) (sets_of G a.sets.now) a.place c.seats_around-seats.result
    c.seats_around-seats.ensures c.requires.laid_out place c.in-None.ensures.none
