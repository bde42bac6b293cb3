use Rattle.std.proofs.Common.{true, get_or, sym, subst}
use Rattle.life_classes.specs.Forest.{root}
use Rattle.life_islands.specs.Labels.{sets_of}
use Rattle.life_islands.specs.Seats.{IsSeat}
use Rattle.life_islands.proofs.Placing.{no_seat, seat_is}
use Rattle.life_islands.proofs.seating.seat_at.Goals as goal

pub returns-in-Some : goal.returns-in-Some
returns-in-Some c =
    let a = c.args in
    let G = a.list.now in
    let it = c.in-Some.ensures in
    subst (λ i. IsSeat G (sets_of G a.isles.now) (sets_of G a.sets.now) a.place a.number (record { live = true; island = i; set = c.mark-in-Some.result }))
    (sym c.mark.ensures)
    (subst (λ s. IsSeat G (sets_of G a.isles.now) (sets_of G a.sets.now) a.place a.number (record { live = true; island = root a.isles.now.forest.items (get_or a.isles.now.labels.items c.in-Some.at 0); set = s }))
    (sym c.mark-in-Some.ensures)
    (seat_is G a.isles.now a.sets.now a.place a.number c.in-Some.at c.neighbour.result c.requires.isles c.requires.sets
    (c.neighbour.ensures.value c.requires.number) it.some.0 it.some.1))

pub returns-in-None : goal.returns-in-None
returns-in-None c =
    let a = c.args in
    no_seat a.list.now (sets_of a.list.now a.isles.now) (sets_of a.list.now a.sets.now) a.place a.number c.neighbour.result
    (c.neighbour.ensures.value c.requires.number) c.in-None.ensures.none
