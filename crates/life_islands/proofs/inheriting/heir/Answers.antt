use Rattle.std.proofs.Common.{◌<◌, refl}
use Rattle.life_islands.proofs.Inherited.{bearing_below, heir_born, heir_here, next_in_reach}
use Rattle.life_islands.proofs.inheriting.heir.Goals as goal

pub returns-in-Some : goal.returns-in-Some
returns-in-Some c =
    let there = c.in-Some.ensures.some in
    heir_here c.args.rule.now c.args.list.now c.args.sets.now c.requires.fits c.requires.held c.args.place c.requires.live
    c.in-Some.at c.index.result.now c.index.result.now there.0 there.1 c.index.ensures

pub seats_around-seats-requires-clause-reach : goal.seats_around-seats-requires-clause-reach
seats_around-seats-requires-clause-reach c =
    next_in_reach c.args.rule.now c.args.list.now c.as_slice-cells.result.now c.as_slice-cells.ensures.cells
    c.as_slice-cells.ensures.placed c.args.place c.requires.live

pub bounds-seats-bearing : goal.bounds-seats-bearing
bounds-seats-bearing c =
    bearing_below c.args.rule.now c.args.list.now c.args.sets.now c.requires.fits c.requires.held c.args.place c.requires.live
    c.in_default.ensures.none c.seats_around-seats.result c.seats_around-seats.ensures c.colours_of-colours.result
    c.colours_of-colours.ensures c.first_bearing-bearing.result c.first_bearing-bearing.ensures.within
    c.first_bearing-bearing.ensures.none

pub returns : goal.returns
returns c =
    let found = c.first_bearing-bearing.result in
    let within : found < 8 =
    bearing_below c.args.rule.now c.args.list.now c.args.sets.now c.requires.fits c.requires.held c.args.place c.requires.live
    c.in_default.ensures.none c.seats_around-seats.result c.seats_around-seats.ensures c.colours_of-colours.result
    c.colours_of-colours.ensures found c.first_bearing-bearing.ensures.within c.first_bearing-bearing.ensures.none in
    heir_born c.args.rule.now c.args.list.now c.args.sets.now c.requires.fits c.requires.held c.args.place c.requires.live
    c.in_default.ensures.none c.seats_around-seats.result c.seats_around-seats.ensures c.colours_of-colours.result
    c.colours_of-colours.ensures found _ within (c.first_bearing-bearing.ensures.bears within) refl
