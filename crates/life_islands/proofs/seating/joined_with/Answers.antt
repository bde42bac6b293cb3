use Rattle.std.proofs.Common.{arith}
use Rattle.life_islands.proofs.Colouring.{none_weaker, some_weaker}
use Rattle.life_islands.proofs.Linking.{begun_by_sets, link_by_colours, link_by_sets}
use Rattle.life_islands.proofs.seating.joined_with.Goals as goal

pub flaw-requires-clause-begun : goal.flaw-requires-clause-begun
flaw-requires-clause-begun c = begun_by_sets c.args.seats.now c.args.colours.now c.requires.colours c.requires.whole

pub returns-in-Some-clause-some : goal.returns-in-Some-clause-some
returns-in-Some-clause-some c =
    let a = c.args in
    let r = c.requires in
    link_by_sets a.rule.now a.seats.now a.is_born a.bearer a.other a.colours.now r.colours r.whole r.other r.bears
    c.in-Some.found c.in-Some.ensures.some

pub returns-clause-none : goal.returns-clause-none
returns-clause-none c =
    none_weaker c.explore.result _ _ (λ all. record { sound = λ colour tried. all colour tried (λ n h. absurd (omega arith)) })
    c.explore.ensures.none

pub returns-clause-some : goal.returns-clause-some
returns-clause-some c =
    let a = c.args in
    let r = c.requires in
    some_weaker c.explore.result _ _ (λ found flaw.
    link_by_colours a.rule.now a.seats.now a.is_born a.bearer a.other a.colours.now r.colours r.whole r.other
    c.in_default.ensures.none found flaw.0 flaw.1 flaw.2) c.explore.ensures.some
