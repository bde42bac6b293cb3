use Rattle.std.proofs.Common.{◌*◌, ◌≤◌, refl, subst, arith}
use Rattle.life_orbit.specs.Passing.{IsAheadBefore, IsPastAfter}
use Rattle.life_orbit.proofs.Reaching.{reach_wider}
use Rattle.life_orbit.proofs.Watching.{IsPair, apart_by_watch, course_recurs, hull_holds, watch_of}
use Rattle.life_orbit.proofs.watch.watch.Goals as goal

pub returns-clause-enough : goal.returns-clause-enough
returns-clause-enough c between =
    let o = c.args.orbit.now in
    let w = c.args.other.now in
    let p = c.period-period.result in
    let q = c.period.result in
    let a = c.rounds_together-rounds.result.0 in
    let b = c.rounds_together-rounds.result.1 in
    let d = c.displacement.result in
    let e = c.displacement-2.result in
    let near = c.rounds_near-near.result in
    let pair : IsPair o.rule o.set w.set p q a b d e = record {
      first = course_recurs o o.rule p d refl c.period-period.ensures.value c.displacement.ensures
          c.period-period.ensures.recurs;
      second = course_recurs w o.rule q e c.requires.rule c.period.ensures.value c.displacement-2.ensures
          c.period.ensures.recurs;
      together = c.rounds_together-rounds.ensures.together;
      some = c.rounds_together-rounds.ensures.first.0;
      others = c.rounds_together-rounds.ensures.second.0;
    } in
    apart_by_watch o.rule o.set w.set p q a b d e pair c.args.hull c.args.other_hull
    (hull_holds o c.args.hull o.rule p refl c.period-period.ensures.value c.requires.hull)
    (hull_holds w c.args.other_hull o.rule q c.requires.rule c.period.ensures.value c.requires.other_hull)
    near.from near.until
    (subst (λ v. IsAheadBefore v near.from)
    (λ i. watch_of c.args.hull (c.repeated-by.ensures.value i) c.args.other_hull (c.repeated-other_by.ensures.value i))
    c.rounds_near-near.ensures.ahead)
    (subst (λ v. IsPastAfter v near.until)
    (λ i. watch_of c.args.hull (c.repeated-by.ensures.value i) c.args.other_hull (c.repeated-other_by.ensures.value i))
    c.rounds_near-near.ensures.past)
    between

pub rounds_near-near-requires-clause-reach : goal.rounds_near-near-requires-clause-reach
rounds_near-near-requires-clause-reach c =
    let few = c.rounds_together-rounds.ensures.first.1 in
    let short : c.rounds_together-rounds.result.0 * 2147483648 ≤ 562949953421312 = omega arith in
    reach_wider (c.rounds_together-rounds.result.0 * 2147483648) 562949953421312 c.repeated-by.result short
    c.repeated-by.ensures.reach

pub rounds_near-near-requires-clause-other_reach : goal.rounds_near-near-requires-clause-other_reach
rounds_near-near-requires-clause-other_reach c =
    let few = c.rounds_together-rounds.ensures.second.1 in
    let short : c.rounds_together-rounds.result.1 * 2147483648 ≤ 562949953421312 = omega arith in
    reach_wider (c.rounds_together-rounds.result.1 * 2147483648) 562949953421312 c.repeated-other_by.result short
    c.repeated-other_by.ensures.reach
