use Rattle.std.proofs.Common.{◌*◌, ◌<◌, ◌≤◌, ◌-◌, refl, sym, ap, subst, ◌∙◌, true≢false, arith}
use Rattle.life_model.specs.Cell.{opposite}
use Rattle.life_objects.specs.Drift.{multiple_of}
use Rattle.life_orbit.specs.Passing.{IsAheadBefore, IsPastAfter}
use Rattle.life_orbit.proofs.Backwards.{apart_at_one_velocity, apart_by_ahead, apart_by_past, pasts_of, unturned}
use Rattle.life_orbit.proofs.Reaching.{reach_wider}
use Rattle.life_orbit.proofs.Watching.{hull_holds, watch_of}
use Rattle.life_orbit.proofs.back.watch_back.Goals as goal

pub turned-requires : goal.turned-requires
turned-requires c =
    let few = c.rounds_together-rounds.ensures.first.1 in
    let short : c.rounds_together-rounds.result.0 * 2147483648 ≤ 562949953421312 = omega arith in
    reach_wider (c.rounds_together-rounds.result.0 * 2147483648) 562949953421312 c.repeated-by.result short
    c.repeated-by.ensures.reach

pub turned-requires-2 : goal.turned-requires-2
turned-requires-2 c =
    let few = c.rounds_together-rounds.ensures.second.1 in
    let short : c.rounds_together-rounds.result.1 * 2147483648 ≤ 562949953421312 = omega arith in
    reach_wider (c.rounds_together-rounds.result.1 * 2147483648) 562949953421312 c.repeated-other_by.result short
    c.repeated-other_by.ensures.reach

pub returns-then-are_same-clause-still : goal.returns-then-are_same-clause-still
returns-then-are_same-clause-still c apart P Q past other =
    let o = c.args.orbit.now in
    let w = c.args.other.now in
    let p = c.period-period.result in
    let q = c.period.result in
    let a = c.rounds_together-rounds.result.0 in
    let b = c.rounds_together-rounds.result.1 in
    let d = c.displacement.result in
    let e = c.displacement-2.result in
    apart_at_one_velocity o.rule o.set w.set P Q p q a b d e c.args.age
    (pasts_of o w P Q p q a b d e c.args.age c.requires.rule c.period-period.ensures.value c.period.ensures.value
    c.displacement.ensures c.displacement-2.ensures c.period-period.ensures.recurs c.period.ensures.recurs
    c.rounds_together-rounds.ensures.together c.rounds_together-rounds.ensures.first.0
    c.rounds_together-rounds.ensures.second.0 past other)
    (sym c.repeated-by.ensures.value ∙ c.if-are_same.ensures.0 refl ∙ c.repeated-other_by.ensures.value) apart

pub returns-clause-recent : goal.returns-clause-recent
returns-clause-recent c P Q past other t late before =
    let o = c.args.orbit.now in
    let w = c.args.other.now in
    let p = c.period-period.result in
    let q = c.period.result in
    let a = c.rounds_together-rounds.result.0 in
    let b = c.rounds_together-rounds.result.1 in
    let d = c.displacement.result in
    let e = c.displacement-2.result in
    let near = c.rounds_near-near.result in
    let which = c.min.ensures in
    apart_by_ahead o.rule o.set w.set P Q p q a b d e c.args.age
    (pasts_of o w P Q p q a b d e c.args.age c.requires.rule c.period-period.ensures.value c.period.ensures.value
    c.displacement.ensures c.displacement-2.ensures c.period-period.ensures.recurs c.period.ensures.recurs
    c.rounds_together-rounds.ensures.together c.rounds_together-rounds.ensures.first.0
    c.rounds_together-rounds.ensures.second.0 past other)
    c.hull.result c.hull-2.result (hull_holds o c.hull.result o.rule p refl c.period-period.ensures.value c.hull.ensures.hull)
    (hull_holds w c.hull-2.result o.rule q c.requires.rule c.period.ensures.value c.hull-2.ensures.hull)
    near.from t before
    (subst (λ v. IsAheadBefore v near.from)
    (λ i. watch_of c.hull.result ((c.turned.ensures.value ∙ ap opposite c.repeated-by.ensures.value) i)
    c.hull-2.result ((c.turned-2.ensures.value ∙ ap opposite c.repeated-other_by.ensures.value) i))
    c.rounds_near-near.ensures.ahead)
    (let h : (c.args.age - t) - 1 < near.from * (a * p) = omega arith in h)

pub returns-clause-early : goal.returns-clause-early
returns-clause-early c P Q past other t start before =
    let o = c.args.orbit.now in
    let w = c.args.other.now in
    let p = c.period-period.result in
    let q = c.period.result in
    let a = c.rounds_together-rounds.result.0 in
    let b = c.rounds_together-rounds.result.1 in
    let d = c.displacement.result in
    let e = c.displacement-2.result in
    let near = c.rounds_near-near.result in
    let which = c.min-2.ensures in
    let first = c.turned.ensures.value ∙ ap opposite c.repeated-by.ensures.value in
    let second = c.turned-2.ensures.value ∙ ap opposite c.repeated-other_by.ensures.value in
    apart_by_past o.rule o.set w.set P Q p q a b d e c.args.age
    (pasts_of o w P Q p q a b d e c.args.age c.requires.rule c.period-period.ensures.value c.period.ensures.value
    c.displacement.ensures c.displacement-2.ensures c.period-period.ensures.recurs c.period.ensures.recurs
    c.rounds_together-rounds.ensures.together c.rounds_together-rounds.ensures.first.0
    c.rounds_together-rounds.ensures.second.0 past other)
    c.hull.result c.hull-2.result (hull_holds o c.hull.result o.rule p refl c.period-period.ensures.value c.hull.ensures.hull)
    (hull_holds w c.hull-2.result o.rule q c.requires.rule c.period.ensures.value c.hull-2.ensures.hull)
    near.until t (let h : t < c.args.age = omega arith in h)
    (subst (λ v. IsPastAfter v near.until)
    (λ i. watch_of c.hull.result (first i) c.hull-2.result (second i))
    c.rounds_near-near.ensures.past)
    (λ same. true≢false (sym (c.are_same.ensures.1
    (c.repeated-by.ensures.value ∙ unturned (multiple_of a d) (multiple_of b e) same ∙ sym c.repeated-other_by.ensures.value))
    ∙ c.if-are_same.false))
    (let h : near.until * (a * p) ≤ (c.args.age - t) - 1 = omega arith in h)
