use Rattle.std.proofs.Common.{◌≡◌, None, [], refl, ap, ◌∙◌, arith}
use Rattle.std.specs.Prelude.{unwrap_or}
use Rattle.std.specs.List.{fold}
use Rattle.life_model.specs.Evolution.{generation}
use Rattle.life_answer.specs.Apgcode.{bodies, turned_bodies}
use Rattle.life_codes.specs.Least.{with_text}
use Rattle.life_codes.proofs.Phases.{least-more, least_is}
use Rattle.life_census.proofs.code.least_body.Goals as goal

pub loop-n-preserved : goal.loop-n-preserved
loop-n-preserved c =
    let R = c.args.orbit.now.rule in
    let H = c.args.orbit.now.set in
    let n = c.loop-n.n in
    c.in_ok-add_phase.ensures
    ∙ ap (λ o. fold with_text o (turned_bodies (generation R H n))) c.loop-n.invariant
    ∙ least-more R H (generation R H n) n refl

pub returns : goal.returns
returns c =
    let R = c.args.orbit.now.rule in
    let H = c.args.orbit.now.set in
    let past = c.loop-n-test.false in
    c.into_text.ensures
    ∙ ap (λ o. unwrap_or o []) (c.loop-n.invariant ∙ ap (λ n. fold with_text None (bodies R H n)) (let e : c.loop-n.n ≡ c.args.orbit.now.period = omega arith in e))
    ∙ least_is (bodies R H c.args.orbit.now.period)
