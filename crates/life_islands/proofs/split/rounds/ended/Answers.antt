use Rattle.std.proofs.Common.{◌≡◌, suc, ◌-◌, sym, subst, ap, ◌∙◌, arith}
use Rattle.life_model.specs.Cell.{plus}
use Rattle.life_model.specs.Evolution.{generation, next}
use Rattle.life_model.specs.Generation.{contains}
use Rattle.life_model.specs.Recurrence.{RecursBy}
use Rattle.life_islands.proofs.SplitLemmas.Walking.{comes_again}
use Rattle.life_islands.proofs.split.rounds.ended.Goals as goal

pub heirs-requires-clause-live : goal.heirs-requires-clause-live
heirs-requires-clause-live c e h =
    let o = c.args.orbit.now in
    let value = c.period.ensures.value in
    let later = c.period.ensures.recurs.recurs.later in
    let k = c.period.result - 1 in
    let period : o.period ≡ suc k = omega arith in
    let again : RecursBy o.rule o.set (suc k) o.displacement = subst (λ m. RecursBy o.rule o.set m o.displacement) period c.period.ensures.recurs.recurs in
    let here = ap (λ G. contains G e) (sym c.set.ensures) ∙ h in
    ap (λ R. contains (next R c.phase-last.result.now) (plus e c.displacement.result)) c.rule-rule.ensures
    ∙ ap (λ G. contains (next o.rule G) (plus e c.displacement.result)) c.phase-last.ensures
    ∙ ap (λ d. contains (next o.rule (generation o.rule o.set k)) (plus e d)) c.displacement.ensures
    ∙ comes_again o.rule o.set k o.displacement again e here
