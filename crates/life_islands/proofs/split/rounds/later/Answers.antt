use Rattle.std.proofs.Common.{◌≡◌, suc, ◌-◌, sym, ap, ◌∙◌, arith}
use Rattle.life_model.specs.Cell.{origin, plus}
use Rattle.life_model.specs.Evolution.{generation, next}
use Rattle.life_model.specs.Generation.{contains}
use Rattle.life_islands.proofs.SplitLemmas.Walking.{comes_next}
use Rattle.life_islands.proofs.split.rounds.later.Goals as goal

pub heirs-requires-clause-live : goal.heirs-requires-clause-live
heirs-requires-clause-live c e h =
    let o = c.args.orbit.now in
    let k = c.args.n - 1 in
    let phase = c.requires.phase in
    let n : c.args.n ≡ suc k = omega (arith, phase.0) in
    let here = ap (λ G. contains G e) (sym (c.phase-2.ensures ∙ ap (generation o.rule o.set) n)) ∙ h in
    ap (λ R. contains (next R c.phase.result.now) (plus e origin)) c.rule-rule.ensures
    ∙ ap (λ G. contains (next o.rule G) (plus e origin)) c.phase.ensures
    ∙ comes_next o.rule o.set k e here
