-- What shows that a set is no engine.
use Rattle.std.proofs.Common.{◌≡◌, ℕ, zero, suc, ◌+◌, ◌*◌, ◌≤◌, List, ap, subst, ◌∙◌, arith}
use Rattle.life_model.specs.Cell.{Cell}
use Rattle.life_model.specs.Evolution.{generation}
use Rattle.life_model.specs.Generation.{Generation, size}
use Rattle.life_model.specs.Recurrence.{RecursBy}
use Rattle.life_model.specs.Rule.{Rule}
use Rattle.life_model.proofs.Recurrences.{generation-zero}
use Rattle.life_model.proofs.Lists.{size-moved}
use Rattle.life_objects.specs.Drift.{multiple_of}
use Rattle.life_objects.proofs.Moving.{generation-times}
use Rattle.life_orbit.specs.Course.{Course, IsCourse}
use Rattle.life_growth.specs.Engine.{IsEngine, IsEngineWithin, Way}
use Rattle.life_growth.proofs.Outgrowing.{outgrows_itself}
use Rattle.life_growing.specs.Populations.{ArePopulations, FallsBack}

module _ (R : Rule) (b : ℕ) (E : Generation) where
  -- an engine has more cells with each period
  more_each_period : (way : Way) → IsEngine R b E way → (k : ℕ) → size E + k ≤ size (generation R E (k * way.period))
  more_each_period way engine zero =
      let start : size (generation R E (0 * way.period)) ≡ size E =
      ap (λ n. size (generation R E n)) (let e : 0 * way.period ≡ 0 = omega arith in e) ∙ ap size (generation-zero R E) in
      omega arith
  more_each_period way engine (suc k) =
      let before = more_each_period way engine k in
      let more = outgrows_itself R b E way engine (k * way.period) in
      let same : size (generation R E (k * way.period + way.period)) ≡ size (generation R E (suc k * way.period)) =
      ap (λ n. size (generation R E n)) (let e : k * way.period + way.period ≡ suc k * way.period = omega arith in e) in
      omega arith

  pub none_comes_again : (p : ℕ) (d : Cell) → RecursBy R E p d → IsEngineWithin R b E → ⊥
  none_comes_again p d again engine =
      let way = engine.0 in
      let more = more_each_period way engine.1 p in
      let same : size (generation R E (p * way.period)) ≡ size E =
      ap (λ n. size (generation R E n)) (let e : p * way.period ≡ way.period * p = omega arith in e)
      ∙ ap size (generation-times R E p d again way.period) ∙ size-moved E (multiple_of way.period d) in
      let later = again.later in
      absurd (omega arith)

  pub none_falls_back : (n : ℕ) (counts : List ℕ) → ArePopulations R E n counts →
      ((p : ℕ) → 1 ≤ p → p ≤ b → FallsBack counts p) → IsEngineWithin R b E → ⊥
  none_falls_back n counts are back engine =
      let way = engine.0 in
      let falls = back way.period engine.1.later engine.1.within in
      let long = are.count in
      let within = falls.within in
      let no_more = falls.no_more in
      let then = are.each falls.place (omega arith) in
      let later = are.each (falls.place + way.period) (omega arith) in
      let more = outgrows_itself R b E way engine.1 falls.place in
      absurd (omega arith)

  pub none_seen_again : (o : Course) → IsCourse o → o.rule ≡ R → o.set ≡ E → IsEngineWithin R b E → ⊥
  none_seen_again o course rule set =
      none_comes_again o.period o.displacement
      (subst (λ S. RecursBy S E o.period o.displacement) rule
      (subst (λ F. RecursBy o.rule F o.period o.displacement) set course.recurs))
