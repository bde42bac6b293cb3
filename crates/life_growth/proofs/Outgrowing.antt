-- An engine has more cells a period later, whichever generation is looked at.
use Rattle.std.proofs.Common.{◌≡◌, ℕ, ◌+◌, ◌<◌, sym, ap, ◌∙◌, subst, arith}
use Rattle.life_model.specs.Rule.{Rule}
use Rattle.life_model.specs.Generation.{Generation, size}
use Rattle.life_model.specs.Evolution.{generation}
use Rattle.life_model.specs.Symmetry.{translate_of}
use Rattle.life_model.proofs.Symmetries.{generation-moved}
use Rattle.life_model.proofs.Lists.{size-moved}
use Rattle.life_objects.specs.Piece.{LivesThrough}
use Rattle.life_growth.specs.Engine.{IsEngine, Way}
use Rattle.life_growth.specs.Onward.{endless}
use Rattle.life_growth.proofs.Endless.{core_first, goes_on, left_first}
use Rattle.life_growth.proofs.Growing.{more_than_core}

module _ (R : Rule) (b : ℕ) (E : Generation) (way : Way) (engine : IsEngine R b E way) where
  -- the endless way begins with E, and after a period with E, moved
  starts_as : (endless way).core 0 ≡ E
  starts_as = core_first R b E way engine 0 (omega arith) ∙ engine.start

  again_as : (endless way).core way.period ≡ translate_of E way.displacement
  again_as = core_first R b E way engine way.period (omega arith) ∙ engine.again

  lives : LivesThrough R b ((endless way).left engine.emitting.0)
  lives =
      subst (LivesThrough R b) (sym (left_first R b E way engine engine.emitting.0 engine.emitting.1)) engine.emitting.2

  pub outgrows_itself : (n : ℕ) → size (generation R E n) < size (generation R E (n + way.period))
  outgrows_itself n =
      let more : size (generation R ((endless way).core way.period) n)
      < size (generation R ((endless way).core 0) (way.period + n)) =
      more_than_core R b (endless way) (goes_on R b E way engine) engine.emitting.0 lives way.period engine.emitting.1 n in
      let moved : size (generation R ((endless way).core way.period) n) ≡ size (generation R E n) =
      ap (λ H. size (generation R H n)) again_as ∙ ap size (generation-moved R E way.displacement n)
      ∙ size-moved (generation R E n) way.displacement in
      let same : size (generation R ((endless way).core 0) (way.period + n)) ≡ size (generation R E (n + way.period)) =
      ap (λ H. size (generation R H (way.period + n))) starts_as
      ∙ ap (λ m. size (generation R E m)) (let e : way.period + n ≡ n + way.period = omega arith in e) in
      omega arith
