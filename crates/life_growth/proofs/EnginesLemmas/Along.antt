-- A track with the cores of an engine, and what leaves it, is the engine's way.
use Rattle.std.proofs.Common.{◌≡◌, ℕ, suc, ◌<◌, ◌≤◌, List, length, sym, ap, subst, ◌∙◌, arith}
use Rattle.life_model.specs.Rule.{Rule}
use Rattle.life_model.specs.Generation.{Generation}
use Rattle.life_model.specs.Symmetry.{normal, translate_of}
use Rattle.life_model.proofs.Moves.{moved_from_normal, normal-moved}
use Rattle.life_objects.specs.Piece.{LivesThrough}
use Rattle.life_growth.specs.Engine.{FallsApart, IsEngine, Way}
use Rattle.life_growth.specs.Unsplit.{IsUnsplit, Leaves}
use Rattle.life_growth.specs.Engines.Tracks.{Step, core_along, left_along, way_along}

module _ (R : Rule) (b : ℕ) (E : Generation) (way : Way) (engine : IsEngine R b E way) where
  pub engine_alike : (start : Generation) (steps : List Step) → start ≡ E → length steps ≡ way.period →
      ((m : ℕ) → m ≤ way.period → core_along start steps m ≡ way.core m) →
      ((m : ℕ) → m < way.period → left_along steps m ≡ way.left m) → IsEngine R b E (way_along start steps)
  engine_alike start steps start_is long cores lefts =
      let p : ℕ = way.period in
      let one : 1 ≤ p = engine.later in
      let within : p ≤ b = engine.within in
      let again : core_along start steps (length steps) ≡ translate_of start way.displacement =
      ap (core_along start steps) long ∙ cores p (omega arith) ∙ engine.again
      ∙ ap (λ H. translate_of H way.displacement) (sym start_is) in
      record {
        start = start_is;
        later = omega arith;
        within = omega arith;
        again = moved_from_normal start (core_along start steps (length steps))
            (sym (ap normal again ∙ normal-moved start way.displacement))
            ∙ ap (λ H. translate_of H (way_along start steps).displacement) start_is;
        first = λ m d h k same. engine.first m d h (omega arith) (sym (cores m (omega arith)) ∙ same);
        leaves = λ m h.
            subst (λ H. Leaves R H (core_along start steps (suc m)) (left_along steps m)) (sym (cores m (omega arith)))
            (subst (λ H. Leaves R (way.core m) H (left_along steps m)) (sym (cores (suc m) (omega arith)))
            (subst (Leaves R (way.core m) (way.core (suc m))) (sym (lefts m (omega arith)))
            (engine.leaves m (omega arith))));
        whole = λ m h. subst (IsUnsplit R b) (sym (cores m (omega arith))) (engine.whole m (omega arith));
        settles = λ m h. subst (FallsApart R b) (sym (lefts m (omega arith))) (engine.settles m (omega arith));
        emitting =
            let m = engine.emitting in
            let below : m.0 < p = m.1 in
            (m.0, omega arith, subst (LivesThrough R b) (sym (lefts m.0 m.1)) m.2);
      }
