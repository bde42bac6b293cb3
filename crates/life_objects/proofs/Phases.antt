-- Which object a set is does not depend on its phase.
use Rattle.std.proofs.Common.{◌≡◌, ℕ, ◌+◌, Bool, cond, List, [], ◌∷◌, count_by, sym, refl, ap, ◌∙◌}
use Rattle.std.specs.List.{All}
use Rattle.std.proofs.lemmas.List.Elements.{All-head, All-tail}
use Rattle.std.proofs.lemmas.List.Sums.{sum_by-cons}
use Rattle.life_model.specs.Cell.{origin}
use Rattle.life_model.specs.Rule.{Rule}
use Rattle.life_model.specs.Generation.{Generation}
use Rattle.life_model.specs.Evolution.{generation}
use Rattle.life_model.specs.Recurrence.{AreOneObject}
use Rattle.life_model.specs.Symmetry.{Same, image_under, translate_of}
use Rattle.life_model.proofs.Generations.{same_members}
use Rattle.life_model.proofs.Moves.{moved-origin}
use Rattle.life_model.proofs.Recurrences.{generation-zero}
use Rattle.life_model.proofs.Symmetries.{contains-turned}
use Rattle.life_objects.specs.Ash.{IsObject}
use Rattle.life_objects.specs.Kinds.{IsKind}
use Rattle.life_objects.specs.Onset.{Recurs}
use Rattle.life_objects.specs.Union.{generations}
use Rattle.life_objects.proofs.Recurring.{RecursBy-later}

pub turned-same : (P : Generation) → image_under P Same ≡ P
turned-same P = same_members _ _ (λ c. contains-turned P Same c)

-- an object recurs
pub object_recurs : (R : Rule) (b : ℕ) (P : Generation) → IsObject R b P → Recurs R P
object_recurs R b P object = record {
  steps = object.recurs.steps;
  by = object.recurs.by;
  recurs = object.recurs.recurs;
}

pub phase_is_one : (R : Rule) (P : Generation) (n : ℕ) → AreOneObject R P (generation R P n)
phase_is_one R P n = record {
  first_phase = n;
  second_phase = 0;
  map = Same;
  by = origin;
  same = generation-zero R (generation R P n) ∙ sym (moved-origin (generation R P n))
      ∙ ap (λ H. translate_of H origin) (sym (turned-same (generation R P n)));
}

module _ (R : Rule) (kind : Generation → Bool) (fits : IsKind R kind) where
  kind_later : (n : ℕ) (P : Generation) → Recurs R P → kind (generation R P n) ≡ kind P
  kind_later n P r =
      sym (fits P (generation R P n) r.steps r.steps r.by r.by r.recurs (RecursBy-later R P r.steps r.by r.recurs n)
      (phase_is_one R P n))

  pub count_later : (n : ℕ) (Ps : List Generation) → All (Recurs R) Ps →
      count_by kind (generations R Ps n) ≡ count_by kind Ps
  count_later n [] again = refl
  count_later n (P ∷ Ps) again =
      sum_by-cons (λ (Q : Generation). cond (kind Q) 1 0) (generation R P n) (generations R Ps n)
      ∙ (λ i. cond (kind_later n P (All-head (Recurs R) P Ps again) i) 1 0
      + count_later n Ps (All-tail (Recurs R) P Ps again) i)
      ∙ sym (sum_by-cons (λ (Q : Generation). cond (kind Q) 1 0) P Ps)
