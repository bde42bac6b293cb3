-- A generation, and those after it: none of the first `a` of them is it again, moved.
use Rattle.std.proofs.Common.{◌≡◌, ℕ, ◌+◌, ◌≤◌, inl, inr, sym, ap, ◌∙◌, arith}
use Rattle.std.proofs.lemmas.Bool.{cases_lt}
use Rattle.life_model.specs.Cell.{Cell}
use Rattle.life_model.specs.Rule.{Rule}
use Rattle.life_model.specs.Generation.{Generation}
use Rattle.life_model.specs.Evolution.{generation}
use Rattle.life_model.specs.Symmetry.{normal}
use Rattle.life_model.specs.Recurrence.{IsPeriodAt}
use Rattle.life_model.proofs.Moves.{normal-moved}
use Rattle.life_plane.specs.Offsets.{IsOffset}
use Rattle.life_find.specs.Search.{IsReturn}

pub record IsApart (R : Rule) (G : Generation) (a : ℕ) : Type 0 where
  pub none : (n : ℕ) → 1 ≤ n → n ≤ a → normal (generation R G n) ≡ normal G → ⊥

module _ (R : Rule) (G : Generation) where
  pub IsApart-start : IsApart R G 0
  IsApart-start = record { none = λ n h k e. omega arith }

  module _ (a : ℕ) (so_far : IsApart R G a) where
    pub IsApart-next : (normal G ≡ normal (generation R G (a + 1)) → ⊥) → IsApart R G (a + 1)
    IsApart-next apart = record {
      none = λ n h k e.
          elim (cases_lt a n) [
            | inl last ↦ apart (sym e ∙ ap (λ m. normal (generation R G m)) (let q : n ≡ a + 1 = omega arith in q))
            | inr before ↦ so_far.none n h before e
          ];
    }

    -- where the next one is the first again, the first recurs after `a + 1` steps and not sooner
    pub IsReturn-found : (d : Cell) → IsOffset G (generation R G (a + 1)) d → IsReturn R G (a + 1) d
    IsReturn-found d offset = record {
      recurs = record { later = omega arith; again = offset.move };
      least = λ n e r.
          elim (cases_lt a n) [
            | inl whole ↦ omega arith
            | inr before ↦ absurd (so_far.none n r.later before (ap normal r.again ∙ normal-moved G e))
          ];
      unmoved = offset.unmoved;
    }

pub IsPeriodAt_from_return : (R : Rule) (G : Generation) (t p : ℕ) (d : Cell) → IsReturn R (generation R G t) p d → IsPeriodAt R G t p
IsPeriodAt_from_return R G t p d r = record { by = d; recurs = r.recurs; least = r.least }
