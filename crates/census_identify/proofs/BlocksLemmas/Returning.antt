-- A set that has not come again so far.
use Rattle.std.proofs.Common.{◌≡◌, ℕ, ◌+◌, ◌<◌, ◌≤◌, inl, inr, ap, ◌∙◌, arith}
use Rattle.std.proofs.lemmas.Bool.{cases_lt}
use Rattle.life_model.specs.Cell.{Cell}
use Rattle.life_model.specs.Rule.{Rule}
use Rattle.life_model.specs.Generation.{Generation}
use Rattle.life_model.specs.Evolution.{generation}
use Rattle.life_model.specs.Recurrence.{RecursBy}
use Rattle.life_plane.specs.Offsets.{AreNotTranslates, IsOffset}
use Rattle.census_identify.specs.Blocks.Whole.{ComesAgain}
use Rattle.census_identify.specs.declared.blocks.whole.Whole.{Whole}

-- it hasn't within n generations
abbrev pub IsAway : Rule → Generation → ℕ → Type 0
IsAway R G n = (m : ℕ) (d : Cell) → RecursBy R G m d → n < m

module _ (R : Rule) (G : Generation) where
  pub away_at_first : IsAway R G 0
  away_at_first m d again = let later : 1 ≤ m = again.later in omega arith

  module _ (n : ℕ) (away : IsAway R G n) where
    pub still_away : AreNotTranslates G (generation R G (n + 1)) → IsAway R G (n + 1)
    still_away apart m d again =
        let beyond : n < m = away m d again in
        elim (cases_lt (n + 1) m) [
          | inl more ↦ more
          | inr here ↦
              let e : n + 1 ≡ m = omega arith in
              absurd (apart d (ap (generation R G) e ∙ again.again))
        ]

    pub comes_again : (whole : Whole) (most : ℕ) → whole.period ≡ n + 1 → n < most → IsOffset G (generation R G (n + 1)) whole.displacement
        → ComesAgain R G most whole
    comes_again whole most e within offset = record {
      within = omega arith;
      recurs = record { later = omega arith; again = ap (generation R G) e ∙ offset.move };
      least = λ m d again. let beyond : n < m = away m d again in omega arith;
      unmoved = offset.unmoved;
    }
