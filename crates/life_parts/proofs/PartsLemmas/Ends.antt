-- What is tied is there.
use Rattle.std.proofs.Common.{◌≡◌, ℕ, ◌+◌, sym, ap, ◌∙◌, arith}
use Rattle.life_model.specs.Cell.{Cell, plus}
use Rattle.life_model.specs.Rule.{Rule}
use Rattle.life_model.specs.Generation.{Generation, contains}
use Rattle.life_model.specs.Evolution.{generation}
use Rattle.life_model.specs.Recurrence.{RecursBy}
use Rattle.life_model.specs.Symmetry.{translate_of}
use Rattle.life_model.proofs.Cells.{plus-opposite}
use Rattle.life_model.proofs.Recurrences.{generation-add}
use Rattle.life_model.proofs.Symmetries.{contains-moved, generation-moved}
use Rattle.life_parts.specs.Parts.Ties.{AreTied, IsIn, itself, swapped, through, touching, staying, bearing, meeting, meeting_born, before}

module _ (R : Rule) (P : Generation) where
  module _ (p : ℕ) (d : Cell) (r : RecursBy R P p d) where
    -- generation n + p is generation n, moved
    pub generation-later : (n : ℕ) → generation R P (n + p) ≡ translate_of (generation R P n) d
    generation-later n =
        ap (generation R P) (let e : n + p ≡ p + n = omega arith in e) ∙ sym (generation-add R P p n)
        ∙ ap (λ H. generation R H n) r.again ∙ generation-moved R P d n

    pub contains-later : (n : ℕ) (c : Cell) → contains (generation R P (n + p)) (plus c d) ≡ contains (generation R P n) c
    contains-later n c =
        ap (λ H. contains H (plus c d)) (generation-later n) ∙ contains-moved (generation R P n) d (plus c d)
        ∙ ap (contains (generation R P n)) (plus-opposite c d)

  pub both_in : (n m : ℕ) (c e : Cell) → AreTied R P n c m e → IsIn R P n c × IsIn R P m e
  unfolding generation
  both_in n m c e (itself _ _ h) = (h, h)
  both_in n m c e (swapped _ _ _ _ t) = let b = both_in m n e c t in (b.1, b.0)
  both_in n m c e (through _ k _ _ f _ t u) = ((both_in n k c f t).0, (both_in k m f e u).1)
  both_in n m c e (touching _ _ _ h k near) = (h, k)
  both_in n m c e (staying _ _ h k) = (h, k)
  both_in n m c e (bearing _ _ colour place islands within fair _ at h) = (at.live, fair.born (colour c) h)
  both_in n m c e (meeting _ x colour place islands within unfair _ _ at too) = (at.live, too.live)
  both_in n m c e (meeting_born _ _ colour place islands within unfair _ at born) = (at.live, born)
  both_in n m c e (before p d r _ _ _ _ t) =
      let b = both_in (n + p) (m + p) (plus c d) (plus e d) t in
      (sym (contains-later p d r n c) ∙ b.0, sym (contains-later p d r m e) ∙ b.1)
