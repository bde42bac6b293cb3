-- Sets that are tied within stay so for as long as they are held apart.
use Rattle.std.proofs.Common.{ℕ, suc, List, inl, inr}
use Rattle.std.specs.List.{Contains}
use Rattle.std.proofs.lemmas.Bool.{cases_Bool}
use Rattle.life_model.specs.Cell.{Cell}
use Rattle.life_model.specs.Rule.{Rule}
use Rattle.life_model.specs.Generation.{Generation, contains}
use Rattle.life_model.specs.Evolution.{generation}
use Rattle.life_objects.specs.Union.{generations}
use Rattle.life_parts.specs.Parts.Apart.{AreHeldApart}
use Rattle.life_parts.specs.Parts.Ties.{AreTied, IsIn, bearing, staying, swapped, through}
use Rattle.life_parts.proofs.PartsLemmas.Apart.{AreSplitAt, both_by_colour, comes_from, fair, have_both, islands, of_near}
use Rattle.life_parts.proofs.PartsLemmas.Firsts.{first_with}

-- the cells of generation n of each set are tied
abbrev pub AreTiedAt : Rule → Generation → List Generation → ℕ → Type 0
AreTiedAt R P Qs n =
    (Q : Generation) → Contains Qs Q → (c e : Cell) → IsIn R Q n c → IsIn R Q n e → AreTied R P n c n e

module _ (R : Rule) (P : Generation) (Qs : List Generation) (n : ℕ) (split : AreSplitAt R P Qs n)
    (held : AreHeldApart R (generation R P n) (generations R Qs n)) (tied : AreTiedAt R P Qs n) where
  -- a cell of a set's next generation is tied to one of this
  pub traced : (Q : Generation) → Contains Qs Q → (x : Cell) → IsIn R Q (suc n) x → IsIn R P (suc n) x →
      (c : Cell) × IsIn R Q n c × AreTied R P n c (suc n) x
  traced Q one x h there =
      let from = comes_from R P Qs n split held Q one x h in
      let c = from.cell in
      elim (cases_Bool (contains (generation R P n) x)) [
        | inl here ↦ (x, of_near R P Qs n split held.islands x here Q one c from.has from.near, staying n x here there)
        | inr place ↦ (
          c,
          from.has,
          bearing n x (first_with R n Qs) place (islands R P Qs n split held x place)
              (λ a b at too same.
              let A = split.cover a at.live in
              tied A.0 A.1 a b A.2
              (have_both R P Qs n split held a b (both_by_colour R P Qs n split held a b at.live too.live same) A.0 A.1 A.2))
              (fair R P Qs n split held x place) c
              (record { live = split.within Q one c from.has; near = from.near }) (from.bearing place),
        )
      ]

  pub tied_next : AreSplitAt R P Qs (suc n) → AreTiedAt R P Qs (suc n)
  tied_next then Q one x y h k =
      let c = traced Q one x h (then.within Q one x h) in
      let e = traced Q one y k (then.within Q one y k) in
      through (suc n) n (suc n) x c.0 y (swapped n (suc n) c.0 x c.2)
      (through n n (suc n) c.0 e.0 y (tied Q one c.0 e.0 c.1 e.1) e.2)
