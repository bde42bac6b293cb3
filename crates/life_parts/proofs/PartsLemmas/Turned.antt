-- The independent parts of a set that is turned.
use Rattle.std.proofs.Common.{◌≡◌, ℕ, ◌+◌, List, map, sym, refl, ap, subst, ◌∙◌, arith}
use Rattle.std.proofs.lemmas.Int.{ints}
use Rattle.life_model.specs.Cell.{Cell, IsNear}
use Rattle.life_model.specs.Rule.{Rule}
use Rattle.life_model.specs.Generation.{Generation}
use Rattle.life_model.specs.Evolution.{generation}
use Rattle.life_model.specs.Recurrence.{RecursBy}
use Rattle.life_model.specs.Symmetry.{Orientation, Same, FlipX, FlipY, Half, Swap, SwapFlipX, SwapFlipY, SwapHalf, image_under, turn}
use Rattle.life_model.proofs.Symmetries.{KeepNeighbours, generation-turned, turn_keeps, undone, undone-undone}
use Rattle.life_model.proofs.Objects.{turn-plus, turned-moved, turned-undone}
use Rattle.life_parts.specs.Parts.Parts.{AreIndependentParts}
use Rattle.life_parts.specs.Parts.Ties.{AreTied}
use Rattle.life_parts.proofs.PartsLemmas.Along.{GoesAlong, tied_along}
use Rattle.life_parts.proofs.PartsLemmas.Lists.{image_parts}
use Rattle.life_parts.proofs.PartsLemmas.Shifts as shifts

turn_near : (m : Orientation) (c d : Cell) → IsNear c d → IsNear (turn m c) (turn m d)
turn_near Same c d h = record { left = h.left; right = h.right; above = h.above; below = h.below }
turn_near FlipX c d h = record { left = omega (arith, ints); right = omega (arith, ints); above = h.above; below = h.below }
turn_near FlipY c d h = record { left = h.left; right = h.right; above = omega (arith, ints); below = omega (arith, ints) }
turn_near Half c d h = record { left = omega (arith, ints); right = omega (arith, ints); above = omega (arith, ints); below = omega (arith, ints) }
turn_near Swap c d h = record { left = h.above; right = h.below; above = h.left; below = h.right }
turn_near SwapFlipX c d h = record { left = omega (arith, ints); right = omega (arith, ints); above = h.left; below = h.right }
turn_near SwapFlipY c d h = record { left = h.above; right = h.below; above = omega (arith, ints); below = omega (arith, ints) }
turn_near SwapHalf c d h = record { left = omega (arith, ints); right = omega (arith, ints); above = omega (arith, ints); below = omega (arith, ints) }

module _ (R : Rule) (P : Generation) (m : Orientation) where
  abbrev T : Generation
  T = image_under P m

  RecursBy-turned : (p : ℕ) (d : Cell) → RecursBy R P p d → RecursBy R T p (turn m d)
  RecursBy-turned p d r = record {
    later = r.later;
    again = generation-turned R P m p ∙ ap (λ H. image_under H m) r.again ∙ turned-moved P d m;
  }

  goes : GoesAlong R T P 0 (turn (undone m)) (turn m)
  goes = record {
    keeps = subst (λ k. KeepNeighbours (turn (undone m)) (turn k)) (undone-undone m) (turn_keeps (undone m));
    near_forth = turn_near (undone m);
    near_back = turn_near m;
    along = λ n.
        sym (ap (λ H. image_under H (undone m))
        (ap (generation R T) (let e : n + 0 ≡ n = omega arith in e) ∙ generation-turned R P m n)
        ∙ turned-undone (generation R P n) m);
    again = λ p d r. (turn m d, RecursBy-turned p d r, λ c. turn-plus m c d);
  }

  pub tied_of_turned : (n k : ℕ) (c e : Cell) → AreTied R P n c k e → AreTied R T n (turn m c) k (turn m e)
  tied_of_turned n k c e t =
      shifts.rewritten R T (n + 0) n (k + 0) k (turn m c) (turn m c) (turn m e) (turn m e) (omega arith) (omega arith)
      refl refl (tied_along R T P 0 (turn (undone m)) (turn m) goes n k c e t)

pub turned_parts : (R : Rule) (P : Generation) (m : Orientation) (Qs : List Generation) → AreIndependentParts R P Qs →
    AreIndependentParts R (image_under P m) (map (λ Q. image_under Q m) Qs)
turned_parts R P m Qs are =
    image_parts (turn m) (turn (undone m)) (turn_keeps m).inverse R P
    (tied_of_turned R P m 0 0)
    (λ c e t.
    subst (λ H. AreTied R H 0 (turn (undone m) c) 0 (turn (undone m) e)) (turned-undone P m)
    (tied_of_turned R (image_under P m) (undone m) 0 0 c e t)) Qs are
