-- What touching joins has one colour, and is tied.
use Rattle.std.proofs.Common.{◌≡◌, ℕ, sym, refl, ◌∙◌}
use Rattle.life_model.specs.Cell.{Cell}
use Rattle.life_model.specs.Rule.{Rule}
use Rattle.life_model.specs.Generation.{Generation}
use Rattle.life_model.specs.Evolution.{generation}
use Rattle.life_parts.specs.Parts.Groups.{ColoursIslands}
use Rattle.life_parts.specs.Parts.Ties.{AreTied, itself, swapped, through, touching}
use Rattle.life_islands.specs.Splits.{AreJoined, alone, beside, chained, turned}

pub one_colour : (G : Generation) (colour : Cell → ℕ) → ColoursIslands G colour → (c e : Cell) → AreJoined G c e → colour c ≡ colour e
one_colour G colour islands c e (alone _ h) = refl
one_colour G colour islands c e (beside _ _ h k near) = islands c e h k near
one_colour G colour islands c e (turned _ _ t) = sym (one_colour G colour islands e c t)
one_colour G colour islands c e (chained _ f _ t u) = one_colour G colour islands c f t ∙ one_colour G colour islands f e u

pub tied_by_touch : (R : Rule) (P : Generation) (n : ℕ) (c e : Cell) → AreJoined (generation R P n) c e → AreTied R P n c n e
tied_by_touch R P n c e (alone _ h) = itself n c h
tied_by_touch R P n c e (beside _ _ h k near) = touching n c e h k near
tied_by_touch R P n c e (turned _ _ t) = swapped n n e c (tied_by_touch R P n e c t)
tied_by_touch R P n c e (chained _ f _ t u) =
    through n n n c f e (tied_by_touch R P n c f t) (tied_by_touch R P n f e u)
