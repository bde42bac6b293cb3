-- The finest splitting of a set into classes: those that come near each other, each evolving by itself, are one
-- class.
use Rattle.std.specs.Prelude.{ℕ, zero, suc, Bool, ◌||◌, List, [], ◌∷◌, map, if◌then◌else◌}
use Rattle.life_model.specs.Rule.{Rule}
use Rattle.life_model.specs.Generation.{Generation, cells, empty, from_list}
use Rattle.life_model.specs.Evolution.{generation}
use Rattle.life_objects.specs.Union.{union}
use Rattle.life_objects.specs.Decided.Tests.{each_pair, meet, same_set}

-- P joined with each of the sets that it meets in generation n, and the other sets
unfoldable pub classes_with : Rule → ℕ → Generation → List Generation → List Generation
classes_with R n P [] = P ∷ []
classes_with R n P (Q ∷ Qs) =
    if meet (generation R P n) (generation R Q n) then classes_with R n (union P Q) Qs else (Q ∷ classes_with R n P Qs)

-- each of the sets, one after another, joined with those after it that it meets in generation n
unfoldable pub classes_after_meeting : Rule → ℕ → List Generation → List Generation
classes_after_meeting R n [] = []
classes_after_meeting R n (P ∷ Ps) = classes_with R n P (classes_after_meeting R n Ps)

-- the classes of G: its single cells, joined wherever they meet in one of the first n generations
unfoldable pub classes : Rule → Generation → ℕ → List Generation
classes R G zero = map (λ c. from_list (c ∷ [])) (cells G)
classes R G (suc n) = classes_after_meeting R n (classes R G n)

-- true where nothing is left after b generations
abbrev pub dies_out : Rule → ℕ → Generation → Bool
dies_out R b P = same_set (generation R P b) empty

-- true where at most one of the classes of P, as they are after generation b, lives through b
abbrev pub is_undivided : Rule → ℕ → Generation → Bool
is_undivided R b P = each_pair (λ A B. dies_out R b A || dies_out R b B) (classes R P (suc b))
