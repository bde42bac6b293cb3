-- At first each cell is a class of its own.
use Rattle.std.proofs.Common.{◌≡◌, ℕ, ◌||◌, List, [], ◌∷◌, map, sym, refl, ap, ◌∙◌, arith}
use Rattle.std.specs.List.{AllPairs}
use Rattle.std.proofs.lemmas.List.Elements.{All-map}
use Rattle.life_model.specs.Cell.{Cell}
use Rattle.life_model.specs.Rule.{Rule}
use Rattle.life_model.specs.Generation.{Generation, cells, contains, from_list}
use Rattle.life_model.specs.Evolution.{generation}
use Rattle.life_model.proofs.Generations.{cells-contained, contains-from_list, contains-one, from_list-cells, same_members}
use Rattle.life_model.proofs.Recurrences.{generation-zero}
use Rattle.life_objects.specs.Union.{union_of}
use Rattle.life_objects.specs.Whole.{StaysWhole}
use Rattle.life_objects.specs.Apart.{AreApartBefore}
use Rattle.life_objects.proofs.Staying.{cell_stays}
use Rattle.life_objects.proofs.Unions.{contains-union}
use Rattle.life_classes.specs.declared.class.Class.{Class}
use Rattle.life_classes.specs.Tracking.{AreTracked, class_of_cell, first_sets}

all_together : (cs : List Cell) → union_of (first_sets (map class_of_cell cs)) ≡ from_list cs
all_together [] = refl
all_together (c ∷ cs) = same_members _ _ (λ q.
    contains-union (from_list (c ∷ [])) (union_of (first_sets (map class_of_cell cs))) q
    ∙ (λ i. contains-one c q i || (ap (λ H. contains H q) (all_together cs) ∙ contains-from_list cs q) i)
    ∙ sym (contains-from_list (c ∷ cs) q))

module _ (R : Rule) (b : ℕ) (G : Generation) where
  nothing_before : (cs : List Class) → AllPairs (λ c d. AreApartBefore R 0 c.first d.first) cs
  nothing_before cs i j d h k m l = absurd (omega arith)

  pub alone_tracked : AreTracked R b 0 G (map class_of_cell (cells G))
  alone_tracked = record {
    together = all_together (cells G) ∙ from_list-cells G;
    whole =
        All-map (λ c. StaysWhole R b G c.first) class_of_cell (cells G) (λ k d h. cell_stays R b G _ (cells-contained G k d h));
    before = nothing_before (map class_of_cell (cells G));
    later =
        All-map (λ c. c.last ≡ generation R c.first 0) class_of_cell (cells G)
        (λ k d h. sym (generation-zero R _));
  }
