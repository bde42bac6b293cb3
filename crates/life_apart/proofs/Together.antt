-- The cells of sets together.
use Rattle.std.proofs.Common.{◌≡◌, ◌↔◌, Bool, ◌+◌, ◌<◌, ℕ, T, List, [], ◌∷◌, ◌++◌, flat_map, IsTrue, get_or, length, take, sym, ap, ◌∙◌}
use Rattle.std.specs.Cmp.Lexicographic.{pointwise, pointwise_decides}
use Rattle.std.proofs.lemmas.Grind.{flat_map-append}
use Rattle.std.proofs.lemmas.List.{append-nil, map_more}
use Rattle.life_model.specs.Cell.{Cell}
use Rattle.life_model.specs.Generation.{Generation, cells, from_list, is_rising}
use Rattle.life_model.proofs.Generations.{cells-from_list, from_list-cells}
use Rattle.life_objects.specs.Union.{union_of}
use Rattle.life_classes.proofs.Groups.{union_from_cells}
use Rattle.life_orbit.specs.Course.{Course}
use Rattle.life_apart.specs.Sets.{sets_of}
use Rattle.life_cells.specs.Alike.{same_places}
use Rattle.life_cells.proofs.Sorted.{same_places-is}

-- Cells in order show whether they make up a set.
pub together_test : (r : Bool) (Ps : List Generation) (G : Generation) (cs sorted ds : List Cell) → T (is_rising sorted) →
    from_list sorted ≡ from_list (flat_map cells Ps) → cs ≡ sorted → ds ≡ cells G → r ≡ pointwise same_places cs ds →
    IsTrue r ↔ (union_of Ps ≡ G)
together_test r Ps G cs sorted ds rising same e f test =
    let d = pointwise_decides same_places-is cs ds in (
      λ t. sym (union_from_cells Ps) ∙ sym same ∙ ap from_list (sym e ∙ d.0 (sym test ∙ t) ∙ f) ∙ from_list-cells G,
      λ u. test ∙ d.1 (e ∙ sym (cells-from_list sorted rising) ∙ ap cells (same ∙ union_from_cells Ps ∙ u) ∙ sym f),
    )

-- the cells of one more orbit
pub more_cells : (os : List Course) (i : ℕ) (d : Course) → i < length os →
    flat_map cells (sets_of (take (i + 1) os)) ≡ flat_map cells (sets_of (take i os)) ++ cells (get_or os i d).set
more_cells os i d h =
    ap (flat_map cells) (map_more (λ o. o.set) os i d h)
    ∙ flat_map-append cells (sets_of (take i os)) ((get_or os i d).set ∷ [])
    ∙ ap (λ z. flat_map cells (sets_of (take i os)) ++ z) (append-nil (cells (get_or os i d).set))
