-- The cells of several sets together.
use Rattle.std.proofs.Common.{◌≡◌, List, [], ◌∷◌, ◌||◌, flat_map, refl, sym, ◌∙◌}
use Rattle.std.specs.List.{list_any}
use Rattle.std.proofs.lemmas.List.Folds.{list_any-append}
use Rattle.life_model.specs.Cell.{Cell, same_cell}
use Rattle.life_model.specs.Generation.{Generation, cells, contains, from_list}
use Rattle.life_model.proofs.Generations.{contains-cells, contains-from_list, same_members}
use Rattle.life_objects.specs.Union.{union_of}
use Rattle.life_objects.proofs.Unions.{contains-union_of}

cells_any : (Ps : List Generation) (c : Cell) →
    list_any (same_cell c) (flat_map cells Ps) ≡ list_any (λ P. contains P c) Ps
cells_any [] c = refl
cells_any (P ∷ Ps) c =
    list_any-append (same_cell c) (cells P) (flat_map cells Ps)
    ∙ (λ i. sym (contains-cells P c) i || cells_any Ps c i)

pub union_from_cells : (Ps : List Generation) → from_list (flat_map cells Ps) ≡ union_of Ps
union_from_cells Ps = same_members _ _ (λ c.
    contains-from_list (flat_map cells Ps) c ∙ cells_any Ps c ∙ sym (contains-union_of Ps c))
