-- The cells of a set that is moved as a whole, one by one.
use Rattle.std.proofs.Common.{◌≡◌, ℕ, ◌<◌, ◌≤◌, List, length, get_or, map, take, T, sym, ap, subst, ◌∙◌}
use Rattle.std.specs.List.{All}
use Rattle.std.proofs.lemmas.List.{get_or-map, length-map, take_all}
use Rattle.std.proofs.lemmas.List.Elements.{All-same}
use Rattle.life_model.specs.Cell.{Cell, origin, plus}
use Rattle.life_model.specs.Generation.{Generation, cells, from_list, is_rising}
use Rattle.life_model.specs.Symmetry.{translate_of}
use Rattle.life_model.proofs.Generations.{cells-rise, from_list-cells}
use Rattle.life_model.proofs.Lists.{cells-moved}

module _ (G : Generation) (places : List Cell) (listed : places ≡ cells G) (by : Cell) where
  moved_places : map (λ c. plus c by) places ≡ cells (translate_of G by)
  moved_places = ap (map (λ c. plus c by)) listed ∙ sym (cells-moved G by)

  -- what holds of each cell of the moved set holds of each of the places, moved
  pub place_then : (P : Cell → Type 0) → All P (cells (translate_of G by)) → (i : ℕ) (d : Cell) → i < length places →
      P (plus (get_or places i d) by)
  place_then P all i d h =
      let long : i < length (map (λ c. plus c by) places) =
      subst (λ n. i < n) (sym (length-map places (λ c. plus c by))) h in
      subst P (get_or-map (λ c. plus c by) places i d origin h)
      (All-same P (map (λ c. plus c by) places) (cells (translate_of G by)) moved_places all i origin long)

  module _ (items : List Cell) (i : ℕ) (so_far : items ≡ map (λ c. plus c by) (take i places))
      (all : length places ≤ i) where
    pub items_then : items ≡ cells (translate_of G by)
    items_then = so_far ∙ ap (map (λ c. plus c by)) (take_all i places all) ∙ moved_places

    pub items_rise : T (is_rising items)
    items_rise = subst (λ cs. T (is_rising cs)) (sym items_then) (cells-rise (translate_of G by))

    pub set_then : from_list items ≡ translate_of G by
    set_then = ap from_list items_then ∙ from_list-cells (translate_of G by)
