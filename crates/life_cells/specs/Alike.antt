-- The test of whether two sets are equal, and its meaning.
use Rattle.std.specs.Prelude.{◌≡◌, Bool, ◌&&◌}
use Rattle.std.specs.Bool.{Decides}
use Rattle.std.specs.Ordering.{int_eq}
use Rattle.std.specs.Cmp.{IsEquivalence, decided}
use Rattle.std.specs.Cmp.Lexicographic.{pointwise, pointwise_decides}
use Rattle.std.proofs.Common.{sym, ap, ◌∙◌}
use Rattle.std.proofs.lemmas.Bool.Decides.{Decides-like, Decides-and, Decides-int_eq}
use Rattle.life_model.specs.Cell.{Cell}
use Rattle.life_model.specs.Generation.{Generation, cells, from_list}
use Rattle.life_model.proofs.Cells.{pair}
use Rattle.life_model.proofs.Generations.{from_list-cells}

abbrev pub same_places : Cell → Cell → Bool
same_places a b = int_eq a.0 b.0 && int_eq a.1 b.1

abbrev pub same_cells : Generation → Generation → Bool
same_cells G H = pointwise same_places (cells G) (cells H)

same_places-is : (a b : Cell) → Decides (same_places a b) (a ≡ b)
same_places-is a b =
    Decides-like {P = (a.0 ≡ b.0) × (a.1 ≡ b.1)} {Q = a ≡ b} _ (λ e. pair e.0 e.1) (λ e. (ap (λ c. c.0) e, ap (λ c. c.1) e))
    (Decides-and _ _ (Decides-int_eq a.0 b.0) (Decides-int_eq a.1 b.1))

pub same_cells-is : (G H : Generation) → Decides (same_cells G H) (G ≡ H)
same_cells-is G H =
    let d = pointwise_decides same_places-is (cells G) (cells H) in
    (λ e. sym (from_list-cells G) ∙ ap from_list (d.0 e) ∙ from_list-cells H, λ e. d.1 (ap cells e))

pub same_cells_equiv : IsEquivalence same_cells
same_cells_equiv = decided same_cells same_cells-is
