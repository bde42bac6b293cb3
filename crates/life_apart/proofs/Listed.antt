-- Cells that are found among those of a set.
use Rattle.std.proofs.Common.{◌≡◌, Bool, ◌&&◌, List, sym, ap, ◌∙◌}
use Rattle.std.specs.Bool.{Decides}
use Rattle.std.specs.List.{list_any}
use Rattle.std.specs.Ordering.{int_eq}
use Rattle.std.proofs.lemmas.Bool.{and_from, and_parts}
use Rattle.std.proofs.lemmas.Bool.Decides.{Decides-int_eq, same_from_decides}
use Rattle.life_model.specs.Cell.{Cell, same_cell}
use Rattle.life_model.specs.Generation.{Generation, cells, contains}
use Rattle.life_model.proofs.Cells.{same_cell-is}
use Rattle.life_model.proofs.Generations.{contains-cells}
use Rattle.life_model.proofs.Tests.{list_any-alike}

-- by comparing pairs of numbers
abbrev is_same : Cell → Cell → Bool
is_same c d = int_eq d.0 c.0 && int_eq d.1 c.1

-- this decides whether cells are equal
is_same_decides : (c d : Cell) → Decides (is_same c d) (c ≡ d)
is_same_decides c d = (
  λ h. let both = and_parts _ _ h in
      λ i. (sym ((Decides-int_eq d.0 c.0).0 both.0) i, sym ((Decides-int_eq d.1 c.1).0 both.1) i),
  λ same. and_from _ _ ((Decides-int_eq d.0 c.0).1 (ap (λ (e : Cell). e.0) (sym same)))
      ((Decides-int_eq d.1 c.1).1 (ap (λ (e : Cell). e.1) (sym same))),
)

-- a search of the list decides whether a cell is a member
pub listed_by_test : (G : Generation) (c : Cell) (all : List Cell) → all ≡ cells G →
    list_any (is_same c) all ≡ contains G c
listed_by_test G c all are =
    ap (list_any (is_same c)) are
    ∙ list_any-alike (is_same c) (same_cell c)
    (λ d. same_from_decides _ _ (is_same_decides c d) (same_cell-is c d)) (cells G)
    ∙ sym (contains-cells G c)
