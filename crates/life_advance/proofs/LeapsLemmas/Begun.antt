-- The first squares of a set, and the cells of the last ones.
use Rattle.std.proofs.Common.{◌≡◌, ℕ, ◌≤◌, ◌||◌, false, List, All, sym, subst, ap, ◌∙◌}
use Rattle.std.specs.List.{list_any}
use Rattle.life_model.specs.Cell.{Cell, same_cell}
use Rattle.life_model.specs.Generation.{Generation, cells, contains, from_list}
use Rattle.life_model.proofs.Generations.{from_list-cells}
use Rattle.life_cells.specs.Limits.{IsPlace, IsWithin}
use Rattle.life_advance.specs.Leaps.Planes.{farthest_age}
use Rattle.life_advance.specs.declared.leaps.leaping.Leaper.{Leaper}
use Rattle.life_advance.specs.Leaps.Squares.{View, IsAt, Shows}
use Rattle.life_advance.specs.Leaps.Stores.{view}
use Rattle.life_advance.specs.Leaps.Rows.{IsReady}
use Rattle.life_advance.specs.Leaps.Cells.{cells_of}
use Rattle.life_advance.specs.Leaps.Sites.{root_corner, root_level}
use Rattle.life_advance.specs.Leaps.Leapers.{IsLeaper, cells_in}
use Rattle.life_advance.proofs.LeapsLemmas.CellLemmas.{known}
use Rattle.life_advance.proofs.LeapsLemmas.LeapLemmas.{inside_root}
use Rattle.life_advance.proofs.LeapsLemmas.Placed.{all_places, listed_same, member_within}

pub at_root : (v : View) (n i : ℕ) → n ≡ root_level → IsAt v n i → IsAt v root_level i
at_root v n i e h = let P : ℕ → Type 0 = λ k. IsAt v k i in subst P e h

pub at_site : (v : View) (n i : ℕ) → n ≡ root_level → IsAt v root_level i → IsAt v n i
at_site v n i e h = let P : ℕ → Type 0 = λ k. IsAt v k i in subst P (sym e) h

pub begun-cells : (l : Leaper) (n : ℕ) (p : Cell) (G : Generation) (cs : List Cell) → n ≡ root_level → p ≡ root_corner → cs ≡ cells G →
    Shows (view l.store) n l.root (from_list cs) p → l.age ≤ farthest_age → All (IsWithin l.age) (cells G) → cells_in l ≡ G
unfolding cells_in
begun-cells l n p G cs level place is shows young within =
    let same : from_list cs ≡ G = ap from_list is ∙ from_list-cells G in
    let P : ℕ → Type 0 = λ k. Shows (view l.store) k l.root (from_list cs) p in
    let Q : Cell → Type 0 = λ c. Shows (view l.store) root_level l.root (from_list cs) c in
    let R : Generation → Type 0 = λ H. Shows (view l.store) root_level l.root H root_corner in
    sym (known (view l.store) root_level l.root G root_corner (subst R same (subst Q place (subst P level shows)))
    (λ c live. inside_root l.age young c (member_within l.age G within c live)))

pub begun-kept : (l : Leaper) (G : Generation) → IsReady l.step (view l.store) → IsAt (view l.store) root_level l.root → cells_in l ≡ G →
    l.age ≤ farthest_age → All (IsWithin l.age) (cells G) → IsLeaper l
begun-kept l G ready at is young within = record {
  ready = ready;
  at = at;
  young = young;
  within = λ q live. member_within l.age G within q (sym (ap (λ H. contains H q) is) ∙ live);
}

-- all cells of the square in a list
pub listed_all : (l : Leaper) (n : ℕ) (p : Cell) (items : List Cell) → n ≡ root_level → p ≡ root_corner →
    ((q : Cell) → list_any (same_cell q) items ≡ (false || list_any (same_cell q) (cells_of (view l.store) n l.root p))) → from_list items ≡ cells_in l
unfolding cells_in
listed_all l n p items level place same =
    listed_same items (cells_of (view l.store) root_level l.root root_corner)
    (λ q. same q ∙ (λ j. list_any (same_cell q) (cells_of (view l.store) (level j) l.root (place j))))

pub listed_places : (l : Leaper) → IsLeaper l → (items : List Cell) → from_list items ≡ cells_in l → All IsPlace items
listed_places l kept items is = all_places l.age (cells_in l) items is kept.young kept.within
