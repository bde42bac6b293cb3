-- Cells with labels, some of which are joined, and the sets of cells whose labels are joined.
use Rattle.std.specs.Prelude.{◌≡◌, ◌≢◌, ℕ, ◌<◌, ◌≤◌, ◌==◌, ℤ, int_lt, Bool, true, false, cond, List, [], ◌∷◌, length, get_or, map}
use Rattle.std.specs.List.{All, AllPairs, Contains, range_with_len, sum}
use Rattle.life_model.specs.Cell.{Cell, origin, same_cell}
use Rattle.life_model.specs.Rule.{Rule}
use Rattle.life_model.specs.Generation.{Generation, cells, empty, keep}
use Rattle.life_model.specs.Evolution.{generation}
use Rattle.life_objects.specs.Apart.{AreDisjoint}
use Rattle.life_objects.specs.Union.{union_of}
use Rattle.life_classes.specs.Tags.{place_number}
use Rattle.life_parts.specs.Parts.Ties.{AreTied}
use Rattle.life_islands.specs.declared.labels.Labels.{Labels}
use Rattle.life_classes.specs.Forest.{root}
use Rattle.life_islands.specs.Seats.{cell_at}
use Rattle.life_islands.specs.Splits.{AreJoined}

-- the cells before a place have lesser numbers than this one, and those from it on do not
pub record IsParting (cs : List Cell) (number : ℤ) (at : ℕ) : Type 0 where
  pub within : at ≤ length cs
  pub before : (k : ℕ) (d : Cell) → k < at → int_lt (place_number (get_or cs k d)) number ≡ true
  pub after : (k : ℕ) (d : Cell) → at ≤ k → k < length cs → int_lt (place_number (get_or cs k d)) number ≡ false

-- the label of a cell, by its place among the cells
abbrev pub label_of : List Cell → List ℕ → Cell → ℕ
label_of [] labels c = 0
label_of (e ∷ cs) [] c = 0
label_of (e ∷ cs) (l ∷ labels) c = cond (same_cell c e) l (label_of cs labels c)

-- the root of the cell's label
abbrev pub mark_of : Generation → List ℕ → List ℕ → Cell → ℕ
mark_of G labels forest c = root forest (label_of (cells G) labels c)

-- for each number, the cells of G whose labels have it as their root
unfoldable pub sets_by : Generation → List ℕ → List ℕ → List Generation
sets_by G labels forest = map (λ k. keep G (λ c. mark_of G labels forest c == k)) (range_with_len 0 (length forest))

abbrev pub sets_of : Generation → Labels → List Generation
sets_of G L = sets_by G L.labels.items L.forest.items

-- the same sets, where each cell has its place as its label
abbrev pub joined_sets : Generation → List ℕ → List Generation
joined_sets G forest = sets_by G (range_with_len 0 (length (cells G))) forest

-- each cell of G has a label
pub record Fits (G : Generation) (L : Labels) : Type 0 where
  pub long : length L.labels.items ≡ length (cells G)
  pub below : All (λ l. l < length L.forest.items) L.labels.items

-- each cell has its place as its label
pub record AreNumbered (G : Generation) (L : Labels) : Type 0 where
  pub labels : L.labels.items ≡ range_with_len 0 (length (cells G))
  pub long : length L.forest.items ≡ length (cells G)

-- The labels are unchanged, and more of them are joined: at least one if `is_new`.
pub record AreJoinedFurther (old new : Labels) (is_new : Bool) : Type 0 where
  pub labels : new.labels.items ≡ old.labels.items
  pub long : length new.forest.items ≡ length old.forest.items
  pub coarser : (k l : ℕ) → root old.forest.items k ≡ root old.forest.items l → root new.forest.items k ≡ root new.forest.items l
  pub same : is_new ≡ false → new.forest.items ≡ old.forest.items
  pub less : is_new ≡ true → sum new.forest.items < sum old.forest.items

-- labels are places among the first cells, and the cells of joined labels are tied
abbrev pub AreTiedFirsts : Rule → Generation → List Cell → List ℕ → Type 0
AreTiedFirsts R P firsts forest =
    (k l : ℕ) → k < length forest → l < length forest → root forest k ≡ root forest l →
    AreTied R P 0 (get_or firsts k origin) 0 (get_or firsts l origin)

-- each cell of G, moved, is tied in generation n to the first cell that it has as its label
abbrev pub AreTiedLabels : Rule → Generation → List Cell → ℕ → (Cell → Cell) → Generation → List ℕ → Type 0
AreTiedLabels R P firsts n moved G labels =
    (m : ℕ) → m < length (cells G) →
    AreTied R P 0 (get_or firsts (get_or labels m 0) origin) n (moved (get_or (cells G) m origin))

-- wherever G is generation n of a set, the cells of joined labels are tied, if they were so before
abbrev pub KeepsTied : Rule → Generation → Labels → Labels → Type 0
KeepsTied R G old new =
    (P : Generation) (n : ℕ) (firsts : List Cell) → generation R P n ≡ G →
    AreTiedLabels R P firsts n (λ c. c) G old.labels.items → AreTiedFirsts R P firsts old.forest.items →
    AreTiedFirsts R P firsts new.forest.items

-- touching cells connect any two cells whose labels are joined
abbrev pub AreJoinedWithin : Generation → Labels → Type 0
AreJoinedWithin G L =
    (m k : ℕ) → m < length (cells G) → k < length (cells G) →
    root L.forest.items (get_or L.labels.items m 0) ≡ root L.forest.items (get_or L.labels.items k 0) →
    AreJoined G (get_or (cells G) m origin) (get_or (cells G) k origin)

-- More labels are joined, of cells that touching cells connect, and no others.
pub record AreJoinedByTouch (G : Generation) (old new : Labels) (is_new : Bool) : Type 0 where
  pub further : AreJoinedFurther old new is_new
  pub tied : (R : Rule) → KeepsTied R G old new
  pub joined : AreJoinedWithin G old → AreJoinedWithin G new

-- the labels of two cells, by their places, are joined
abbrev pub AreOne : Labels → ℕ → ℕ → Type 0
AreOne L m k = root L.forest.items (get_or L.labels.items m 0) ≡ root L.forest.items (get_or L.labels.items k 0)

-- the label of the cell at place n is joined with that of the cell with this number around it, if that is in G
abbrev pub HasMet : Generation → Labels → ℕ → ℕ → Type 0
HasMet G L n number =
    (m : ℕ) → m < length (cells G) → get_or (cells G) m origin ≡ cell_at (get_or (cells G) n origin) number → AreOne L n m

-- the non-empty ones of the sets, each once
pub record AreThoseWithCells (Hs Ks : List Generation) : Type 0 where
  pub together : union_of Ks ≡ union_of Hs
  pub some : All (λ K. K ≢ empty) Ks
  pub once : AllPairs AreDisjoint Ks
  pub from : (K : Generation) → Contains Ks K → Contains Hs K
  pub to : (H : Generation) → Contains Hs H → H ≢ empty → Contains Ks H
