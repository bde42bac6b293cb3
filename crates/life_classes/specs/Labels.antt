-- Cells with labels, and the classes given by them.
use Rattle.std.specs.Prelude.{◌≡◌, ◌⊎◌, ℕ, ◌<◌, ◌==◌, cond, true, List, [], ◌∷◌, length, get_or, map}
use Rattle.std.specs.List.{All, Contains, range_with_len}
use Rattle.life_model.specs.Cell.{Cell, IsNear}
use Rattle.life_model.specs.Generation.{Generation, cells, contains, from_list}
use Rattle.life_objects.specs.Apart.{AreNear}
use Rattle.life_cells.specs.Limits.{IsPlace}
use Rattle.life_classes.specs.declared.class.Class.{Class}
use Rattle.life_classes.specs.declared.labels.Labelled.{Labelled}
use Rattle.life_classes.specs.declared.tags.Tag.{Tag}
use Rattle.life_classes.specs.Forest.{root}
use Rattle.life_classes.specs.Nearness.{reaches}
use Rattle.life_classes.specs.Tags.{AreNumbersOf}

-- the cells whose labels have the root r
abbrev pub chosen : List Cell → List Tag → List ℕ → ℕ → List Cell
chosen [] ts f r = []
chosen (c ∷ cs) [] f r = []
chosen (c ∷ cs) (t ∷ ts) f r = cond (root f t.label == r) (c ∷ chosen cs ts f r) (chosen cs ts f r)

abbrev pub cells_of_root : Labelled → List ℕ → ℕ → List Cell
cells_of_root l f r = chosen (cells l.cells) l.tags.items f r

-- the class of a root, from the labels of the first cells and of the cells that they have become
abbrev pub class_of_root : Labelled → Labelled → List ℕ → ℕ → Class
class_of_root a l f r = record { first = from_list (cells_of_root a f r); last = from_list (cells_of_root l f r) }

-- the class of each number; a number that is no root has a class without cells
abbrev pub classes_by : Labelled → Labelled → List ℕ → List Class
classes_by a l f = map (class_of_root a l f) (range_with_len 0 (length f))

-- each cell has a tag
pub record IsTagged (l : Labelled) : Type 0 where
  pub placed : All IsPlace (cells l.cells)
  pub count : length l.tags.items ≡ length (cells l.cells)
  pub numbers : AreNumbersOf (cells l.cells) (length l.tags.items) l.tags.items

-- the labels of the tags are numbers of the forest
pub record AreLabelled (l : Labelled) (f : List ℕ) : Type 0 where
  pub tagged : IsTagged l
  pub within : All (λ t. t.label < length f) l.tags.items

-- the tag at this place has the label, and its cell is at most one away
pub record IsLabelOf (l : Labelled) (c : Cell) (label : ℕ) : Type 0 where
  pub by : ℕ
  pub inside : by < length l.tags.items
  pub near : (e : Cell) → IsNear c (get_or (cells l.cells) by e)
  pub same : (d : Tag) → (get_or l.tags.items by d).label ≡ label

-- the label has the same root as the label of a cell that is at most one away
pub record IsHeir (l : Labelled) (f : List ℕ) (c : Cell) (t : Tag) : Type 0 where
  pub label : ℕ
  pub from : IsLabelOf l c label
  pub same : root f t.label ≡ root f label

-- each of the first n cells has such a label
abbrev pub AreHeirs : Labelled → List ℕ → List Cell → ℕ → List Tag → Type 0
AreHeirs l f cs n ts = (k : ℕ) (d : Tag) (e : Cell) → k < n → IsHeir l f (get_or cs k e) (get_or ts k d)

-- each of the first n cells is at a listed place, or was there before
abbrev pub AreBornOrOld : Labelled → List Cell → ℕ → List ℕ → Type 0
AreBornOrOld l cs n born = (k : ℕ) (e : Cell) → k < n → Contains born k ⊎ (contains l.cells (get_or cs k e) ≡ true)

-- each cell is at most one away from a labelled one
abbrev pub AreReached : Labelled → Generation → Type 0
AreReached l G = (c : Cell) → contains G c ≡ true → reaches 1 l.cells c ≡ true

-- the cells at two places are near each other
abbrev pub AreNearAt : Labelled → ℕ → ℕ → Type 0
AreNearAt l i j = (d e : Cell) → AreNear (get_or (cells l.cells) i d) (get_or (cells l.cells) j e)

-- the labels of the tags have one root
abbrev pub HasOneRoot : List Tag → List ℕ → Type 0
HasOneRoot ts f = (i j : ℕ) (d e : Tag) → i < length ts → j < length ts → root f (get_or ts i d).label ≡ root f (get_or ts j e).label
