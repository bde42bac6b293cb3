-- Classes, one of which is followed by itself.
use Rattle.std.specs.Prelude.{◌≡◌, ◌⊎◌, ℕ, ◌+◌, ◌<◌, ◌≤◌, true, List, ◌∷◌, length, get_or}
use Rattle.life_model.specs.Cell.{Cell}
use Rattle.life_model.specs.Rule.{Rule}
use Rattle.life_model.specs.Generation.{Generation, cells, contains, empty, from_list}
use Rattle.life_objects.specs.Apart.{AreDisjoint}
use Rattle.life_objects.specs.Union.{IsSubsetOf}
use Rattle.life_classes.specs.declared.class.Class.{Class}
use Rattle.life_classes.specs.declared.labels.Labelled.{Labelled}
use Rattle.life_classes.specs.declared.split.Split.{Split}
use Rattle.life_classes.specs.declared.tags.Tag.{Tag}
use Rattle.life_classes.specs.Forest.{root}
use Rattle.life_classes.specs.Labels.{cells_of_root}
use Rattle.life_classes.specs.Splits.{IsLabelledSplit, classes_of_split}
use Rattle.life_classes.specs.Tracking.{AreApartNow, AreTracked}

-- the cell has the label
pub record HasLabel (l : Labelled) (c : Cell) (label : ℕ) : Type 0 where
  pub place : ℕ
  pub inside : place < length l.tags.items
  pub is : (e : Cell) → get_or (cells l.cells) place e ≡ c
  pub same : (d : Tag) → (get_or l.tags.items place d).label ≡ label

-- the cell has the label; or it is not one of the labelled cells, and the label is the other
abbrev pub IsLabelOr : Labelled → ℕ → Cell → ℕ → Type 0
IsLabelOr l other c label = HasLabel l c label ⊎ ((contains l.cells c ≡ true → ⊥) × (label ≡ other))

-- each of the first n cells has such a label
abbrev pub AreLabelsOr : Labelled → ℕ → List Cell → ℕ → List Tag → Type 0
AreLabelsOr l other cs n ts = (k : ℕ) (d : Tag) (e : Cell) → k < n → IsLabelOr l other (get_or cs k e) (get_or ts k d).label

-- the cell has a label with another root
pub record IsOther (l : Labelled) (f : List ℕ) (m : ℕ) (c : Cell) : Type 0 where
  pub place : ℕ
  pub inside : place < length (cells l.cells)
  pub is : (e : Cell) → get_or (cells l.cells) place e ≡ c
  pub differs : (d : Tag) → root f (get_or l.tags.items place d).label ≡ m → ⊥

-- G has the cells whose labels have other roots
pub record AreOthers (l : Labelled) (f : List ℕ) (m : ℕ) (G : Generation) : Type 0 where
  pub sound : (c : Cell) → contains G c ≡ true → IsOther l f m c
  pub all : (k : ℕ) (d : Tag) (e : Cell) → k < length (cells l.cells) → (root f (get_or l.tags.items k d).label ≡ m → ⊥) →
      contains G (get_or (cells l.cells) k e) ≡ true

-- the class of the herd, and those of the rest
abbrev pub classes_beside : Generation → Generation → Split → List Class
classes_beside first herd rest = record { first = first; last = herd } ∷ classes_of_split rest

-- no cell of the herd's class is one of the rest, and no two classes of the rest are near each other
pub record IsParted (first herd : Generation) (rest : Split) : Type 0 where
  pub labelled : IsLabelledSplit rest
  pub apart : AreApartNow (classes_of_split rest)
  pub firsts : AreDisjoint first rest.first.cells
  pub lasts : AreDisjoint herd rest.last.cells

-- the classes ds are what the classes cs have become m generations later
abbrev pub LeadFor : Rule → ℕ → List Class → List Class → Type 0
LeadFor R m cs ds =
    (b n : ℕ) (G : Generation) → n + m ≤ b → AreTracked R b n G cs → AreTracked R b (n + m) G ds

-- the cells of the root m are left out, and the others keep their labels
pub record IsRest (l rest : Labelled) (f : List ℕ) (m : ℕ) : Type 0 where
  pub others : (r : ℕ) → (r ≡ m → ⊥) → from_list (cells_of_root rest f r) ≡ from_list (cells_of_root l f r)
  pub none : from_list (cells_of_root rest f m) ≡ empty
  pub disjoint : AreDisjoint (from_list (cells_of_root l f m)) rest.cells
  pub within : IsSubsetOf rest.cells l.cells
