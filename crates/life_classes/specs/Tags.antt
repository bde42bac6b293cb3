-- Cells in order, each with a label.
use Rattle.std.specs.Prelude.{◌≡◌, ◌⊎◌, ℕ, ◌+◌, ◌<◌, ◌≤◌, ◌^◌, ℤ, pos, neg_ℤ, ◌+ℤ◌, ◌*ℤ◌, ◌<ℤ◌, ◌≤ℤ◌, List, length, get_or}
use Rattle.life_model.specs.Cell.{Cell}
use Rattle.life_classes.specs.declared.tags.Tag.{Tag}

-- a number that rises along each row and from row to row
abbrev pub place_number : Cell → ℤ
place_number c = (c.1 *ℤ pos (2 ^ 31)) +ℤ c.0

-- the number is in the range of the numbers of cells
pub record IsNumbered (t : Tag) : Type 0 where
  pub low : neg_ℤ (pos (2 ^ 62 + 2 ^ 31)) ≤ℤ t.number
  pub high : t.number ≤ℤ pos (2 ^ 62 + 2 ^ 31)

-- the numbers never fall from place to place
abbrev pub AreRisingTags : List Tag → Type 0
AreRisingTags ts = (i j : ℕ) (d : Tag) → i ≤ j → j < length ts → (get_or ts i d).number ≤ℤ (get_or ts j d).number

-- the tags before place n have numbers less than low
abbrev pub AreLess : List Tag → ℕ → ℤ → Type 0
AreLess ts n low = (k : ℕ) (d : Tag) → k < n → k < length ts → (get_or ts k d).number <ℤ low

-- the tags from place n on have numbers of at least low
abbrev pub AreFrom : List Tag → ℕ → ℤ → Type 0
AreFrom ts n low = (k : ℕ) (d : Tag) → n ≤ k → k < length ts → low ≤ℤ (get_or ts k d).number

-- the first n tags have the numbers of the cells
abbrev pub AreNumbersOf : List Cell → ℕ → List Tag → Type 0
AreNumbersOf cs n ts = (k : ℕ) (d : Tag) (e : Cell) → k < n → (get_or ts k d).number ≡ place_number (get_or cs k e)

-- the first n tags have their places as labels
abbrev pub AreOwnLabels : ℕ → List Tag → Type 0
AreOwnLabels n ts = (k : ℕ) (d : Tag) → k < n → (get_or ts k d).label ≡ k

-- the tag at this place has a number from `low` to `low + 2`
pub record IsFrom (ts : List Tag) (low : ℤ) (place : ℕ) : Type 0 where
  pub inside : place < length ts
  pub first : (d : Tag) → low ≤ℤ (get_or ts place d).number
  pub last : (d : Tag) → (get_or ts place d).number ≤ℤ (low +ℤ pos 2)

-- no tag has such a number
abbrev pub HasNoneFrom : List Tag → ℤ → Type 0
HasNoneFrom ts low = (k : ℕ) (d : Tag) → k < length ts → low ≤ℤ (get_or ts k d).number →
    (get_or ts k d).number ≤ℤ (low +ℤ pos 2) → ⊥

-- the tag at this place has a number at most one away from this one, or from that of the cell above or below
pub record IsBeside (ts : List Tag) (number : ℤ) (place : ℕ) : Type 0 where
  pub row : ℤ
  pub rows : (row ≡ pos 0) ⊎ ((row ≡ pos (2 ^ 31)) ⊎ (row ≡ neg_ℤ (pos (2 ^ 31))))
  pub from : IsFrom ts (number +ℤ row +ℤ neg_ℤ (pos 1)) place

-- no tag has such a number
pub record HasNoneBeside (ts : List Tag) (number : ℤ) : Type 0 where
  pub level : HasNoneFrom ts (number +ℤ neg_ℤ (pos 1))
  pub above : HasNoneFrom ts (number +ℤ neg_ℤ (pos (2 ^ 31)) +ℤ neg_ℤ (pos 1))
  pub below : HasNoneFrom ts (number +ℤ pos (2 ^ 31) +ℤ neg_ℤ (pos 1))
