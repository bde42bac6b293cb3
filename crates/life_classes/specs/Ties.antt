-- Labels that are joined because their cells are near each other.
use Rattle.std.specs.Prelude.{◌≡◌, ◌⊎◌, ℕ, ◌+◌, ◌-◌, ◌<◌, ◌≤◌, ◌^◌, ℤ, pos, neg_ℤ, ◌+ℤ◌, ◌-ℤ◌, ◌≤ℤ◌, List, length, get_or}
use Rattle.std.specs.List.{Contains}
use Rattle.life_classes.specs.declared.labels.Labelled.{Labelled}
use Rattle.life_classes.specs.declared.tags.Tag.{Tag}
use Rattle.life_classes.specs.Forest.{root}
use Rattle.life_classes.specs.Labels.{AreNearAt, classes_by}
use Rattle.life_classes.specs.Tags.{AreFrom, AreLess}
use Rattle.life_classes.specs.Tracking.{LeadTo}

-- Labels are joined, but only if their classes are near each other.
pub record IsTied (l : Labelled) (old new : List ℕ) : Type 0 where
  pub long : length new ≡ length old
  pub coarser : (k m : ℕ) → root old k ≡ root old m → root new k ≡ root new m
  pub leads : (a : Labelled) → LeadTo (classes_by a l old) (classes_by a l new)

-- the labels of the tags at two places are joined
abbrev pub AreOne : List Tag → List ℕ → ℕ → ℕ → Type 0
AreOne ts f i j = (d e : Tag) → root f (get_or ts i d).label ≡ root f (get_or ts j e).label

-- the labels of any two cells that are near each other are joined
abbrev pub AreNearOne : Labelled → List ℕ → Type 0
AreNearOne l f =
    (i j : ℕ) → i < length l.tags.items → j < length l.tags.items → AreNearAt l i j → AreOne l.tags.items f i j

-- of any two cells that are near each other, one is at a listed place, or their labels are joined
abbrev pub AreOneOrListed : Labelled → List ℕ → List ℕ → Type 0
AreOneOrListed l f places =
    (i j : ℕ) → i < length l.tags.items → j < length l.tags.items → AreNearAt l i j →
    Contains places i ⊎ (Contains places j ⊎ AreOne l.tags.items f i j)

-- The labels of the first tag whose number is at least this one, and of the last tag before it, are joined with that
-- of the n-th, unless their numbers are more than two away from this one.
pub record IsTiedAround (ts : List Tag) (f : List ℕ) (n : ℕ) (number : ℤ) : Type 0 where
  pub place : ℕ
  pub within : place ≤ length ts
  pub less : AreLess ts place number
  pub least : AreFrom ts place number
  pub next : (d : Tag) → place < length ts → (get_or ts place d).number ≤ℤ (number +ℤ pos 2) → AreOne ts f place n
  pub last : (d : Tag) → 0 < place → (number -ℤ pos 2) ≤ℤ (get_or ts (place - 1) d).number →
      AreOne ts f (place - 1) n

-- the label of the tag at this place is joined with those near it, before it and in the two rows above it
pub record IsTiedAt (ts : List Tag) (f : List ℕ) (n : ℕ) : Type 0 where
  pub before : (d : Tag) → 0 < n → ((get_or ts n d).number -ℤ pos 2) ≤ℤ (get_or ts (n - 1) d).number → AreOne ts f (n - 1) n
  pub above : (d : Tag) → IsTiedAround ts f n ((get_or ts n d).number -ℤ pos (2 ^ 31))
  pub further : (d : Tag) → IsTiedAround ts f n ((get_or ts n d).number -ℤ pos (2 ^ 32))

-- the label of the tag at this place is joined with those near it, after it and in the two rows below it
pub record IsTiedAfter (ts : List Tag) (f : List ℕ) (n : ℕ) : Type 0 where
  pub next : (d : Tag) → n + 1 < length ts → ((get_or ts (n + 1) d).number -ℤ pos 2) ≤ℤ (get_or ts n d).number →
      AreOne ts f n (n + 1)
  pub below : (d : Tag) → IsTiedAround ts f n ((get_or ts n d).number +ℤ pos (2 ^ 31))
  pub beyond : (d : Tag) → IsTiedAround ts f n ((get_or ts n d).number +ℤ pos (2 ^ 32))

-- the labels of the tags at the first n places are joined with those near them, before them and above
abbrev pub AreTiedUpTo : List Tag → List ℕ → ℕ → Type 0
AreTiedUpTo ts f n = (k : ℕ) → k < n → IsTiedAt ts f k

-- the number is that of the place one or two rows above or below the n-th tag
pub record IsRowsAway (ts : List Tag) (n : ℕ) (number : ℤ) : Type 0 where
  pub row : ℤ
  pub rows : ((row ≡ pos (2 ^ 31)) ⊎ (row ≡ pos (2 ^ 32))) ⊎ ((row ≡ neg_ℤ (pos (2 ^ 31))) ⊎ (row ≡ neg_ℤ (pos (2 ^ 32))))
  pub is : (d : Tag) → number ≡ (get_or ts n d).number -ℤ row
