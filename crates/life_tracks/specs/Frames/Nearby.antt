-- Places of cells that are near each other, and forests that join them.
use Rattle.std.specs.Prelude.{◌≡◌, ◌⊎◌, ℕ, ◌-◌, ◌<◌, ◌^◌, ℤ, pos, ◌+ℤ◌, ◌-ℤ◌, ◌≤ℤ◌, true, List, length, get_or}
use Rattle.std.specs.List.{Contains}
use Rattle.life_model.specs.Cell.{Cell, origin}
use Rattle.life_model.specs.Generation.{Generation, cells, contains}
use Rattle.life_objects.specs.Apart.{AreNear}
use Rattle.life_classes.specs.Forest.{root}
use Rattle.life_classes.specs.Tags.{place_number}
use Rattle.life_islands.specs.Labels.{IsParting}
use Rattle.life_tracks.specs.Frames.Ties.{IsFurther, JoinsTied}

-- the number of the cell at place n of G
abbrev pub number_at : Generation → ℕ → ℤ
number_at G n = place_number (get_or (cells G) n origin)

-- any two cells of G that are near each other are both in one of the sets
abbrev pub HoldsNear : Generation → List Generation → Type 0
HoldsNear G Ss = (c d : Cell) → contains G c ≡ true → contains G d ≡ true → AreNear c d →
    (S : Generation) × Contains Ss S × (contains S c ≡ true) × (contains S d ≡ true)

-- cells of G that are near each other have joined places
abbrev pub IsJoinedNear : Generation → List ℕ → Type 0
IsJoinedNear G forest = (m k : ℕ) → m < length (cells G) → k < length (cells G) →
    AreNear (get_or (cells G) m origin) (get_or (cells G) k origin) → root forest m ≡ root forest k

-- at least as much is joined, and joined places stay tied by any sets that hold near cells together
pub record AreJoinedByNear (G : Generation) (old new : List ℕ) : Type 0 where
  pub further : IsFurther old new
  pub tied : (Ss : List Generation) → HoldsNear G Ss → JoinsTied G Ss old → JoinsTied G Ss new

-- the number is that of the place one or two rows above the cell at place n
pub record IsAbove (G : Generation) (n : ℕ) (number : ℤ) : Type 0 where
  pub row : ℤ
  pub rows : (row ≡ pos (2 ^ 31)) ⊎ (row ≡ pos (2 ^ 32))
  pub is : number ≡ (number_at G n -ℤ row)

-- The first cell whose number is at least this one, and the last cell before it, are joined with that at place n,
-- unless their numbers are more than two away from this one.
pub record IsJoinedAround (G : Generation) (f : List ℕ) (n : ℕ) (number : ℤ) : Type 0 where
  pub place : ℕ
  pub parts : IsParting (cells G) number place
  pub next : place < length (cells G) → number_at G place ≤ℤ (number +ℤ pos 2) → root f place ≡ root f n
  pub last : 0 < place → (number -ℤ pos 2) ≤ℤ number_at G (place - 1) → root f (place - 1) ≡ root f n

-- the cell at place n is joined with those near it, before it and in the two rows above it
pub record IsJoinedAt (G : Generation) (f : List ℕ) (n : ℕ) : Type 0 where
  pub before : 0 < n → (number_at G n -ℤ pos 2) ≤ℤ number_at G (n - 1) → root f (n - 1) ≡ root f n
  pub above : IsJoinedAround G f n (number_at G n -ℤ pos (2 ^ 31))
  pub further : IsJoinedAround G f n (number_at G n -ℤ pos (2 ^ 32))
