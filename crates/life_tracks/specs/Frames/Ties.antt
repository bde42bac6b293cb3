-- Places of cells that are tied by sets, and forests that join them.
use Rattle.std.specs.Prelude.{◌≡◌, ◌⊎◌, ℕ, ◌≤◌, true, List, length}
use Rattle.std.specs.List.{Contains, sum}
use Rattle.life_model.specs.Cell.{Cell}
use Rattle.life_model.specs.Generation.{Generation, contains}
use Rattle.life_classes.specs.Forest.{AreAs, root}
use Rattle.life_tracks.specs.Frames.Bearers.{IsBearer, IsTouched}

-- each number keeps its root
pub record AreSameRoots (old new : List ℕ) : Type 0 where
  pub long : length new ≡ length old
  pub same : (k : ℕ) → root new k ≡ root old k
  pub less : sum new ≤ sum old

-- Two numbers are joined, and nothing is joined beyond what that requires.
pub record IsUnited (old new : List ℕ) (one other : ℕ) : Type 0 where
  pub long : length new ≡ length old
  pub coarser : (k l : ℕ) → root old k ≡ root old l → root new k ≡ root new l
  pub both : root new one ≡ root new other
  pub only : (k l : ℕ) → root new k ≡ root new l →
      (root old k ≡ root old l) ⊎ (AreAs old k l one other ⊎ AreAs old k l other one)

-- at least as much is joined
pub record IsFurther (old new : List ℕ) : Type 0 where
  pub long : length new ≡ length old
  pub coarser : (k l : ℕ) → root old k ≡ root old l → root new k ≡ root new l

-- Places of G are tied if their cells bear cells of the same set, or by a chain of such places.
pub data AreTied (G : Generation) (Ss : List Generation) : ℕ → ℕ → Type 0 where
  itself : (m : ℕ) → AreTied G Ss m m
  swapped : (m k : ℕ) → AreTied G Ss m k → AreTied G Ss k m
  through : (m k l : ℕ) → AreTied G Ss m k → AreTied G Ss k l → AreTied G Ss m l
  bearing : (S : Generation) (c d : Cell) (m k : ℕ) → Contains Ss S → contains S c ≡ true → contains S d ≡ true →
      IsBearer G c m → IsBearer G d k → AreTied G Ss m k

-- places that are joined are tied
abbrev pub JoinsTied : Generation → List Generation → List ℕ → Type 0
JoinsTied G Ss forest = (m k : ℕ) → root forest m ≡ root forest k → AreTied G Ss m k

-- c has a bearer with the root of r
pub record HasRootOf (G : Generation) (forest : List ℕ) (c : Cell) (r : ℕ) : Type 0 where
  pub place : ℕ
  pub bears : IsBearer G c place
  pub one : root forest place ≡ root forest r

-- c and d have bearers that are joined
pub record AreBorneAsOne (G : Generation) (forest : List ℕ) (c d : Cell) : Type 0 where
  pub first : ℕ
  pub second : ℕ
  pub bears : IsBearer G c first
  pub bears_too : IsBearer G d second
  pub one : root forest first ≡ root forest second

-- any two cells of the set have bearers that are joined
abbrev pub IsJoined : Generation → List ℕ → Generation → Type 0
IsJoined G forest S = (c d : Cell) → contains S c ≡ true → contains S d ≡ true → AreBorneAsOne G forest c d

-- cells of G are at most one away from each cell of each of the sets
abbrev pub AreTouched : Generation → List Generation → Type 0
AreTouched G Ss = (S : Generation) → Contains Ss S → (c : Cell) → contains S c ≡ true → IsTouched G c
