-- Tracks that are read off lines.
use Rattle.std.specs.Prelude.{◌≡◌, ◌⊎◌, ℕ, suc, ◌<◌, ◌≤◌, true, List, length, get_or}
use Rattle.life_model.specs.Cell.{Cell}
use Rattle.life_model.specs.Generation.{Generation, contains, empty}
use Rattle.life_growth.specs.Engines.Tracks.{Step}
use Rattle.life_tracks.specs.declared.returns.Return.{Return}
use Rattle.life_tracks.specs.Lines.{IsSibling, ancestor, core_of}
use Rattle.life_tracks.specs.Tracks.{Path}

-- a sibling before place n that has the cell
pub record IsInSibling (classes : List Generation) (places : List ℕ) (place n : ℕ) (c : Cell) : Type 0 where
  pub other : ℕ
  pub before : other < n
  pub sibling : IsSibling places place other
  pub has : contains (get_or classes other empty) c ≡ true

-- L has the cells of those of the first n classes that are siblings of the class at a place
pub record AreLeftOf (classes : List Generation) (places : List ℕ) (place n : ℕ) (L : Generation) : Type 0 where
  pub from : (c : Cell) → contains L c ≡ true → IsInSibling classes places place n c
  pub all : (c : Cell) → IsInSibling classes places place n c → contains L c ≡ true

abbrev pub AreLeft : List Generation → List ℕ → ℕ → Generation → Type 0
AreLeft classes places place L = AreLeftOf classes places place (length places) L

-- `more` is L, and also the class at place `other` if that is a sibling of the class at `place`.
pub record IsWithSibling (classes : List Generation) (places : List ℕ) (place other : ℕ) (L more : Generation) : Type 0 where
  pub kept : (c : Cell) → contains L c ≡ true → contains more c ≡ true
  pub added : (c : Cell) → IsSibling places place other → contains (get_or classes other empty) c ≡ true →
      contains more c ≡ true
  pub from : (c : Cell) → contains more c ≡ true →
      (contains L c ≡ true) ⊎ (IsSibling places place other × (contains (get_or classes other empty) c ≡ true))

-- the places of the line to class k of generation n
pub record AreOnLine (parents : ℕ → List ℕ) (n k : ℕ) (places : List ℕ) : Type 0 where
  pub count : length places ≡ suc n
  pub each : (m : ℕ) → m ≤ n → get_or places m 0 ≡ ancestor parents n k m

abbrev pub step_at : List Step → ℕ → Step
step_at steps m = get_or steps m (empty, empty)

-- the first m steps along the line
pub record AreStepsAlong (classes : ℕ → List Generation) (parents : ℕ → List ℕ) (n k m : ℕ) (steps : List Step) : Type 0 where
  pub count : length steps ≡ m
  pub core : (i : ℕ) → i < m → (step_at steps i).0 ≡ core_of classes parents n k (suc i)
  pub left : (i : ℕ) → i < m →
      AreLeft (classes (suc i)) (parents i) (ancestor parents n k (suc i)) (step_at steps i).1

-- the track along the line
pub record IsReadOff (classes : ℕ → List Generation) (parents : ℕ → List ℕ) (n k : ℕ) (path : Path) : Type 0 where
  pub place : path.place ≡ ancestor parents n k 0
  pub start : path.start ≡ core_of classes parents n k 0
  pub steps : AreStepsAlong classes parents n k n path.steps

-- the tracks along these lines
pub record AreReadOff (classes : ℕ → List Generation) (parents : ℕ → List ℕ) (found : List Return) (paths : List Path) :
    Type 0 where
  pub count : length paths ≡ length found
  pub each : (i : ℕ) (r : Return) (d : Path) → i < length found → get_or found i r ≡ r →
      IsReadOff classes parents r.generation r.place (get_or paths i d)
