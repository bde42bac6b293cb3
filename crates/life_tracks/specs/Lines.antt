-- Lines of classes, each the parent of the next, one generation after another.
use Rattle.std.specs.Prelude.{◌≡◌, ◌≢◌, ◌⊎◌, ℕ, zero, suc, ◌<◌, ◌≤◌, true, false, cond, leb, List, length, get_or}
use Rattle.life_model.specs.Cell.{Cell}
use Rattle.life_model.specs.Generation.{Generation, empty}
use Rattle.life_model.specs.Symmetry.{translate_of}
use Rattle.life_plane.specs.Offsets.{AreNotTranslates}
use Rattle.life_tracks.specs.declared.lines.Line.{Line}

-- the class at place j is not the one at place i, but has the same parent
pub record IsSibling (places : List ℕ) (i j : ℕ) : Type 0 where
  pub within : j < length places
  pub other : j ≢ i
  pub same : get_or places j 0 ≡ get_or places i 0

-- the place in generation m of the class that class k of generation n comes from
unfoldable pub ancestor : (ℕ → List ℕ) → ℕ → ℕ → ℕ → ℕ
ancestor parents zero k m = k
ancestor parents (suc n) k m = cond (leb (suc n) m) k (ancestor parents n (get_or (parents n) k 0) m)

-- that class
abbrev pub core_of : (ℕ → List Generation) → (ℕ → List ℕ) → ℕ → ℕ → ℕ → Generation
core_of classes parents n k m = get_or (classes m) (ancestor parents n k m) empty

-- each class after those of generation 0, up to generation T, has a parent
pub record AreLinked (classes : ℕ → List Generation) (parents : ℕ → List ℕ) (T : ℕ) : Type 0 where
  pub count : (t : ℕ) → t < T → length (parents t) ≡ length (classes (suc t))
  pub within : (t k : ℕ) → t < T → k < length (classes (suc t)) → get_or (parents t) k 0 < length (classes t)

-- some class of the line after the first is the first one, moved or not
pub record HasComeBack (classes : ℕ → List Generation) (parents : ℕ → List ℕ) (n k : ℕ) : Type 0 where
  pub step : ℕ
  pub later : 1 ≤ step
  pub within : step ≤ n
  pub by : Cell
  pub again : core_of classes parents n k step ≡ translate_of (core_of classes parents n k 0) by

-- some class of the line after the first has a sibling
pub record HasLost (parents : ℕ → List ℕ) (n k : ℕ) : Type 0 where
  pub step : ℕ
  pub within : step < n
  pub other : ℕ
  pub sibling : IsSibling (parents step) (ancestor parents n k (suc step)) other

-- The line comes back at its end, and not earlier, and something has left on the way.
pub record ComesToReturn (classes : ℕ → List Generation) (parents : ℕ → List ℕ) (n k : ℕ) : Type 0 where
  pub later : 1 ≤ n
  pub place : k < length (classes n)
  pub by : Cell
  pub again : core_of classes parents n k n ≡ translate_of (core_of classes parents n k 0) by
  pub first : (m : ℕ) (e : Cell) → 1 ≤ m → m < n →
      core_of classes parents n k m ≡ translate_of (core_of classes parents n k 0) e → ⊥
  pub some : HasLost parents n k

-- All that is recorded of the line to class k of generation n is right.
pub record IsLine (classes : ℕ → List Generation) (parents : ℕ → List ℕ) (n k : ℕ) (line : Line) : Type 0 where
  pub origin : line.origin ≡ ancestor parents n k 0
  pub back : line.is_back ≡ true → HasComeBack classes parents n k
  pub away : line.is_back ≡ false → HasComeBack classes parents n k → ⊥
  pub left : line.has_left ≡ true → HasLost parents n k
  pub whole : line.is_back ≡ false → line.has_left ≡ false → HasLost parents n k → ⊥
  pub found : line.is_return ≡ true → ComesToReturn classes parents n k
  pub missed : line.is_return ≡ false → ComesToReturn classes parents n k → ⊥

-- the lines to the classes of generation n
pub record AreLines (classes : ℕ → List Generation) (parents : ℕ → List ℕ) (n : ℕ) (lines : List Line) : Type 0 where
  pub count : length lines ≡ length (classes n)
  pub each : (k : ℕ) (d : Line) → k < length (classes n) → IsLine classes parents n k (get_or lines k d)

-- The record of a line that goes on to the class `last` at a place, where `first` is the line's first class.
pub record GoesOn (places : List ℕ) (first last : Generation) (place : ℕ) (before after : Line) : Type 0 where
  pub origin : after.origin ≡ before.origin
  pub back : after.is_back ≡ true → (before.is_back ≡ true) ⊎ ((e : Cell) × (last ≡ translate_of first e))
  pub away : after.is_back ≡ false → (before.is_back ≡ false) × AreNotTranslates first last
  pub left : after.has_left ≡ true → (before.has_left ≡ true) ⊎ ((j : ℕ) × IsSibling places place j)
  pub whole : after.has_left ≡ false → before.is_back ≡ false →
      (before.has_left ≡ false) × ((j : ℕ) → IsSibling places place j → ⊥)
  pub found : after.is_return ≡ true →
      (before.is_back ≡ false) × ((e : Cell) × (last ≡ translate_of first e)) × (after.has_left ≡ true)
  pub missed : after.is_return ≡ false →
      (before.is_back ≡ true) ⊎ (AreNotTranslates first last ⊎ ((before.is_back ≡ false) × (after.has_left ≡ false)))
