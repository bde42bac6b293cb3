-- The generations of a film, read backwards, and their classes.
use Rattle.std.specs.Prelude.{◌≡◌, ℕ, ◌+◌, ◌-◌, ◌<◌, ◌≤◌, true, not, ◌==◌, List, [], filter, length, get_or, map}
use Rattle.life_model.specs.Cell.{Cell, origin}
use Rattle.life_model.specs.Rule.{Rule}
use Rattle.life_model.specs.Generation.{Generation, cells, contains, empty, size}
use Rattle.life_model.specs.Evolution.{generation, next}
use Rattle.life_objects.specs.Union.{IsSubsetOf}
use Rattle.life_growth.specs.Unsplit.{AreClasses}
use Rattle.life_tracks.specs.declared.frames.film.Film.{Film}
use Rattle.life_tracks.specs.declared.frames.frame.Frame.{Frame}
use Rattle.life_tracks.specs.Frames.Bearers.{IsBearer}

-- the non-empty ones of the sets
abbrev pub with_cells : List Generation → List Generation
with_cells Ps = filter (λ P. not (size P == 0)) Ps

-- The set at place i bears all cells of Q, and no other set bears one.
pub record IsParent (R : Rule) (Ps : List Generation) (Q : Generation) (i : ℕ) : Type 0 where
  pub within : i < length Ps
  pub bears : IsSubsetOf Q (next R (get_or Ps i empty))
  pub only : (k : ℕ) (c : Cell) → k < length Ps → contains Q c ≡ true → contains (next R (get_or Ps k empty)) c ≡ true →
      k ≡ i

-- for each of the sets Qs, the place of the set of Ps that bears it
pub record AreParents (R : Rule) (Ps Qs : List Generation) (places : List ℕ) : Type 0 where
  pub count : length places ≡ length Qs
  pub each : (j : ℕ) → j < length Qs → IsParent R Ps (get_or Qs j empty) (get_or places j 0)

-- the set at place i has a cell of G that is at most one away from some cell of Q
pub record IsBeside (G : Generation) (Ps : List Generation) (Q : Generation) (i : ℕ) : Type 0 where
  pub cell : Cell
  pub of : contains Q cell ≡ true
  pub by : ℕ
  pub bears : IsBearer G cell by
  pub within : i < length Ps
  pub has : contains (get_or Ps i empty) (get_or (cells G) by origin) ≡ true

-- the first generations of G
pub record AreGenerations (R : Rule) (G : Generation) (n : ℕ) (Gs : List Generation) : Type 0 where
  pub count : length Gs ≡ n
  pub each : (t : ℕ) → t < n → get_or Gs t empty ≡ generation R G t

-- the classes of the frame at place i
abbrev pub frame_classes : List Frame → ℕ → List Generation
frame_classes frames i = get_or (map (λ f. f.classes.items) frames) i []

abbrev pub frame_parents : List Frame → ℕ → List ℕ
frame_parents frames i = get_or (map (λ f. f.parents.items) frames) i []

-- The first n frames of a film of T generations, read backwards. The frame at place i has the classes of generation T -
-- i for i generations, and says which of them bears each class of the frame before it.
pub record AreFrames (R : Rule) (G : Generation) (T n : ℕ) (frames : List Frame) : Type 0 where
  pub count : length frames ≡ n
  pub classes : (i : ℕ) → i < n → AreClasses R i (generation R G (T - i)) (frame_classes frames i)
  pub parents : (i : ℕ) → i + 1 < n →
      AreParents R (frame_classes frames (i + 1)) (frame_classes frames i) (frame_parents frames (i + 1))

-- The frame that comes after these.
pub record IsNextFrame (R : Rule) (G : Generation) (T : ℕ) (frames : List Frame) (frame : Frame) : Type 0 where
  pub classes : AreClasses R (length frames) (generation R G (T - length frames)) frame.classes.items
  pub parents : 0 < length frames → AreParents R frame.classes.items (frame_classes frames (length frames - 1)) frame.parents.items

-- the classes of generation t in a film
abbrev pub classes_at : Film → ℕ → List Generation
classes_at film t = frame_classes film.frames.items (length film.frames.items - 1 - t)

abbrev pub parents_at : Film → ℕ → List ℕ
parents_at film t = frame_parents film.frames.items (length film.frames.items - 1 - t)

-- For each generation t up to T, the film has the classes for the T - t generations that are left. For each class of
-- the next generation it says which of them bears it.
pub record IsFilm (R : Rule) (G : Generation) (T : ℕ) (film : Film) : Type 0 where
  pub count : length film.frames.items ≡ T + 1
  pub classes : (t : ℕ) → t ≤ T → AreClasses R (T - t) (generation R G t) (classes_at film t)
  pub parents : (t : ℕ) → t < T → AreParents R (classes_at film t) (classes_at film (t + 1)) (parents_at film t)
