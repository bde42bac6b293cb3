-- Lines and tracks of a film.
use Rattle.std.specs.Prelude.{◌≡◌, ℕ, ◌-◌, ◌<◌, ◌≤◌, length, get_or}
use Rattle.std.specs.List.{Contains}
use Rattle.life_model.specs.Generation.{empty}
use Rattle.life_model.specs.Rule.{Rule}
use Rattle.life_tracks.specs.declared.frames.film.Film.{Film}
use Rattle.life_tracks.specs.Frames.Frames.{classes_at, parents_at}
use Rattle.life_tracks.specs.declared.returns.Return.{Return}
use Rattle.life_tracks.specs.Lines.{AreLinked}
use Rattle.life_tracks.specs.Tracks.{ComesBack, Path, way_of}

-- the last generation
abbrev pub last_of : Film → ℕ
last_of film = length film.frames.items - 1

-- the film has a generation, and each class after its first one has a parent
pub record IsLinkedFilm (film : Film) : Type 0 where
  pub some : 0 < length film.frames.items
  pub linked : AreLinked (classes_at film) (parents_at film) (last_of film)

-- the film has this class
pub record IsReturnOf (film : Film) (r : Return) : Type 0 where
  pub within : r.generation ≤ last_of film
  pub place : r.place < length (classes_at film r.generation)

-- The path is that of a class of generation 0, which comes back along it, and the path's cores are classes of their
-- generations.
pub record IsTrackOf (R : Rule) (T : ℕ) (film : Film) (path : Path) : Type 0 where
  pub place : path.place < length (classes_at film 0)
  pub start : path.start ≡ get_or (classes_at film 0) path.place empty
  pub back : ComesBack R T path.start (way_of path)
  pub cores : (n : ℕ) → n ≤ (way_of path).period → Contains (classes_at film n) ((way_of path).core n)
