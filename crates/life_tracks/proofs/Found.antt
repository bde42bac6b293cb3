-- What is read off along the lines that were found to come back.
use Rattle.std.proofs.Common.{ℕ, ◌+◌, ◌<◌, ◌≤◌, List, [], length, get_or, refl, arith}
use Rattle.std.specs.List.{All}
use Rattle.std.proofs.lemmas.List.{get_or_default}
use Rattle.std.proofs.lemmas.List.Elements.{Contains-get_or}
use Rattle.life_model.specs.Rule.{Rule}
use Rattle.life_model.specs.Generation.{Generation, empty}
use Rattle.life_growth.specs.Engine.{IsEngine, Way}
use Rattle.life_tracks.specs.declared.frames.film.Film.{Film}
use Rattle.life_tracks.specs.Frames.Frames.{IsFilm, classes_at, parents_at}
use Rattle.life_tracks.specs.declared.returns.Return.{Return}
use Rattle.life_tracks.specs.Films.{IsReturnOf, IsTrackOf, last_of}
use Rattle.life_tracks.specs.Readings.{AreReadOff}
use Rattle.life_tracks.specs.Returns.{AreReturns, return_at}
use Rattle.life_tracks.specs.Tracks.{HasTrack, Path}
use Rattle.life_tracks.proofs.Backs.{frames_of_film, is_track, last_is}
use Rattle.life_tracks.proofs.Engines.{end, engine_along, engine_returns, place_along}

module _ (film : Film) (found : List Return) where
  pub returns_of : AreReturns (classes_at film) (parents_at film) (last_of film) found → All (IsReturnOf film) found
  returns_of are k d h =
      let right = are.right (get_or found k d) (Contains-get_or found k d h) in
      record { within = right.0; place = right.1.place }

  module _ (paths : List Path) (are : AreReturns (classes_at film) (parents_at film) (last_of film) found)
      (read : AreReadOff (classes_at film) (parents_at film) found paths) (R : Rule) (G : Generation) (T : ℕ)
      (is : IsFilm R G T film) where
    pub all_tracks : All (IsTrackOf R T film) paths
    all_tracks k d h =
        let count = read.count in
        let inside : k < length found = omega arith in
        let r : Return = get_or found k (return_at 0 0) in
        let right = are.right (get_or found k (return_at 0 0)) (Contains-get_or found k (return_at 0 0) inside) in
        let last = last_is R G T film is in
        let low = right.0 in
        is_track R G T film is r.generation r.place (omega arith) right.1 (get_or paths k d)
        (read.each k r d inside (get_or_default found k r (return_at 0 0) inside))

    module _ (b place : ℕ) (way : Way) (inside : place < length (classes_at film 0))
        (engine : IsEngine R b (get_or (classes_at film 0) place empty) way) (short : b + way.period ≤ T) where
      abbrev E : Generation
      E = get_or (classes_at film 0) place empty

      abbrev k : ℕ
      k = end R b E way engine G T (classes_at film) (parents_at film) (frames_of_film R G T film is) place inside refl short

      pub engine_tracks : HasTrack R b E place paths
      engine_tracks =
          let frames = frames_of_film R G T film is in
          let comes = engine_returns R b E way engine G T (classes_at film) (parents_at film) frames place inside refl short in
          let last = last_is R G T film is in
          let at = are.all way.period k (omega arith) comes in
          let path : Path = get_or paths at.0 (record { place = 0; start = empty; steps = [] }) in
          let count = read.count in
          let low : at.0 < length found = at.1 in
          let along = read.each at.0 (return_at way.period k) (record { place = 0; start = empty; steps = [] }) at.1 at.2 in (
            path,
            Contains-get_or paths at.0 (record { place = 0; start = empty; steps = [] }) (omega arith),
            place_along R b E way engine G T (classes_at film) (parents_at film) frames place inside refl short path along,
            engine_along R b E way engine G T (classes_at film) (parents_at film) frames place inside refl short path along,
          )
