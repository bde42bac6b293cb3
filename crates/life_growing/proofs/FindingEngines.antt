-- The engine along the tracks of a film of one set alone.
use Rattle.std.proofs.Common.{◌≡◌, ℕ, ◌+◌, ◌*◌, ◌<◌, ◌≤◌, List, [], ◌∷◌, get_or, length, sym, ap, subst, ◌∙◌, arith}
use Rattle.std.specs.List.{All}
use Rattle.std.proofs.lemmas.List.Elements.{All-contains}
use Rattle.life_model.specs.Generation.{Generation, empty}
use Rattle.life_model.specs.Rule.{Rule}
use Rattle.life_growth.specs.Engine.{IsEngine, IsEngineWithin, Way}
use Rattle.life_growth.specs.Unsplit.{IsUnsplit}
use Rattle.life_growth.proofs.Classes.{one_class_by_unsplit}
use Rattle.life_growth.proofs.Endless.{IsUnsplit-wider}
use Rattle.life_tracks.specs.declared.frames.film.Film.{Film}
use Rattle.life_tracks.specs.Frames.Frames.{IsFilm, classes_at}
use Rattle.life_tracks.specs.Films.{IsTrackOf}
use Rattle.life_tracks.specs.Tracks.{HasTrack, Path, way_of}
use Rattle.life_growing.proofs.FindingClasses.{film_classes}

-- an engine is unsplit within each bound that is no less
pub engine_unsplit : (R : Rule) (b c : ℕ) (E : Generation) → b ≤ c → IsEngineWithin R b E → IsUnsplit R c E
engine_unsplit R b c E le engine =
    IsUnsplit-wider R b c E le (subst (IsUnsplit R b) engine.1.start (engine.1.whole 0 (omega arith)))

module _ (R : Rule) (T : ℕ) (film : Film) (E : Generation) (is : IsFilm R E T film) (unsplit : IsUnsplit R T E) where
  only_class : classes_at film 0 ≡ E ∷ []
  only_class = one_class_by_unsplit R T E (classes_at film 0) (film_classes R E T film is) unsplit

  in_first : (n : ℕ) → n < length (classes_at film 0) → get_or (classes_at film 0) n empty ≡ E
  in_first n h =
      let long : length (classes_at film 0) ≡ 1 = ap length only_class in
      let first : n ≡ 0 = omega arith in
      (λ i. get_or (only_class i) (first i) empty)

  -- each track starts at the set
  pub track_start : (p : Path) → IsTrackOf R T film p → p.start ≡ E
  track_start p track = track.start ∙ in_first p.place track.place

-- if no track is an engine's, the set is no engine
pub no_engine : (R : Rule) (T : ℕ) (film : Film) (E : Generation) → IsFilm R E T film → (b : ℕ) (tracks : List Path) →
    All (IsTrackOf R T film) tracks → All (λ p. IsEngine R b p.start (way_of p) → ⊥) tracks →
    ((place : ℕ) (way : Way) → place < length (classes_at film 0) →
    IsEngine R b (get_or (classes_at film 0) place empty) way → b + way.period ≤ T →
    HasTrack R b (get_or (classes_at film 0) place empty) place tracks) →
    2 * b ≤ T → IsEngineWithin R b E → ⊥
no_engine R T film E is b tracks right none each far engine =
    let unsplit = engine_unsplit R b T E (omega arith) engine in
    let long : length (classes_at film 0) ≡ 1 = ap length (only_class R T film E is unsplit) in
    let short = engine.1.within in
    let here = in_first R T film E is unsplit 0 (omega arith) in
    let q = each 0 engine.0 (omega arith) (subst (λ G. IsEngine R b G engine.0) (sym here) engine.1) (omega arith) in
    let track = All-contains (IsTrackOf R T film) tracks q.0 right q.1 in
    All-contains (λ p. IsEngine R b p.start (way_of p) → ⊥) tracks q.0 none q.1
    (subst (λ G. IsEngine R b G (way_of q.0)) (here ∙ sym (track_start R T film E is unsplit q.0 track)) q.3)
