-- The track that is found for a set is an engine's.
use Rattle.std.proofs.Common.{◌≡◌, ℕ, suc, ◌<◌, true, List, length, Some, None, flat_map, refl, sym, ◌∙◌}
use Rattle.std.specs.List.{Contains, list_any}
use Rattle.std.proofs.lemmas.Option.{none-some}
use Rattle.life_model.specs.Rule.{Rule}
use Rattle.life_model.specs.Generation.{Generation}
use Rattle.life_objects.specs.Ash.{HasFallenApart}
use Rattle.life_objects.proofs.Found.{Contains-flat_map, of_flat_map}
use Rattle.life_growth.specs.Engines.Tracks.{Step, engine_tracks, left_along, way_along}
use Rattle.life_growth.specs.Engine.{Emits, IsEngine, IsEngineWithin}
use Rattle.life_growth.specs.Meeting.Engines.{ashes_along, goes_away, is_engine}
use Rattle.life_growth.specs.Meeting.Listed.{numbers_below}
use Rattle.life_growth.proofs.MeetingLemmas.IsEngine.{engine_along, fallen_along, search_by_engine}
use Rattle.life_growth.proofs.MeetingLemmas.Listed.{of_below}
use Rattle.life_growth.proofs.MeetingLemmas.Reach.{any_tells}
use Rattle.life_growth.specs.Fates.Tracks.{emitted_along, track_of}
use Rattle.life_growth.proofs.FatesLemmas.Finding.{found_passes, passing_found}

module _ (R : Rule) (b : ℕ) (E : Generation) where
  abbrev with_steps : ℕ → List (List Step)
  with_steps n = engine_tracks R b (suc n) E

  -- an engine's track, of some number of steps
  record IsFound (track : List Step) : Type 0 where
    fewer : ℕ
    within : fewer < b
    among : Contains (engine_tracks R b (suc fewer) E) track
    away : goes_away R b E track ≡ true

  of_found : (track : List Step) → track_of R b E ≡ Some track → IsFound track
  unfolding track_of
  of_found track e =
      let q = found_passes (goes_away R b E) (flat_map with_steps (numbers_below b)) track e in
      let n = of_flat_map with_steps (numbers_below b) track q.0 in
      record { fewer = n.0; within = of_below b n.0 n.1; among = n.2; away = q.1 }

  pub track_goes : (track : List Step) → track_of R b E ≡ Some track → IsEngine R b E (way_along E track)
  track_goes track e = let q = of_found track e in engine_along R b E q.fewer track q.within q.among q.away

  pub track_falls : (track : List Step) → track_of R b E ≡ Some track → (n : ℕ) → n < length track →
      HasFallenApart R b (left_along track n) (ashes_along R b track n)
  track_falls track e = let q = of_found track e in fallen_along R b E (suc q.fewer) track q.among

  pub track_emits : (track : List Step) → track_of R b E ≡ Some track →
      Emits R b (way_along E track) (emitted_along R b track)
  track_emits track e =
      record { ashes = ashes_along R b track; each = track_falls track e; together = refl }

  pub its_track : IsEngineWithin R b E → (track : List Step) × (track_of R b E ≡ Some track)
  unfolding is_engine track_of
  its_track engine =
      let q = any_tells (λ n. list_any (goes_away R b E) (with_steps n)) (numbers_below b) (search_by_engine R b E engine) in
      let r = any_tells (goes_away R b E) (with_steps q.0) q.2 in
      passing_found (goes_away R b E) (flat_map with_steps (numbers_below b)) r.0
      (Contains-flat_map with_steps (numbers_below b) q.0 r.0 q.1 r.1) r.2

  pub no_track : track_of R b E ≡ None → IsEngineWithin R b E → ⊥
  no_track none engine = let q = its_track engine in none-some q.0 (sym none ∙ q.1)
