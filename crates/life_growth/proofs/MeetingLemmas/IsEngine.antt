-- A search decides whether a set is an engine.
use Rattle.std.proofs.Common.{◌≡◌, ℕ, suc, ◌-◌, ◌<◌, ◌≤◌, true, List, length, sym, subst, arith}
use Rattle.std.specs.List.{Contains, list_any}
use Rattle.life_model.specs.Rule.{Rule}
use Rattle.life_model.specs.Generation.{Generation}
use Rattle.life_model.specs.Evolution.{generation}
use Rattle.life_objects.specs.Ash.{HasFallenApart}
use Rattle.life_objects.specs.Decided.Decided.{candidate_parts}
use Rattle.life_objects.proofs.DecidedLemmas.Deciding.{ash_if_found, found_if_ash}
use Rattle.life_objects.proofs.DecidedLemmas.Kept.{of_filter}
use Rattle.life_growth.specs.Engines.Tracks.{Step, comes_back, engine_tracks, left_along, tracks, way_along}
use Rattle.life_growth.proofs.EnginesLemmas.Tracks.{track_by_test}
use Rattle.life_growth.proofs.EnginesLemmas.Ways.{engine_by_track, found_by_engine}
use Rattle.life_growth.specs.Engine.{FallsApart, IsEngine, IsEngineWithin}
use Rattle.life_growth.proofs.Pieces.{engine_leaves_cores, engine_leaves_lefts}
use Rattle.life_growth.specs.Things.{lefts_within}
use Rattle.life_growth.proofs.Things.{lefts_are_made, leaves_cores_by_things, leaves_lefts_by_things, things_by_leaving}
use Rattle.life_growth.specs.Meeting.Engines.{ashes_along, goes_away, is_engine}
use Rattle.life_growth.specs.Meeting.Listed.{numbers_below}
use Rattle.life_growth.proofs.MeetingLemmas.Again.{again_by_search, search_by_again}
use Rattle.life_growth.proofs.MeetingLemmas.Listed.{listed_below, of_below}
use Rattle.life_growth.proofs.MeetingLemmas.Reach.{any_by, any_tells}

module _ (R : Rule) (b : ℕ) (E : Generation) where
  pub found_ash : (P : Generation) → FallsApart R b P → HasFallenApart R b P (candidate_parts R b (generation R P b))
  found_ash P settles =
      ash_if_found R b (generation R P b) (candidate_parts R b (generation R P b))
      (found_if_ash R b (generation R P b) settles.0 settles.1)

  pub fallen_along : (n : ℕ) (track : List Step) → Contains (engine_tracks R b n E) track → (m : ℕ) → m < length track →
      HasFallenApart R b (left_along track m) (ashes_along R b track m)
  unfolding engine_tracks
  fallen_along n track one m h =
      let is = track_by_test R b n E track (of_filter (comes_back R b E) (tracks R b n E) track one).0 in
      let long : length track ≡ n = is.long in
      found_ash (left_along track m) (is.settles m (omega arith))

  long_along : (n : ℕ) (track : List Step) → Contains (engine_tracks R b n E) track → length track ≡ n
  unfolding engine_tracks
  long_along n track one = (track_by_test R b n E track (of_filter (comes_back R b E) (tracks R b n E) track one).0).long

  -- along a track that is found and that passes the test
  pub engine_along : (n : ℕ) (track : List Step) → n < b → Contains (engine_tracks R b (suc n) E) track →
      goes_away R b E track ≡ true → IsEngine R b E (way_along E track)
  engine_along n track within one away =
      let long : length track ≡ suc n = long_along (suc n) track one in
      let fallen = fallen_along (suc n) track one in
      let never = again_by_search R b (way_along E track) (ashes_along R b track) fallen away in
      let its = lefts_within R b (way_along E track) (ashes_along R b track) in
      let made = lefts_are_made R b (way_along E track) (ashes_along R b track) fallen in
      engine_by_track R b E (suc n) track one (omega arith) (omega arith)
      (leaves_cores_by_things R (way_along E track) (omega arith) its made never)
      (leaves_lefts_by_things R (way_along E track) (omega arith) its made never)

  pub engine_by_search : is_engine R b E ≡ true → IsEngineWithin R b E
  unfolding is_engine
  engine_by_search h =
      let q = any_tells (λ n. list_any (goes_away R b E) (engine_tracks R b (suc n) E)) (numbers_below b) h in
      let r = any_tells (goes_away R b E) (engine_tracks R b (suc q.0) E) q.2 in
      (way_along E r.0, engine_along q.0 r.0 (of_below b q.0 q.1) r.1 r.2)

  pub search_by_engine : IsEngineWithin R b E → is_engine R b E ≡ true
  unfolding is_engine
  search_by_engine within =
      let way = within.0 in
      let engine = within.1 in
      let q = found_by_engine R b E way engine in
      let track : List Step = q.0 in
      let p : ℕ = way.period in
      let one : 1 ≤ p = engine.later in
      let less : p ≤ b = engine.within in
      let same : suc (p - 1) ≡ p = omega arith in
      let there : Contains (engine_tracks R b (suc (p - 1)) E) track =
      subst (λ n. Contains (engine_tracks R b n E) track) (sym same) q.1 in
      let along : IsEngine R b E (way_along E track) = q.2 in
      let fallen = fallen_along p track q.1 in
      any_by (λ n. list_any (goes_away R b E) (engine_tracks R b (suc n) E)) (numbers_below b) (p - 1)
      (listed_below b (p - 1) (omega arith))
      (any_by (goes_away R b E) (engine_tracks R b (suc (p - 1)) E) track there
      (search_by_again R b (way_along E track) (ashes_along R b track) fallen
      (things_by_leaving R (way_along E track) along.later (lefts_within R b (way_along E track) (ashes_along R b track))
      (lefts_are_made R b (way_along E track) (ashes_along R b track) fallen)
      (engine_leaves_cores R b E (way_along E track) along) (engine_leaves_lefts R b E (way_along E track) along))))
