-- The growth that is found is one, and each is found.
use Rattle.std.proofs.Common.{◌≡◌, ℕ, true, List, ◌∷◌, map, get_or, Some, None, inl, inr, sym, ap, subst, ◌∙◌, arith}
use Rattle.std.specs.List.{All, AllPairs, Contains, list_all}
use Rattle.std.specs.List.Sorted.{IsPermutation}
use Rattle.std.proofs.lemmas.Bool.{and_from, and_parts}
use Rattle.std.proofs.lemmas.List.Elements.{All-contains, All-contains_itself, All-weaker, Contains-get_or}
use Rattle.std.proofs.lemmas.List.Kept.{AllPairs-cons}
use Rattle.std.proofs.lemmas.List.Sorted.{All-permutation, Contains-permutation, IsPermutation-sym}
use Rattle.std.proofs.lemmas.List.Sums.{AllPass-from_list_all}
use Rattle.std.proofs.lemmas.Option.{none-some}
use Rattle.life_model.specs.Rule.{Rule}
use Rattle.life_model.specs.Generation.{Generation}
use Rattle.life_model.specs.Evolution.{generation}
use Rattle.life_objects.specs.Apart.{AreApartForEver}
use Rattle.life_objects.proofs.Lists.{AllPairs-head, AllPairs-tail, AllPairs-map, AllPairs-unmap, related_or_same}
use Rattle.life_objects.proofs.Times.{AreApartForEver-swap}
use Rattle.life_objects.specs.Decided.Decided.{candidate_parts}
use Rattle.life_objects.specs.Decided.Tests.{each_pair}
use Rattle.life_objects.proofs.DecidedLemmas.Tests.{each_pair_by, each_pair_tells}
use Rattle.life_objects.proofs.Found.{of_map}
use Rattle.life_growth.specs.Engines.Growths.{growths_of}
use Rattle.life_growth.specs.Engines.Tracks.{way_along}
use Rattle.life_growth.proofs.EnginesLemmas.Growths.{found_is_growth, found_once, found_settles, growth_found}
use Rattle.life_growth.specs.Engine.{FallsApart, IsEngineWithin}
use Rattle.life_growth.specs.Growth.{IsGrowth}
use Rattle.life_growth.specs.Things.{IsMadeOf, Thing}
use Rattle.life_growth.proofs.OneGrowth.{one_debris, one_list_of_engines}
use Rattle.life_growth.specs.Meeting.Engines.{ashes_along, is_engine}
use Rattle.life_growth.specs.Meeting.Meeting.{all_never_meet}
use Rattle.life_growth.proofs.MeetingLemmas.Apart.{apart_by_search, search_by_apart}
use Rattle.life_growth.proofs.MeetingLemmas.Engines.{engine_is_listed}
use Rattle.life_growth.proofs.MeetingLemmas.IsEngine.{engine_by_search, found_ash, search_by_engine}
use Rattle.life_growth.proofs.MeetingLemmas.Listed.{settled_is_listed}
use Rattle.life_growth.proofs.MeetingLemmas.Meeting.{all_by, all_tells}
use Rattle.life_growth.proofs.MeetingLemmas.Reach.{mapped}
use Rattle.life_growth.specs.Fates.Decided.{goes_on, growth_of, things_along, things_of_debris, things_of_each, things_of_engine}
use Rattle.life_growth.proofs.FatesLemmas.Finding.{cases_Option, found_passes, passing_found}
use Rattle.life_growth.proofs.FatesLemmas.Tracks.{its_track, track_falls, track_goes}

module _ (R : Rule) (b : ℕ) where
  -- ---- the things of debris and of engines

  abbrev its : Generation → List Thing
  its = things_of_engine R b

  debris_is_made : (S : Generation) → FallsApart R b S → IsMadeOf R S (Contains (things_of_debris R b S))
  debris_is_made S settles =
      settled_is_listed R b S (candidate_parts R b (generation R S b)) (found_ash R b S S settles)

  engine_is_made : (E : Generation) → IsEngineWithin R b E → IsMadeOf R E (Contains (its E))
  engine_is_made E engine =
      let t = its_track R b E engine in
      subst (λ o. IsMadeOf R E (Contains (things_along R b E o))) (sym t.1)
      (engine_is_listed R b b E (way_along E t.0) (track_goes R b E t.0 t.1) (ashes_along R b t.0)
      (track_falls R b E t.0 t.1))

  -- ---- what is found

  module _ (S : Generation) (Es : List Generation) (settles : FallsApart R b S) (each : All (IsEngineWithin R b) Es) where
    abbrev D : List Thing
    D = things_of_debris R b S

    engine_at : (E : Generation) → Contains Es E → IsMadeOf R E (Contains (its E))
    engine_at E one = engine_is_made E (All-contains (IsEngineWithin R b) Es E each one)

    apart_by_things : each_pair all_never_meet (things_of_each R b (Es, S)) ≡ true → AllPairs (AreApartForEver R) (S ∷ Es)
    apart_by_things h =
        let parts = and_parts (list_all (all_never_meet D) (map its Es)) (each_pair all_never_meet (map its Es)) h in
        let pairs = AllPairs-unmap (λ As Bs. all_never_meet As Bs ≡ true) its Es
        (each_pair_tells all_never_meet (map its Es) parts.1) in
        AllPairs-cons (AreApartForEver R) S Es
        (All-weaker (Contains Es) (AreApartForEver R S) (λ E one.
        apart_by_search R S E D (its E) (debris_is_made S settles) (engine_at E one)
        (all_tells (all_never_meet D) (map its Es) (its E) parts.0 (mapped its Es E one)))
        Es (All-contains_itself Es))
        (λ i j d h k.
        let x = get_or Es i d in
        let y = get_or Es j d in
        apart_by_search R x y (its x) (its y) (engine_is_made x (each i d (omega arith))) (engine_is_made y (each j d k))
        (pairs i j d h k))

    things_by_apart : AllPairs (AreApartForEver R) (S ∷ Es) → each_pair all_never_meet (things_of_each R b (Es, S)) ≡ true
    things_by_apart apart =
        let far = AllPairs-head (AreApartForEver R) S Es apart in
        let pairs = AllPairs-tail (AreApartForEver R) S Es apart in
        and_from (list_all (all_never_meet D) (map its Es)) (each_pair all_never_meet (map its Es))
        (all_by (all_never_meet D) (map its Es) (λ As one.
        let q = of_map its Es As one in
        subst (λ Bs. all_never_meet D Bs ≡ true) q.2
        (search_by_apart R S q.0 D (its q.0) (debris_is_made S settles) (engine_at q.0 q.1)
        (All-contains (AreApartForEver R S) Es q.0 far q.1))))
        (each_pair_by all_never_meet (map its Es)
        (AllPairs-map (λ As Bs. all_never_meet As Bs ≡ true) its Es
        (λ i j d h k.
        let x = get_or Es i d in
        let y = get_or Es j d in
        search_by_apart R x y (its x) (its y) (engine_is_made x (each i d (omega arith))) (engine_is_made y (each j d k))
        (pairs i j d h k))))

  pub growth_right : (G : Generation) (Es : List Generation) (S : Generation) → growth_of R b G ≡ Some (Es, S) →
      IsGrowth R b G Es S
  unfolding growth_of
  growth_right G Es S e =
      let q = found_passes (goes_on R b) (growths_of R b G) (Es, S) e in
      let parts = and_parts (list_all (is_engine R b) Es) (each_pair all_never_meet (things_of_each R b (Es, S))) q.1 in
      let each = All-weaker (λ E. is_engine R b E ≡ true) (IsEngineWithin R b) (engine_by_search R b) Es
      (AllPass-from_list_all (is_engine R b) Es parts.0) in
      found_is_growth R b G Es S q.0 each (apart_by_things S Es (found_settles R b G Es S q.0) each parts.1)

  module _ (G : Generation) (Es : List Generation) (S : Generation) (growth : IsGrowth R b G Es S) where
    abbrev listed : (found : List Generation) × Contains (growths_of R b G) (found, S) × IsPermutation Es found
    listed = growth_found R b G Es S growth

    abbrev found : List Generation
    found = listed.0

    each_found : All (IsEngineWithin R b) found
    each_found = All-permutation (IsEngineWithin R b) Es found listed.2 growth.each

    among : (E : Generation) → Contains found E → Contains Es E
    among E one = Contains-permutation found Es E (IsPermutation-sym Es found listed.2) one

    found_apart : AllPairs (AreApartForEver R) (S ∷ found)
    found_apart =
        AllPairs-cons (AreApartForEver R) S found
        (All-permutation (AreApartForEver R S) Es found listed.2 (AllPairs-head (AreApartForEver R) S Es growth.apart))
        (λ i j d h k.
        let x = get_or found i d in
        let y = get_or found j d in
        elim (related_or_same (AreApartForEver R) (AreApartForEver-swap R) Es x y
        (among x (Contains-get_or found i d (omega arith))) (among y (Contains-get_or found j d k))
        (AllPairs-tail (AreApartForEver R) S Es growth.apart)) [
          | inl far ↦ far
          | inr same ↦ absurd (found_once R b G Es S growth i j d h k same)
        ])

    found_goes_on : goes_on R b (found, S) ≡ true
    found_goes_on =
        and_from (list_all (is_engine R b) found) (each_pair all_never_meet (things_of_each R b (found, S)))
        (all_by (is_engine R b) found (λ E one.
        search_by_engine R b E (All-contains (IsEngineWithin R b) found E each_found one)))
        (things_by_apart S found growth.settles each_found found_apart)

    something_found : (g : List Generation × Generation) × (growth_of R b G ≡ Some g)
    unfolding growth_of
    something_found = passing_found (goes_on R b) (growths_of R b G) (found, S) listed.1 found_goes_on

    pub its_growth : (Fs : List Generation) × (growth_of R b G ≡ Some (Fs, S)) × IsPermutation Es Fs
    its_growth =
        let q = something_found in
        let Fs : List Generation = q.0.0 in
        let T : Generation = q.0.1 in
        let too = growth_right G Fs T q.1 in
        let same : T ≡ S = one_debris R b b G Fs T Es S too growth in
        (Fs, q.1 ∙ ap (λ H. Some (Fs, H)) same, one_list_of_engines R b b G Es S Fs T growth too)

  pub no_growth : (G : Generation) (Es : List Generation) (S : Generation) → growth_of R b G ≡ None → IsGrowth R b G Es S → ⊥
  no_growth G Es S none growth =
      let q = its_growth G Es S growth in
      none-some (q.0, S) (sym none ∙ q.1)

  pub none_found : (G : Generation) → ((S : Generation) (Es : List Generation) → IsGrowth R b G Es S → ⊥) →
      growth_of R b G ≡ None
  none_found G none =
      elim (cases_Option (growth_of R b G)) [
        | inl q ↦ absurd (none q.0.1 q.0.0 (growth_right G q.0.0 q.0.1 q.1))
        | inr e ↦ e
      ]
