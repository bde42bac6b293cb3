-- What is found is a growth, and if nothing is found there is none.
use Rattle.std.proofs.Common.{◌≡◌, ◌≢◌, ℕ, zero, suc, ◌*◌, ◌<◌, ◌≤◌, true, List, [], ◌∷◌, get_or, length, inl, inr, sym, refl, ap, subst, ◌∙◌, arith}
use Rattle.std.specs.List.{All, AllPairs, Contains}
use Rattle.std.proofs.lemmas.Bool.{cases_Bool}
use Rattle.std.proofs.lemmas.List.Elements.{All-contains, All-contains_itself, All-filter, All-weaker, Contains-get_or, filter_passes}
use Rattle.std.proofs.lemmas.List.Kept.{AllPairs-filter}
use Rattle.std.proofs.lemmas.List.{get_or-map, get_or_default, length-map}
use Rattle.life_model.specs.Generation.{Generation, cells, contains, empty}
use Rattle.life_model.specs.Rule.{Rule}
use Rattle.life_objects.specs.Apart.{AreApartFor, AreApartForEver}
use Rattle.life_objects.specs.Union.{union_of}
use Rattle.life_objects.specs.Whole.{StaysWhole}
use Rattle.life_objects.proofs.Lists.{Contains-head, Contains-later, head_or_later}
use Rattle.life_objects.proofs.Members.{found_now, in_list_now}
use Rattle.life_objects.proofs.Sides.{within_each_other}
use Rattle.life_objects.proofs.DecidedLemmas.Kept.{Contains-filter, of_filter}
use Rattle.life_objects.proofs.Found.{of_map}
use Rattle.life_growth.specs.Engine.{IsEngineWithin}
use Rattle.life_growth.specs.Growth.{IsGrowth}
use Rattle.life_growth.specs.Things.{IsMadeOf}
use Rattle.life_growth.specs.Unsplit.{AreClasses}
use Rattle.life_growth.proofs.Things.{apart_by_things, things_by_apart}
use Rattle.life_cells.specs.Limits.{IsWithin}
use Rattle.life_cells.proofs.Places.{subset_within}
use Rattle.life_tracks.specs.Frames.Frames.{with_cells}
use Rattle.life_tracks.proofs.FramesLemmas.Near.{has_cell, no_cell, some_cell, union-with_cells}
use Rattle.life_growth.specs.Fates.Picked.{ArePicked}
use Rattle.life_growth.proofs.FatesLemmas.Classes.{picked_growth}
use Rattle.life_growing.specs.Settled.Settling.{IsSettling, Settling}
use Rattle.life_growing.proofs.SettlingLemmas.Making.{is_made_of_its_things}
use Rattle.life_growing.proofs.SettlingLemmas.Parting.{parts_by_then}
use Rattle.life_growing.specs.Meeting.{GoApart, IsThingAt}
use Rattle.life_growing.specs.Emissions.{Emission, IsEmissionThing}
use Rattle.life_growing.specs.Growths.{IsEngineFound, start_of, starts_of}
use Rattle.life_growing.specs.Picking.{ArePicks}
use Rattle.life_growing.proofs.Deciding.{emission_is_made}
use Rattle.life_growing.proofs.PickingClasses.{engine_has_cell}

-- ---- sets without a cell

pub cell_in : (P : Generation) → P ≢ empty → some_cell P ≡ true
cell_in P some = elim (cases_Bool (some_cell P)) [
  | inl has ↦ has
  | inr none ↦ absurd (some (no_cell P none))
]

-- sets that no split tears, and that stay apart, are classes if they have a cell
pub classes_with_cells : (R : Rule) (far : ℕ) (G : Generation) (Ps : List Generation) → union_of Ps ≡ G →
    All (StaysWhole R far G) Ps → AllPairs (AreApartFor R far) Ps → AreClasses R far G (with_cells Ps)
classes_with_cells R far G Ps together whole apart = record {
  together = union-with_cells Ps ∙ together;
  nonempty =
      All-weaker (λ P. some_cell P ≡ true) (λ P. P ≢ empty) has_cell (with_cells Ps) (filter_passes some_cell Ps);
  whole = All-filter some_cell (StaysWhole R far G) Ps whole;
  apart = AllPairs-filter (AreApartFor R far) some_cell Ps apart;
}

none_mapped : (engines : List Emission) → starts_of engines ≡ [] → engines ≡ []
none_mapped [] e = refl
none_mapped (x ∷ engines) e = let long : suc (length (starts_of engines)) ≡ 0 = ap length e in absurd (omega arith)

-- the sets of a union are within its reach
pub sets_within : (R : Rule) (a : ℕ) (G : Generation) (Ps : List Generation) → union_of Ps ≡ G →
    All (IsWithin a) (cells G) → All (λ P. All (IsWithin a) (cells P)) Ps
sets_within R a G Ps together young =
    All-weaker (Contains Ps) (λ P. All (IsWithin a) (cells P))
    (λ P one. subset_within a a (omega arith) P G
    (λ c h. ap (λ H. contains H c) (sym together) ∙ in_list_now R Ps P c one h) young)
    Ps (All-contains_itself Ps)

-- ---- classes, engines and others

module _ (R : Rule) (b far : ℕ) (G : Generation) (Ps : List Generation) (together : union_of Ps ≡ G)
    (engines : List Emission) (Os : List Generation) (are : ArePicks R b far Ps engines Os) where
  abbrev Fs : List Generation
  Fs = starts_of engines

  abbrev rest : Generation
  rest = union_of Os

  -- the others are within the reach of the set
  pub others_within : (a : ℕ) → All (IsWithin a) (cells G) → All (IsWithin a) (cells rest)
  others_within a young =
      subset_within a a (omega arith) rest G
      (λ c h.
      let P = found_now R Os c h in
      ap (λ K. contains K c) (sym together) ∙ in_list_now R Ps P.0 c (are.others_of P.0 P.1) P.2) young

  within : (F : Generation) → Contains Fs F → IsEngineWithin R b F
  within F one =
      let q = of_map start_of engines F one in
      subst (IsEngineWithin R b) q.2 (_, (All-contains (IsEngineFound R b) engines q.0 are.found q.1).engine)

  all_within : All (IsEngineWithin R b) Fs
  all_within = All-weaker (Contains Fs) (IsEngineWithin R b) within Fs (All-contains_itself Fs)

  -- the engines and the others are all of it
  all_of_it : union_of (rest ∷ Fs) ≡ G
  all_of_it =
      within_each_other (union_of (rest ∷ Fs)) G
      (λ c h.
      let X = found_now R (rest ∷ Fs) c h in
      ap (λ H. contains H c) (sym together)
      ∙ elim (head_or_later rest X.0 Fs X.1.0 X.1.1 X.1.2) [
        | inl e ↦
            let P = found_now R Os c (ap (λ H. contains H c) e ∙ X.2) in
            in_list_now R Ps P.0 c (are.others_of P.0 P.1) P.2
        | inr engine ↦ in_list_now R Ps X.0 c (are.engines_of X.0 engine) X.2
      ])
      (λ c h.
      let P = found_now R Ps c (ap (λ H. contains H c) together ∙ h) in
      elim (are.either P.0 P.1) [
        | inl engine ↦ in_list_now R (rest ∷ Fs) P.0 c (Contains-later rest P.0 Fs engine) P.2
        | inr other ↦
            in_list_now R (rest ∷ Fs) rest c (Contains-head rest Fs) (in_list_now R Os P.0 c other P.2)
      ])

  module _ (debris : Settling) (settles : IsSettling R b rest debris) where
    -- what is in a place: the debris, and after it each engine
    abbrev sets : List Generation
    sets = rest ∷ Fs

    made_engine : (n : ℕ) → n < length engines → (e : Emission) → Contains engines e →
        ((d : Emission) → get_or engines n d ≡ e) → IsMadeOf R (start_of e) (IsThingAt engines debris (suc n))
    made_engine n less e one at =
        let made = emission_is_made R b (start_of e) e (All-contains (IsEngineFound R b) engines e are.found one) in
        record {
          each = λ it is. made.each it (subst (λ x. IsEmissionThing x it) (at e) (is.1 e));
          all = λ t c h.
              let q = made.all t c h in
              (q.0, (less, λ d. subst (λ x. IsEmissionThing x q.0) (sym (at d)) q.1), q.2, q.3, q.4);
        }

    made_at : (n : ℕ) → n < suc (length engines) → (d : Generation) →
        IsMadeOf R (get_or sets n d) (IsThingAt engines debris n)
    made_at zero h d = is_made_of_its_things R b rest debris settles
    made_at (suc n) h d =
        let less : n < length engines = omega arith in
        let e : Emission = record { path = record { place = 0; start = empty; steps = [] }; lefts = [] } in
        subst (λ P. IsMadeOf R P (IsThingAt engines debris (suc n)))
        (sym (get_or-map start_of engines n e d less))
        (made_engine n less (get_or engines n e) (Contains-get_or engines n e less) (λ f. get_or_default engines n f e less))

    long_sets : length sets ≡ suc (length engines)
    long_sets = ap suc (length-map engines start_of)

    pub go_apart : AllPairs (AreApartForEver R) sets → GoApart engines debris
    go_apart apart m n less short A B one two =
        let long : length sets ≡ suc (length engines) = long_sets in
        things_by_apart R (get_or sets m empty) (get_or sets n empty) (IsThingAt engines debris m)
        (IsThingAt engines debris n) (made_at m (omega arith) empty) (made_at n short empty)
        (apart m n empty less (omega arith)) A B one two

    pub pairs_apart : GoApart engines debris → AllPairs (AreApartForEver R) sets
    pairs_apart go m n d less short =
        let long : length sets ≡ suc (length engines) = long_sets in
        apart_by_things R (get_or sets m d) (get_or sets n d) (IsThingAt engines debris m) (IsThingAt engines debris n)
        (made_at m (omega arith) d) (made_at n (omega arith) d)
        (go m n less (omega arith))

    pub is_growth : engines ≢ [] → GoApart engines debris → IsGrowth R b G Fs rest
    is_growth some go = record {
      some = λ none. some (none_mapped engines none);
      together = all_of_it;
      apart = pairs_apart go;
      each = all_within;
      settles = (_, parts_by_then R b rest debris settles);
    }

  -- if there is a growth, these are its engines and its debris
  module _ (whole : All (StaysWhole R far G) Ps) (apart : AllPairs (AreApartFor R far) Ps) where
    kept : (Xs : List Generation) (P : Generation) → Contains Xs P → P ≢ empty → Contains (with_cells Xs) P
    kept Xs P one some = Contains-filter some_cell Xs P one (cell_in P some)

    picked : 2 * b ≤ far → ArePicked R b (with_cells Ps) Fs (with_cells Os)
    picked long = record {
      either = λ P one.
          let q = of_filter some_cell Ps P one in
          elim (are.either P q.0) [
            | inl engine ↦ inl engine
            | inr other ↦ inr (kept Os P other (has_cell P q.1))
          ];
      engines_of = λ F one. kept Ps F (are.engines_of F one) (engine_has_cell R b F (within F one));
      others_of = λ P one.
          let q = of_filter some_cell Os P one in kept Ps P (are.others_of P q.0) (has_cell P q.1);
      once = are.once;
      each = all_within;
      none = All-filter some_cell (λ P. IsEngineWithin R b P → ⊥) Os (are.none long);
    }

    pub same_growth : 2 * b ≤ far → (Es : List Generation) (S : Generation) → IsGrowth R b G Es S →
        IsGrowth R b G Fs rest
    same_growth long Es S growth =
        subst (IsGrowth R b G Fs) (union-with_cells Os)
        (picked_growth R b G Es S growth far long (with_cells Ps) (classes_with_cells R far G Ps together whole apart) Fs
        (with_cells Os) (picked long))

    pub told_apart : (debris : Settling) → IsSettling R b rest debris → 2 * b ≤ far → (Es : List Generation)
        (S : Generation) → IsGrowth R b G Es S → GoApart engines debris
    told_apart debris settles long Es S growth = go_apart debris settles (same_growth long Es S growth).apart
