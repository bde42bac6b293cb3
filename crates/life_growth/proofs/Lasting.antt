-- Growth lasts: each engine leaves its core, and the debris becomes more.
use Rattle.std.proofs.Common.{◌≡◌, ℕ, ◌+◌, ◌-◌, ◌≤◌, List, [], ◌∷◌, ◌++◌, length, sym, refl, ap, subst, ◌∙◌, arith}
use Rattle.std.specs.List.{All, AllPairs, AllZip, Contains}
use Rattle.std.proofs.lemmas.List.Elements.{All-contains_itself, All-weaker, All-cons, All-head, All-nil, All-tail, length_all_zip}
use Rattle.std.proofs.lemmas.List.Kept.{AllPairs-cons}
use Rattle.life_model.specs.Rule.{Rule}
use Rattle.life_model.specs.Generation.{Generation, empty}
use Rattle.life_model.specs.Evolution.{generation}
use Rattle.life_model.proofs.Recurrences.{generation-add}
use Rattle.life_objects.specs.Apart.{AreApartForEver}
use Rattle.life_objects.specs.Ash.{HasFallenApart}
use Rattle.life_objects.specs.Union.{union, union_of, generations}
use Rattle.life_objects.proofs.Ashes.{AreApartForEver-later}
use Rattle.life_objects.proofs.Lists.{AllPairs-head, AllPairs-nil, AllPairs-tail}
use Rattle.life_objects.proofs.OneList.{apart_from_list}
use Rattle.life_objects.proofs.Times.{AreApartForEver-swap, generation-empty, generation-union_ever}
use Rattle.life_objects.proofs.Unions.{union-assoc, union-comm, union-empty}
use Rattle.life_growth.specs.Engine.{FallsApart, IsEngine, IsEngineWithin, Way}
use Rattle.life_growth.specs.Growth.{IsGrowth}
use Rattle.life_growth.specs.Onward.{IsCoreAfter, IsDebrisAfter, debris_after, endless, onward}
use Rattle.life_growth.specs.Told.{AreToldAlike}
use Rattle.life_growth.proofs.Emitting.{IsEngine-wider, all_told_alike-wider, phases_are_told_alike, steady_ashes, steady_ashes-are}
use Rattle.life_growth.proofs.Endless.{core_first, goes_on}
use Rattle.life_growth.proofs.Growing.{apart_from_empty, becomes, core_apart, debris_settles, remains}
use Rattle.life_growth.proofs.OneGrowth.{IsPart-list}
use Rattle.life_growth.proofs.OneWay.{IsEngine-phase}
use Rattle.life_growth.proofs.Parts.{IsPart, apart_part, both_apart, apart_from_both, part_apart}
use Rattle.life_growth.proofs.Settling.{FallsApart-wider, settles_empty, settles_later, settles_together}

module _ (R : Rule) where
  pub apart_from_each : (X : Generation) (Ps : List Generation) → AreApartForEver R X (union_of Ps) →
      AllPairs (AreApartForEver R) Ps → All (AreApartForEver R X) Ps
  apart_from_each X Ps far pairs =
      All-weaker (Contains Ps) (AreApartForEver R X)
      (λ P one. apart_part R P (union_of Ps) X (IsPart-list R Ps pairs P one) far) Ps (All-contains_itself Ps)

module _ (R : Rule) (b n : ℕ) where
  -- after n generations each engine has become its core and what has left it
  pub record Shed (Es : List Generation) : Type 0 where
    pub cores : List Generation
    pub lefts : List Generation
    pub each : All (IsEngineWithin R b) cores
    pub alike : AllZip (AreToldAlike R b b) Es cores
    pub are_cores : AllZip (IsCoreAfter R b n) Es cores
    pub are_debris : AllZip (IsDebrisAfter R b n) Es lefts
    pub pairs : AllPairs (AreApartForEver R) cores
    pub left_pairs : AllPairs (AreApartForEver R) lefts
    pub from_left : All (AreApartForEver R (union_of lefts)) cores
    pub settles : FallsApart R b (union_of lefts)
    pub together : union (union_of lefts) (union_of cores) ≡ generation R (union_of Es) n
    pub apart : (X : Generation) → AreApartForEver R X (generation R (union_of Es) n) →
        AreApartForEver R X (union_of lefts) × All (AreApartForEver R X) cores

  union-middle : (A B C D : Generation) → union (union A B) (union C D) ≡ union (union C A) (union B D)
  union-middle A B C D =
      sym (union-assoc (union A B) C D) ∙ ap (λ H. union H D) (union-assoc A B C ∙ ap (union A) (union-comm B C)
      ∙ sym (union-assoc A C B) ∙ ap (λ H. union H B) (union-comm A C)) ∙ union-assoc (union C A) B D

  module _ (E : Generation) (way : Way) (engine : IsEngine R b E way) where
    abbrev core : Generation
    core = (endless way).core n

    abbrev debris : Generation
    debris = debris_after R way n

    pub engine_becomes : generation R E n ≡ union core debris
    engine_becomes =
        ap (λ H. generation R H n) (sym engine.start ∙ sym (core_first R b E way engine 0 (omega arith)))
        ∙ becomes R b (endless way) (goes_on R b E way engine) n

    pub core_from_debris : AreApartForEver R core debris
    core_from_debris = core_apart R b (endless way) (goes_on R b E way engine) n

    pub debris_falls_apart : FallsApart R b debris
    debris_falls_apart = (
      remains R b (endless way) (goes_on R b E way engine) (steady_ashes R b E way engine) n,
      debris_settles R b (endless way) (goes_on R b E way engine) (steady_ashes R b E way engine)
          (steady_ashes-are R b E way engine) n,
    )

    pub core_part : IsPart R core (generation R E n)
    core_part = record { rest = debris; together = sym engine_becomes; apart = core_from_debris }

    pub debris_part : IsPart R debris (generation R E n)
    debris_part = record {
      rest = core;
      together = union-comm debris core ∙ sym engine_becomes;
      apart = AreApartForEver-swap R core debris core_from_debris;
    }

    module _ (Es : List Generation) (shed : Shed Es) (far : AreApartForEver R E (union_of Es)) where
      abbrev later : Generation
      later = generation R (union_of Es) n

      engine_from_others : AreApartForEver R (generation R E n) later
      engine_from_others = AreApartForEver-later R n E (union_of Es) far

      abbrev core_from : AreApartForEver R core (union_of shed.lefts) × All (AreApartForEver R core) shed.cores
      core_from = shed.apart core (part_apart R core (generation R E n) later core_part engine_from_others)

      abbrev debris_from : AreApartForEver R debris (union_of shed.lefts) × All (AreApartForEver R debris) shed.cores
      debris_from = shed.apart debris (part_apart R debris (generation R E n) later debris_part engine_from_others)

      core_from_left : AreApartForEver R (union debris (union_of shed.lefts)) core
      core_from_left =
          both_apart R debris (union_of shed.lefts) core (AreApartForEver-swap R core debris core_from_debris)
          (AreApartForEver-swap R core (union_of shed.lefts) core_from.0) debris_from.0

      cores_from_left : All (AreApartForEver R (union debris (union_of shed.lefts))) shed.cores
      cores_from_left k d h =
          both_apart R debris (union_of shed.lefts) _ (debris_from.1 k d h) (shed.from_left k d h) debris_from.0

      pub shed_more : Shed (E ∷ Es)
      shed_more = record {
        cores = core ∷ shed.cores;
        lefts = debris ∷ shed.lefts;
        each = All-cons (IsEngineWithin R b) core shed.cores (onward way n, IsEngine-phase R b E way engine n) shed.each;
        alike = (phases_are_told_alike R b E way engine n, shed.alike);
        are_cores = ((way, engine, refl), shed.are_cores);
        are_debris = ((way, engine, refl), shed.are_debris);
        pairs = AllPairs-cons (AreApartForEver R) core shed.cores core_from.1 shed.pairs;
        left_pairs =
            AllPairs-cons (AreApartForEver R) debris shed.lefts
            (apart_from_each R debris shed.lefts debris_from.0 shed.left_pairs) shed.left_pairs;
        from_left = All-cons (AreApartForEver R (union debris (union_of shed.lefts))) core shed.cores core_from_left cores_from_left;
        settles =
            let one = debris_falls_apart in (
              one.0 ++ shed.settles.0,
              settles_together R b debris (union_of shed.lefts) one.0 shed.settles.0 debris_from.0 one.1 shed.settles.1,
            );
        together =
            union-middle debris (union_of shed.lefts) core (union_of shed.cores)
            ∙ (λ i. union (sym engine_becomes i) (shed.together i))
            ∙ sym (generation-union_ever R n E (union_of Es) far);
        apart = λ X away.
            let split = generation-union_ever R n E (union_of Es) far in
            let from : AreApartForEver R X (union (generation R E n) later) = subst (AreApartForEver R X) split away in
            let from_engine : AreApartForEver R X (generation R E n) =
            apart_part R (generation R E n) (union (generation R E n) later) X
            (record { rest = later; together = refl; apart = engine_from_others }) from in
            let from_others : AreApartForEver R X later =
            apart_part R later (union (generation R E n) later) X
            (record {
              rest = generation R E n;
              together = union-comm later (generation R E n);
              apart = AreApartForEver-swap R (generation R E n) later engine_from_others;
            }) from in
            let more = shed.apart X from_others in (
              apart_from_both R X debris (union_of shed.lefts)
                  (apart_part R debris (generation R E n) X debris_part from_engine) more.0 debris_from.0,
              All-cons (AreApartForEver R X) core shed.cores
                  (apart_part R core (generation R E n) X core_part from_engine) more.1,
            );
      }

  pub all_shed : (Es : List Generation) → AllPairs (AreApartForEver R) Es → All (IsEngineWithin R b) Es → Shed Es
  all_shed [] pairs each = record {
    cores = [];
    lefts = [];
    each = All-nil (IsEngineWithin R b);
    alike = tt;
    are_cores = tt;
    are_debris = tt;
    pairs = AllPairs-nil (AreApartForEver R);
    left_pairs = AllPairs-nil (AreApartForEver R);
    from_left = All-nil (AreApartForEver R empty);
    settles = ([], settles_empty R b);
    together = union-empty empty ∙ sym (generation-empty R n);
    apart = λ X away. (apart_from_empty R X, All-nil (AreApartForEver R X));
  }
  all_shed (E ∷ Es) pairs each =
      let engine = All-head (IsEngineWithin R b) E Es each in
      let fewer = AllPairs-tail (AreApartForEver R) E Es pairs in
      shed_more E engine.0 engine.1 Es (all_shed Es fewer (All-tail (IsEngineWithin R b) E Es each))
      (apart_from_list R E Es (AllPairs-head (AreApartForEver R) E Es pairs) fewer)

  -- which parts the debris falls apart into
  pub all_shed-none : (pairs : AllPairs (AreApartForEver R) []) (each : All (IsEngineWithin R b) []) →
      (all_shed [] pairs each).settles.0 ≡ []
  unfolding all_shed
  all_shed-none pairs each = refl

  pub all_shed-more : (E : Generation) (Es : List Generation) (pairs : AllPairs (AreApartForEver R) (E ∷ Es))
      (each : All (IsEngineWithin R b) (E ∷ Es)) →
      (all_shed (E ∷ Es) pairs each).settles.0
      ≡ remains R b (endless (All-head (IsEngineWithin R b) E Es each).0)
      (goes_on R b E (All-head (IsEngineWithin R b) E Es each).0 (All-head (IsEngineWithin R b) E Es each).1)
      (steady_ashes R b E (All-head (IsEngineWithin R b) E Es each).0 (All-head (IsEngineWithin R b) E Es each).1) n
      ++ (all_shed Es (AllPairs-tail (AreApartForEver R) E Es pairs) (All-tail (IsEngineWithin R b) E Es each)).settles.0
  unfolding all_shed shed_more debris_falls_apart
  all_shed-more E Es pairs each = refl

  no_element : (Es : List Generation) → length Es ≡ 0 → Es ≡ []
  no_element [] e = refl
  no_element (E ∷ Es) e = absurd (omega arith)

  module _ (G : Generation) (engines : List Generation) (debris : Generation) (growth : IsGrowth R b G engines debris) where
    abbrev pairs : AllPairs (AreApartForEver R) engines
    pairs = AllPairs-tail (AreApartForEver R) debris engines growth.apart

    pub shed : Shed engines
    shed = all_shed engines pairs growth.each

    debris_from_engines : AreApartForEver R debris (union_of engines)
    debris_from_engines =
        apart_from_list R debris engines (AllPairs-head (AreApartForEver R) debris engines growth.apart) pairs

    abbrev old : Generation
    old = generation R debris n

    old_from : AreApartForEver R old (union_of shed.lefts) × All (AreApartForEver R old) shed.cores
    old_from = shed.apart old (AreApartForEver-later R n debris (union_of engines) debris_from_engines)

    pub debris_parts_apart : AllPairs (AreApartForEver R) (old ∷ shed.lefts)
    debris_parts_apart =
        AllPairs-cons (AreApartForEver R) old shed.lefts (apart_from_each R old shed.lefts old_from.0 shed.left_pairs)
        shed.left_pairs

    pub ash_later : List Generation
    ash_later = generations R growth.settles.0 n ++ shed.settles.0

    pub ash_later-parts :
        ash_later ≡ generations R growth.settles.0 n ++ (all_shed engines pairs growth.each).settles.0
    unfolding ash_later shed
    ash_later-parts = refl

    pub ash_later-is : HasFallenApart R b (union_of (old ∷ shed.lefts)) ash_later
    unfolding ash_later
    ash_later-is =
        settles_together R b old (union_of shed.lefts) (generations R growth.settles.0 n) shed.settles.0 old_from.0
        (settles_later R b n debris growth.settles.0 growth.settles.1) shed.settles.1

    pub growth_later : IsGrowth R b (generation R G n) shed.cores (union old (union_of shed.lefts))
    growth_later = record {
      some = λ none.
          growth.some (no_element engines (length_all_zip (AreToldAlike R b b) engines shed.cores shed.alike
          ∙ ap length none));
      together =
          union-assoc old (union_of shed.lefts) (union_of shed.cores) ∙ ap (union old) shed.together
          ∙ sym (generation-union_ever R n debris (union_of engines) debris_from_engines)
          ∙ ap (λ H. generation R H n) growth.together;
      apart = AllPairs-cons (AreApartForEver R) (union old (union_of shed.lefts)) shed.cores
          (λ k d h. both_apart R old (union_of shed.lefts) _ (old_from.1 k d h) (shed.from_left k d h) old_from.0) shed.pairs;
      each = shed.each;
      settles = (ash_later, ash_later-is);
    }

module _ (R : Rule) where
  pub IsGrowth-wider : (b c : ℕ) (G : Generation) (engines : List Generation) (debris : Generation) → b ≤ c →
      IsGrowth R b G engines debris → IsGrowth R c G engines debris
  IsGrowth-wider b c G engines debris le growth = record {
    some = growth.some;
    together = growth.together;
    apart = growth.apart;
    each = λ k d h. let engine = growth.each k d h in (engine.0, IsEngine-wider R b c _ engine.0 le engine.1);
    settles = FallsApart-wider R b c debris le growth.settles;
  }

  pub growth_sooner : (b c g : ℕ) (G : Generation) (engines : List Generation) (debris : Generation) →
      IsGrowth R b (generation R G g) engines debris → g ≤ c → b ≤ c →
      (Fs : List Generation) × (T : Generation) × IsGrowth R c (generation R G c) Fs T
      × AllZip (AreToldAlike R b c) engines Fs
  growth_sooner b c g G engines debris growth early le =
      let n : ℕ = c - g in
      let H = generation R G g in
      let more = shed R b n H engines debris growth in
      let T = union (generation R debris n) (union_of more.lefts) in (
        more.cores,
        T,
        subst (λ K. IsGrowth R c K more.cores T)
            (generation-add R G g n ∙ ap (generation R G) (let e : g + n ≡ c = omega arith in e))
            (IsGrowth-wider b c (generation R H n) more.cores T le (growth_later R b n H engines debris growth)),
        all_told_alike-wider R b c engines more.cores le more.alike,
      )
