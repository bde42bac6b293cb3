-- Each growth is found.
use Rattle.std.proofs.Common.{◌≡◌, ◌≢◌, ℕ, suc, ◌-◌, ◌<◌, ◌≤◌, true, not, ◌&&◌, ◌⊎◌, List, [], ◌∷◌, map, filter, get_or, inl, inr, sym, refl, ap, subst, ◌∙◌, true≢false, arith}
use Rattle.std.specs.List.{All, AllPairs, Contains, list_all}
use Rattle.std.specs.List.Sorted.{IsPermutation}
use Rattle.std.proofs.lemmas.Bool.{and_from, and_parts}
use Rattle.std.proofs.lemmas.List.Elements.{All-contains, All-contains_itself, All-weaker, Contains-append_left, Contains-append_right, Contains-append_cases}
use Rattle.std.proofs.lemmas.List.Kept.{AllPairs-cons}
use Rattle.std.proofs.lemmas.List.Sums.{list_all-from_AllPass}
use Rattle.life_model.specs.Rule.{Rule}
use Rattle.life_model.specs.Generation.{Generation, contains, empty}
use Rattle.life_model.proofs.Moves.{nothing_or_some}
use Rattle.life_objects.specs.Apart.{AreApartFor, AreApartForEver}
use Rattle.life_objects.specs.Piece.{IsSplit}
use Rattle.life_objects.specs.Union.{IsSubsetOf, union, union_of}
use Rattle.life_objects.specs.Whole.{StaysWhole}
use Rattle.life_objects.proofs.Dividing.{AreApartFor-swap}
use Rattle.life_objects.proofs.Lists.{AllDiffer, AllPairs-head, AllPairs-nil, AllPairs-tail, Contains-head, Contains-later, head_or_later, related_or_same, same_elements}
use Rattle.life_objects.proofs.Members.{found_now, in_list_now}
use Rattle.life_objects.proofs.OneList.{apart_from_list}
use Rattle.life_objects.proofs.Sides.{within_each_other}
use Rattle.life_objects.proofs.Unions.{in_first, union-assoc, union-empty, union-swap}
use Rattle.std.proofs.lemmas.List.Sorted.{Contains-permutation}
use Rattle.life_objects.specs.Decided.Classes.{classes}
use Rattle.life_objects.specs.Decided.Tests.{each_below}
use Rattle.life_objects.proofs.DecidedLemmas.Kept.{Contains-filter, Contains-map, of_filter}
use Rattle.life_objects.proofs.DecidedLemmas.Tests.{each_below_tells, true_not, not_true}
use Rattle.life_objects.proofs.Found.{of_map}
use Rattle.life_growth.specs.Engine.{FallsApart, IsEngineWithin}
use Rattle.life_growth.specs.Growth.{IsGrowth}
use Rattle.life_growth.specs.Unsplit.{AreClasses}
use Rattle.life_growth.proofs.Classes.{engine_is_a_class}
use Rattle.life_growth.proofs.OneGrowth.{engine_of, engines_differ, some_element, unsplit_of}
use Rattle.life_growth.proofs.Parts.{disjoint_now}
use Rattle.life_growth.specs.Engines.Tests.{falls_apart}
use Rattle.life_growth.specs.Engines.Tracks.{engine_tracks}
use Rattle.life_growth.specs.Engines.Growths.{divisions, growths_of, is_empty_list, may_be_engine, may_be_growth}
use Rattle.life_growth.proofs.EnginesLemmas.Classes.{are_classes, falls_by_test, test_by_falls}
use Rattle.life_growth.proofs.EnginesLemmas.Tracks.{disjoint_at_once}
use Rattle.life_growth.proofs.EnginesLemmas.Ways.{found_by_engine}

not_empty : {X : Type 0} (xs : List X) (x : X) → Contains xs x → is_empty_list xs ≡ true → ⊥
not_empty [] x one h = let none : one.0 < 0 = one.1 in absurd (omega arith)
not_empty (y ∷ ys) x one h = true≢false (sym h)

some_list : {X : Type 0} (xs : List X) → xs ≢ [] → is_empty_list xs ≡ true → ⊥
some_list [] some h = some refl
some_list (x ∷ xs) some h = true≢false (sym h)

list_is_some : {X : Type 0} (xs : List X) → (is_empty_list xs ≡ true → ⊥) → xs ≢ []
list_is_some xs never e = never (ap is_empty_list e)

-- ---- a list divided by a choice for each element

-- the first sets have S, and the second ones T
record IsDivided (S T : Generation → Type 0) (Ps : List Generation) : Type 0 where
  first : List Generation
  second : List Generation
  of : Contains (divisions Ps) (first, second)
  firsts : (P : Generation) → Contains first P → S P × Contains Ps P
  seconds : (P : Generation) → Contains second P → T P × Contains Ps P
  either : (P : Generation) → Contains Ps P → Contains first P ⊎ Contains second P
  differ : AllDiffer first

more_of : (S : Generation → Type 0) (P : Generation) (Ps Qs : List Generation) → S P →
    ((Q : Generation) → Contains Qs Q → S Q × Contains Ps Q) → (Q : Generation) → Contains (P ∷ Qs) Q →
    S Q × Contains (P ∷ Ps) Q
more_of S P Ps Qs s all Q one =
    elim (head_or_later P Q Qs one.0 one.1 one.2) [
      | inl e ↦ (subst S e s, subst (Contains (P ∷ Ps)) e (Contains-head P Ps))
      | inr later ↦ let h = all Q later in (h.0, Contains-later P Q Ps h.1)
    ]

later_of : (S : Generation → Type 0) (P : Generation) (Ps Qs : List Generation) →
    ((Q : Generation) → Contains Qs Q → S Q × Contains Ps Q) → (Q : Generation) → Contains Qs Q →
    S Q × Contains (P ∷ Ps) Q
later_of S P Ps Qs all Q one = let h = all Q one in (h.0, Contains-later P Q Ps h.1)

module _ (S T : Generation → Type 0) where
  abbrev to_first : Generation → List Generation × List Generation → List Generation × List Generation
  to_first P d = (P ∷ d.0, d.1)

  abbrev to_second : Generation → List Generation × List Generation → List Generation × List Generation
  to_second P d = (d.0, P ∷ d.1)

  divided : (Ps : List Generation) → AllDiffer Ps → ((P : Generation) → Contains Ps P → S P ⊎ T P) → IsDivided S T Ps
  divided [] differ choice = record {
    first = [];
    second = [];
    of = Contains-head ([], []) [];
    firsts = λ P one. let none : one.0 < 0 = one.1 in absurd (omega arith);
    seconds = λ P one. let none : one.0 < 0 = one.1 in absurd (omega arith);
    either = λ P one. inl one;
    differ = AllPairs-nil (λ P Q. P ≢ Q);
  }
  divided (P ∷ Ps) differ choice =
      let rest = divided Ps (AllPairs-tail (λ P Q. P ≢ Q) P Ps differ) (λ Q one. choice Q (Contains-later P Q Ps one)) in
      elim (choice P (Contains-head P Ps)) [
        | inl s ↦ record {
          first = P ∷ rest.first;
          second = rest.second;
          of = Contains-append_left (map (to_first P) (divisions Ps)) (map (to_second P) (divisions Ps))
              (P ∷ rest.first, rest.second)
              (Contains-map (to_first P) (divisions Ps) (rest.first, rest.second) rest.of);
          firsts = more_of S P Ps rest.first s rest.firsts;
          seconds = later_of T P Ps rest.second rest.seconds;
          either = λ Q one. elim (head_or_later P Q Ps one.0 one.1 one.2) [
            | inl e ↦ inl (subst (Contains (P ∷ rest.first)) e (Contains-head P rest.first))
            | inr later ↦ elim (rest.either Q later) [
              | inl x ↦ inl (Contains-later P Q rest.first x)
              | inr y ↦ inr y
            ]
          ];
          differ = AllPairs-cons (λ P Q. P ≢ Q) P rest.first
              (All-weaker (Contains rest.first) (λ Q. P ≢ Q)
              (λ Q one. All-contains (λ Q. P ≢ Q) Ps Q (AllPairs-head (λ P Q. P ≢ Q) P Ps differ) (rest.firsts Q one).1)
              rest.first (All-contains_itself rest.first)) rest.differ;
        }
        | inr t ↦ record {
          first = rest.first;
          second = P ∷ rest.second;
          of = Contains-append_right (map (to_first P) (divisions Ps)) (map (to_second P) (divisions Ps))
              (rest.first, P ∷ rest.second)
              (Contains-map (to_second P) (divisions Ps) (rest.first, rest.second) rest.of);
          firsts = later_of S P Ps rest.first rest.firsts;
          seconds = more_of T P Ps rest.second t rest.seconds;
          either = λ Q one. elim (head_or_later P Q Ps one.0 one.1 one.2) [
            | inl e ↦ inr (subst (Contains (P ∷ rest.second)) e (Contains-head P rest.second))
            | inr later ↦ elim (rest.either Q later) [
              | inl x ↦ inl x
              | inr y ↦ inr (Contains-later P Q rest.second y)
            ]
          ];
          differ = rest.differ;
        }
      ]

-- what a division divides
module _ (R : Rule) where
  divisions_together : (Ps : List Generation) (d : List Generation × List Generation) → Contains (divisions Ps) d →
      union (union_of d.1) (union_of d.0) ≡ union_of Ps
  divisions_together [] d one =
      elim (head_or_later ([], []) d [] one.0 one.1 one.2) [
        | inl e ↦
            ap (λ (d : List Generation × List Generation). union (union_of d.1) (union_of d.0)) (sym e) ∙ union-empty empty
        | inr later ↦ let none : later.0 < 0 = later.1 in absurd (omega arith)
      ]
  divisions_together (P ∷ Ps) d one =
      elim (Contains-append_cases (map (λ d. (P ∷ d.0, d.1)) (divisions Ps)) (map (λ d. (d.0, P ∷ d.1)) (divisions Ps)) d one) [
        | inl x ↦
            let e = of_map (λ d. (P ∷ d.0, d.1)) (divisions Ps) d x in
            ap (λ (d : List Generation × List Generation). union (union_of d.1) (union_of d.0)) (sym e.2)
            ∙ union-swap (union_of e.0.1) P (union_of e.0.0) ∙ ap (union P) (divisions_together Ps e.0 e.1)
        | inr y ↦
            let e = of_map (λ d. (d.0, P ∷ d.1)) (divisions Ps) d y in
            ap (λ (d : List Generation × List Generation). union (union_of d.1) (union_of d.0)) (sym e.2)
            ∙ union-assoc P (union_of e.0.1) (union_of e.0.0) ∙ ap (union P) (divisions_together Ps e.0 e.1)
      ]

module _ (R : Rule) (b : ℕ) where
  may_be_by_engine : (E : Generation) → IsEngineWithin R b E → may_be_engine R b E ≡ true
  may_be_by_engine E engine =
      let way = engine.0 in
      let p : ℕ = way.period in
      let one : 1 ≤ p = engine.1.later in
      let within : p ≤ b = engine.1.within in
      let found = found_by_engine R b E way engine.1 in
      true_not (each_below (λ n. is_empty_list (engine_tracks R b (suc n) E)) b) (λ all.
      not_empty (engine_tracks R b p E) found.0 found.1
      (ap (λ k. is_empty_list (engine_tracks R b k E)) (let e : p ≡ suc (p - 1) = omega arith in e)
      ∙ each_below_tells (λ n. is_empty_list (engine_tracks R b (suc n) E)) b (p - 1) all (omega arith)))

  module _ (G : Generation) (Es : List Generation) (S : Generation) (growth : IsGrowth R b G Es S) where
    abbrev Ps : List Generation
    Ps = classes R G (suc b)

    abbrev are : AreClasses R b G Ps
    are = are_classes R b G

    from_engines : AreApartForEver R S (union_of Es)
    from_engines =
        apart_from_list R S Es (AllPairs-head (AreApartForEver R) S Es growth.apart)
        (AllPairs-tail (AreApartForEver R) S Es growth.apart)

    -- each class is an engine, or is in the debris
    engine_or_debris : (C : Generation) → Contains Ps C → Contains Es C ⊎ IsSubsetOf C S
    engine_or_debris C one =
        let split : IsSplit R b G S (union_of Es) = record { together = growth.together; apart = λ n h. from_engines n } in
        elim (All-contains (StaysWhole R b G) Ps C are.whole one S (union_of Es) split) [
          | inl within ↦ inr within
          | inr within ↦ elim (nothing_or_some C) [
            | inl none ↦ absurd (All-contains (λ P. P ≢ empty) Ps C are.nonempty one none)
            | inr cell ↦
                let E = found_now R Es cell.0 (within cell.0 cell.1) in
                elim (related_or_same (AreApartFor R b) (AreApartFor-swap R b) Ps C E.0 one
                (engine_is_a_class R b G Es S Ps growth are E.0 E.1) are.apart) [
                  | inl far ↦ absurd (disjoint_at_once R b C E.0 far cell.0 cell.1 E.2)
                  | inr same ↦ inl (subst (Contains Es) (sym same) E.1)
                ]
          ]
        ]

    classes_differ : AllDiffer Ps
    classes_differ i j d h k same =
        elim (nothing_or_some (get_or Ps i d)) [
          | inl none ↦ are.nonempty i d (omega arith) none
          | inr cell ↦ disjoint_at_once R b (get_or Ps i d) (get_or Ps j d) (are.apart i j d h k) cell.0 cell.1
              (ap (λ H. contains H cell.0) (sym same) ∙ cell.1)
        ]

    parted : IsDivided (Contains Es) (λ C. IsSubsetOf C S) Ps
    parted = divided (Contains Es) (λ C. IsSubsetOf C S) Ps classes_differ engine_or_debris

    not_in_debris : (E : Generation) → Contains Es E → IsSubsetOf E S → ⊥
    not_in_debris E one within =
        elim (nothing_or_some E) [
          | inl none ↦ (unsplit_of R b G Es S growth E one).nonempty none
          | inr cell ↦ disjoint_now R S (union_of Es) from_engines cell.0 (within cell.0 cell.1)
              (in_list_now R Es E cell.0 one cell.1)
        ]

    same_engines : IsPermutation Es parted.first
    same_engines =
        same_elements Es parted.first (engines_differ R b G Es S growth) parted.differ
        (λ E one. elim (parted.either E (engine_is_a_class R b G Es S Ps growth are E one)) [
          | inl x ↦ x
          | inr y ↦ absurd (not_in_debris E one (parted.seconds E y).0)
        ])
        (λ E one. (parted.firsts E one).0)

    same_debris : union_of parted.second ≡ S
    same_debris =
        within_each_other (union_of parted.second) S
        (λ c h. let C = found_now R parted.second c h in (parted.seconds C.0 C.1).0 c C.2)
        (λ c h.
        let C = found_now R Ps c (ap (λ H. contains H c) (are.together ∙ sym growth.together) ∙ in_first S (union_of Es) c h) in
        elim (parted.either C.0 C.1) [
          | inl x ↦ absurd (disjoint_now R S (union_of Es) from_engines c h
              (in_list_now R Es C.0 c (parted.firsts C.0 x).0 C.2))
          | inr y ↦ in_list_now R parted.second C.0 c y C.2
        ])

    passes : may_be_growth R b (parted.first, parted.second) ≡ true
    passes =
        and_from (not (is_empty_list parted.first))
        (list_all (may_be_engine R b) parted.first && falls_apart R b (union_of parted.second))
        (true_not (is_empty_list parted.first) (λ none.
        let E = some_element R Es growth.some in
        not_empty parted.first E.0 (Contains-permutation Es parted.first E.0 same_engines E.1) none))
        (and_from (list_all (may_be_engine R b) parted.first) (falls_apart R b (union_of parted.second))
        (list_all-from_AllPass (may_be_engine R b) parted.first
        (All-weaker (Contains parted.first) (λ E. may_be_engine R b E ≡ true)
        (λ E one. may_be_by_engine E (engine_of R b G Es S growth E (parted.firsts E one).0)) parted.first
        (All-contains_itself parted.first)))
        (test_by_falls R b (union_of parted.second) (subst (FallsApart R b) (sym same_debris) growth.settles)))

    pub growth_found : (found : List Generation) × Contains (growths_of R b G) (found, S) × IsPermutation Es found
    unfolding growths_of
    growth_found = (
      parted.first,
      subst (λ H. Contains (growths_of R b G) (parted.first, H)) same_debris
          (Contains-map (λ d. (d.0, union_of d.1)) (filter (may_be_growth R b) (divisions Ps)) (parted.first, parted.second)
          (Contains-filter (may_be_growth R b) (divisions Ps) (parted.first, parted.second) parted.of passes)),
      same_engines,
    )

    pub found_once : AllDiffer growth_found.0
    unfolding growth_found
    found_once = parted.differ

  -- ---- what is found

  pub found_settles : (G : Generation) (Es : List Generation) (S : Generation) → Contains (growths_of R b G) (Es, S) →
      FallsApart R b S
  unfolding growths_of
  found_settles G Es S one =
      let Ps = classes R G (suc b) in
      let d = of_map (λ d. (d.0, union_of d.1)) (filter (may_be_growth R b) (divisions Ps)) (Es, S) one in
      let kept = of_filter (may_be_growth R b) (divisions Ps) d.0 d.1 in
      let parts = and_parts (not (is_empty_list d.0.0)) (list_all (may_be_engine R b) d.0.0 && falls_apart R b (union_of d.0.1)) kept.1 in
      let more = and_parts (list_all (may_be_engine R b) d.0.0) (falls_apart R b (union_of d.0.1)) parts.1 in
      subst (FallsApart R b) (ap (λ (e : List Generation × Generation). e.1) d.2) (falls_by_test R b (union_of d.0.1) more.1)

  pub found_is_growth : (G : Generation) (Es : List Generation) (S : Generation) → Contains (growths_of R b G) (Es, S) →
      All (IsEngineWithin R b) Es → AllPairs (AreApartForEver R) (S ∷ Es) → IsGrowth R b G Es S
  unfolding growths_of
  found_is_growth G Es S one each pairs =
      let Ps = classes R G (suc b) in
      let d = of_map (λ d. (d.0, union_of d.1)) (filter (may_be_growth R b) (divisions Ps)) (Es, S) one in
      let kept = of_filter (may_be_growth R b) (divisions Ps) d.0 d.1 in
      let parts = and_parts (not (is_empty_list d.0.0)) (list_all (may_be_engine R b) d.0.0 && falls_apart R b (union_of d.0.1)) kept.1 in
      let firsts : d.0.0 ≡ Es = ap (λ (e : List Generation × Generation). e.0) d.2 in
      let seconds : union_of d.0.1 ≡ S = ap (λ (e : List Generation × Generation). e.1) d.2 in
      record {
        some = subst (λ Qs. Qs ≢ []) firsts (list_is_some d.0.0 (not_true (is_empty_list d.0.0) parts.0));
        together =
            (λ i. union (sym seconds i) (union_of (sym firsts i))) ∙ divisions_together R Ps d.0 kept.0
            ∙ (are_classes R b G).together;
        apart = pairs;
        each = each;
        settles = found_settles G Es S one;
      }
