-- A pattern has one growth, and what grows never falls apart.
use Rattle.std.proofs.Common.{◌≡◌, ◌≢◌, ℕ, ◌+◌, true, List, [], ◌∷◌, inl, inr, sym, refl, ap, subst, ◌∙◌, arith}
use Rattle.std.specs.List.{AllPairs, Contains}
use Rattle.std.specs.List.Sorted.{IsPermutation}
use Rattle.std.proofs.lemmas.List.Elements.{All-contains}
use Rattle.life_model.specs.Cell.{Cell}
use Rattle.life_model.specs.Rule.{Rule}
use Rattle.life_model.specs.Generation.{Generation, contains, size}
use Rattle.life_model.specs.Evolution.{generation}
use Rattle.life_model.proofs.Moves.{nothing_or_some}
use Rattle.life_model.proofs.Recurrences.{generation-add}
use Rattle.life_objects.specs.Apart.{AreApartForEver}
use Rattle.life_objects.specs.Union.{IsSubsetOf, union_of}
use Rattle.life_objects.proofs.Lists.{AllDiffer, AllPairs-head, AllPairs-tail, Contains-head, Contains-later, head_or_later, related_or_same, same_elements, set_aside}
use Rattle.life_objects.proofs.Members.{found_now}
use Rattle.life_objects.proofs.OneList.{apart_differ, apart_from_list, union_of-IsPermutation}
use Rattle.life_objects.proofs.Sides.{within_each_other}
use Rattle.life_objects.proofs.Times.{AreApartForEver-swap}
use Rattle.life_growth.specs.Engine.{FallsApart, IsEngine, IsEngineWithin, Way}
use Rattle.life_growth.specs.Growth.{IsGrowth}
use Rattle.life_growth.specs.Onward.{endless}
use Rattle.life_growth.specs.Population.{HasBound, HasNoBound}
use Rattle.life_growth.specs.Told.{AreToldAlike}
use Rattle.life_growth.specs.Unsplit.{IsUnsplit}
use Rattle.life_growth.proofs.Bounds.{not_within_a_bound, what_settles_has_a_bound}
use Rattle.life_growth.proofs.Emitting.{told_alike}
use Rattle.life_growth.proofs.Endless.{core_first, goes_on}
use Rattle.life_growth.proofs.Growing.{first_has_no_bound}
use Rattle.life_growth.proofs.Parts.{IsPart, disjoint_now, in_one, part_within}

module _ (R : Rule) where
  -- ---- engines

  pub IsUnsplit-engine : (b : ℕ) (E : Generation) (way : Way) → IsEngine R b E way → IsUnsplit R b E
  IsUnsplit-engine b E way engine = subst (IsUnsplit R b) engine.start (engine.whole 0 (omega arith))

  pub engine_has_no_bound : (b : ℕ) (E : Generation) (way : Way) → IsEngine R b E way → HasNoBound R E
  engine_has_no_bound b E way engine =
      subst (HasNoBound R) (core_first R b E way engine 0 (omega arith) ∙ engine.start)
      (first_has_no_bound R b (endless way) (goes_on R b E way engine))

  -- ---- lists of sets that stay apart

  pub IsPart-list : (Xs : List Generation) → AllPairs (AreApartForEver R) Xs → (X : Generation) → Contains Xs X →
      IsPart R X (union_of Xs)
  IsPart-list Xs pairs X one =
      let aside = set_aside (AreApartForEver R) (AreApartForEver-swap R) Xs X one pairs in
      record {
        rest = union_of aside.rest;
        together = sym (union_of-IsPermutation Xs (X ∷ aside.rest) aside.order);
        apart = apart_from_list R X aside.rest aside.related aside.pairs;
      }

  module _ (b : ℕ) (G : Generation) (engines : List Generation) (debris : Generation)
      (growth : IsGrowth R b G engines debris) where
    pub IsPart-growth : (X : Generation) → Contains (debris ∷ engines) X → IsPart R X G
    IsPart-growth X one = subst (IsPart R X) growth.together (IsPart-list (debris ∷ engines) growth.apart X one)

    pub engine_of : (E : Generation) → Contains engines E → IsEngineWithin R b E
    engine_of E one = All-contains (IsEngineWithin R b) engines E growth.each one

    pub unsplit_of : (E : Generation) → Contains engines E → IsUnsplit R b E
    unsplit_of E one = let engine = engine_of E one in IsUnsplit-engine b E engine.0 engine.1

    pub grows_of : (E : Generation) → Contains engines E → HasNoBound R E
    grows_of E one = let engine = engine_of E one in engine_has_no_bound b E engine.0 engine.1

    pub engines_apart : AllPairs (AreApartForEver R) engines
    engines_apart = AllPairs-tail (AreApartForEver R) debris engines growth.apart

    pub engines_differ : AllDiffer engines
    engines_differ i j d h k =
        let engine = growth.each i d (omega arith) in
        apart_differ R _ _ (IsUnsplit-engine b _ engine.0 engine.1).nonempty (engines_apart i j d h k)

    pub cell_of : (c : Cell) → contains G c ≡ true → (X : Generation) × Contains (debris ∷ engines) X × (contains X c ≡ true)
    cell_of c h = found_now R (debris ∷ engines) c (ap (λ H. contains H c) growth.together ∙ h)

  -- ---- two growths

  module _ (b c : ℕ) (G : Generation) (Es : List Generation) (S : Generation) (Fs : List Generation) (T : Generation)
      (growth : IsGrowth R b G Es S) (too : IsGrowth R c G Fs T) where
    -- an engine of one growth lies in a set of the other with which it shares a cell
    lies_where_it_meets : (E : Generation) → Contains Es E → (X : Generation) → Contains (T ∷ Fs) X → (q : Cell) →
        contains E q ≡ true → contains X q ≡ true → IsPart R E X
    lies_where_it_meets E one X two q h k =
        let e = IsPart-growth b G Es S growth E (Contains-later S E Es one) in
        let x = IsPart-growth c G Fs T too X two in
        elim (in_one R b E e.rest e.apart (unsplit_of b G Es S growth E one) X x.rest x.apart
        (e.together ∙ sym x.together)) [
          | inl part ↦ part
          | inr part ↦ absurd (disjoint_now R X x.rest x.apart q k (part_within R E x.rest part q h))
        ]

    pub lies_in : (E : Generation) → Contains Es E → (q : Cell) → contains E q ≡ true →
        (F : Generation) × Contains Fs F × IsPart R E F
    lies_in E one q h =
        let whole = part_within R E G (IsPart-growth b G Es S growth E (Contains-later S E Es one)) in
        let X = cell_of c G Fs T too q (whole q h) in
        let part = lies_where_it_meets E one X.0 X.1 q h X.2 in
        elim (head_or_later T X.0 Fs X.1.0 X.1.1 X.1.2) [
          | inl e ↦ absurd (not_within_a_bound R E T (subst (IsPart R E) (sym e) part)
              (what_settles_has_a_bound R c T too.settles) (grows_of b G Es S growth E one))
          | inr other ↦ (X.0, other, part)
        ]

  module _ (b c : ℕ) (G : Generation) (Es : List Generation) (S : Generation) (Fs : List Generation) (T : Generation)
      (growth : IsGrowth R b G Es S) (too : IsGrowth R c G Fs T) where
    engine_of_other : (E : Generation) → Contains Es E → Contains Fs E
    engine_of_other E one =
        elim (nothing_or_some E) [
          | inl none ↦ absurd ((unsplit_of b G Es S growth E one).nonempty none)
          | inr some ↦
              let F = lies_in b c G Es S Fs T growth too E one some.0 some.1 in
              let in_f = part_within R E F.0 F.2 some.0 some.1 in
              let K = lies_in c b G Fs T Es S too growth F.0 F.1 some.0 in_f in
              elim (related_or_same (AreApartForEver R) (AreApartForEver-swap R) Es E K.0 one K.1
              (engines_apart b G Es S growth)) [
                | inl far ↦ absurd (disjoint_now R E K.0 far some.0 some.1 (part_within R F.0 K.0 K.2 some.0 in_f))
                | inr same ↦
                    subst (Contains Fs)
                    (within_each_other F.0 E (subst (IsSubsetOf F.0) (sym same) (part_within R F.0 K.0 K.2))
                    (part_within R E F.0 F.2)) F.1
              ]
        ]

  module _ (b c : ℕ) (G : Generation) (Es : List Generation) (S : Generation) (Fs : List Generation) (T : Generation)
      (growth : IsGrowth R b G Es S) (too : IsGrowth R c G Fs T) where
    pub one_list_of_engines : IsPermutation Es Fs
    one_list_of_engines =
        same_elements Es Fs (engines_differ b G Es S growth) (engines_differ c G Fs T too)
        (engine_of_other b c G Es S Fs T growth too) (engine_of_other c b G Fs T Es S too growth)

    debris_within : IsSubsetOf S T
    debris_within q h =
        let whole = part_within R S G (IsPart-growth b G Es S growth S (Contains-head S Es)) in
        let X = cell_of c G Fs T too q (whole q h) in
        elim (head_or_later T X.0 Fs X.1.0 X.1.1 X.1.2) [
          | inl e ↦ ap (λ H. contains H q) e ∙ X.2
          | inr other ↦
              absurd (disjoint_now R S X.0
              (All-contains (AreApartForEver R S) Es X.0 (AllPairs-head (AreApartForEver R) S Es growth.apart)
              (engine_of_other c b G Fs T Es S too growth X.0 other)) q h X.2)
        ]

  pub one_debris : (b c : ℕ) (G : Generation) (Es : List Generation) (S : Generation) (Fs : List Generation)
      (T : Generation) → IsGrowth R b G Es S → IsGrowth R c G Fs T → S ≡ T
  one_debris b c G Es S Fs T growth too =
      within_each_other S T (debris_within b c G Es S Fs T growth too) (debris_within c b G Fs T Es S too growth)

  -- ---- growth or ash

  HasBound-later : (P : Generation) (n : ℕ) → HasBound R P → HasBound R (generation R P n)
  HasBound-later P n bound = (
    bound.0,
    λ m.
        let e : size (generation R (generation R P n) m) ≡ size (generation R P (n + m)) = ap size (generation-add R P n m) in
        let h = bound.1 (n + m) in
        omega arith,
  )

  pub some_element : (Es : List Generation) → Es ≢ [] → (E : Generation) × Contains Es E
  some_element [] some = absurd (some refl)
  some_element (E ∷ Es) some = (E, Contains-head E Es)

  pub not_both : (b c g : ℕ) (G : Generation) (Es : List Generation) (S : Generation) → FallsApart R b G →
      IsGrowth R c (generation R G g) Es S → ⊥
  not_both b c g G Es S settles growth =
      let H = generation R G g in
      let E = some_element Es growth.some in
      not_within_a_bound R E.0 H (IsPart-growth c H Es S growth E.0 (Contains-later S E.0 Es E.1))
      (HasBound-later G g (what_settles_has_a_bound R b G settles)) (grows_of c H Es S growth E.0 E.1)

  pub told_of_both : (b c : ℕ) (G : Generation) (Es : List Generation) (S : Generation) (Fs : List Generation)
      (T : Generation) → IsGrowth R b G Es S → IsGrowth R c G Fs T → (E : Generation) → Contains Es E →
      Contains Fs E × AreToldAlike R b c E E
  told_of_both b c G Es S Fs T growth too E one =
      let two = engine_of_other b c G Es S Fs T growth too E one in
      let engine = engine_of b G Es S growth E one in
      let other = engine_of c G Fs T too E two in
      (two, told_alike R b c E engine.0 other.0 engine.1 other.1)
