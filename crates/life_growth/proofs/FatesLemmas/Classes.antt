-- Which classes of a pattern are its engines.
use Rattle.std.proofs.Common.{◌≡◌, ◌≢◌, ℕ, suc, ◌+◌, ◌*◌, ◌<◌, ◌≤◌, true, List, [], ◌∷◌, get_or, inl, inr, sym, refl, ap, subst, ◌∙◌, arith}
use Rattle.std.specs.List.{All, AllPairs, Contains}
use Rattle.std.specs.List.Sorted.{IsPermutation}
use Rattle.std.proofs.lemmas.List.Elements.{All-contains, All-contains_itself, All-weaker, Contains-get_or}
use Rattle.std.proofs.lemmas.List.Kept.{AllPairs-cons}
use Rattle.life_model.specs.Cell.{Cell}
use Rattle.life_model.specs.Rule.{Rule}
use Rattle.life_model.specs.Generation.{Generation, contains, empty, size}
use Rattle.life_model.specs.Evolution.{generation}
use Rattle.life_model.proofs.Moves.{nothing_or_some}
use Rattle.life_model.proofs.Recurrences.{generation-add}
use Rattle.life_objects.specs.Apart.{AreApart, AreApartFor, AreApartForEver}
use Rattle.life_objects.specs.Piece.{IsSplit, LivesThrough}
use Rattle.life_objects.specs.Union.{IsSubsetOf, union, union_of}
use Rattle.life_objects.specs.Whole.{IsCore}
use Rattle.life_objects.proofs.Cores.{part_around}
use Rattle.life_objects.proofs.Dividing.{AreApartFor-swap, apart_from_rest}
use Rattle.life_objects.proofs.Lists.{AllPairs-head, same_elements, Contains-head, head_or_later, related_or_same, set_aside}
use Rattle.life_objects.proofs.Members.{found_now, in_list_now}
use Rattle.life_objects.proofs.OneList.{union_of-IsPermutation}
use Rattle.life_objects.proofs.Sides.{AreSides, first_side, split_disjoint, within_each_other}
use Rattle.life_objects.proofs.Times.{AreApartForEver-swap, before_from_while, generation-union}
use Rattle.life_objects.proofs.Unions.{in_union, union-assoc}
use Rattle.life_objects.proofs.Staying.{the_sides}
use Rattle.life_objects.specs.Decided.Classes.{classes}
use Rattle.life_growth.specs.Fates.Picked.{ArePicked}
use Rattle.life_growth.proofs.EnginesLemmas.Classes.{are_classes}
use Rattle.life_growth.specs.Engine.{FallsApart, IsEngine, IsEngineWithin, Way}
use Rattle.life_growth.specs.Growth.{IsGrowth}
use Rattle.life_growth.specs.Onward.{debris_after, endless}
use Rattle.life_growth.specs.Population.{HasBound, HasNoBound}
use Rattle.life_growth.specs.Unsplit.{AreClasses}
use Rattle.life_growth.proofs.Bounds.{HasBound-ash, HasBound-sooner, size_part, what_settles_has_a_bound}
use Rattle.life_growth.proofs.Classes.{engine_is_a_class, unsplit_is_a_class}
use Rattle.life_growth.proofs.Endless.{goes_on}
use Rattle.life_growth.proofs.Growing.{core_has_no_bound}
use Rattle.life_growth.proofs.Lasting.{IsGrowth-wider, core_from_debris, core_part, debris_part, engine_becomes}
use Rattle.life_growth.proofs.OneGrowth.{IsPart-growth, cell_of, engine_of, engines_apart, engines_differ, some_element}
use Rattle.life_growth.proofs.Parts.{IsPart, disjoint_now, part_within, part_within_later}
use Rattle.life_growth.proofs.Settling.{IsPart-ash, settles_empty}

module _ (R : Rule) (b : ℕ) where
  -- ---- what falls apart has no engine

  module _ (S C D : Generation) (settles : FallsApart R b S) (split : IsSplit R (2 * b) S C D) (way : Way)
      (engine : IsEngine R b C way) where
    abbrev core : Generation
    core = (endless way).core b

    abbrev debris : Generation
    debris = debris_after R way b

    abbrev late : Generation
    late = generation R D b

    abbrev rest : Generation
    rest = union debris late

    late_apart : (n : ℕ) → n ≤ b → AreApart (generation R (generation R C b) n) (generation R late n)
    late_apart n h c d x y near =
        split.apart (b + n) (omega arith) c d (ap (λ H. contains H c) (sym (generation-add R C b n)) ∙ x)
        (ap (λ H. contains H d) (sym (generation-add R D b n)) ∙ y) near

    old_apart : AreApartFor R b debris late
    old_apart n h c d x y near =
        late_apart n h c d (part_within_later R debris (generation R C b) (debris_part R b b C way engine) n c x) y near

    made : union core rest ≡ generation R S b
    made =
        sym (union-assoc core debris late) ∙ ap (λ H. union H late) (sym (engine_becomes R b b C way engine))
        ∙ sym (generation-union R b C D (before_from_while R (2 * b) b C D split.apart (omega arith)))
        ∙ ap (λ H. generation R H b) split.together

    apart_now : (n : ℕ) → n ≤ b → AreApart (generation R core n) (generation R rest n)
    apart_now n h c d x y near =
        let both = ap (λ H. contains H d)
        (sym (generation-union R n debris late (before_from_while R b n debris late old_apart (omega arith)))) ∙ y in
        elim (in_union (generation R debris n) (generation R late n) d both) [
          | inl old ↦ core_from_debris R b b C way engine n c d x old near
          | inr new ↦ late_apart n h c d
              (part_within_later R core (generation R C b) (core_part R b b C way engine) n c x) new near
        ]

    core_is_split : IsSplit R b (generation R S b) core rest
    core_is_split = record { together = made; apart = apart_now }

    abbrev its_classes : List Generation
    its_classes = classes R (generation R S b) (suc b)

    classes_are : AreClasses R b (generation R S b) its_classes
    classes_are = are_classes R b (generation R S b)

    is_a_class : Contains its_classes core
    is_a_class =
        unsplit_is_a_class R b (generation R S b) its_classes classes_are core rest
        ((goes_on R b C way engine).whole b) core_is_split

    grows : HasNoBound R core
    grows = core_has_no_bound R b (endless way) (goes_on R b C way engine) b

    -- the end of the core has no bound
    no_bound : HasBound R (generation R core b) → ⊥
    no_bound bound =
        let all = HasBound-sooner R core b bound in
        let x = grows (suc all.0) in
        let many : suc all.0 ≤ size (generation R core x.0) = x.1 in
        let few : size (generation R core x.0) ≤ all.0 = all.1 x.0 in
        absurd (omega arith)

    lives : LivesThrough R b core
    lives gone =
        no_bound (subst (HasBound R) (sym gone) (what_settles_has_a_bound R b empty ([], settles_empty R b)))

    part : (P : Generation) × Contains settles.0 P × IsCore R b core P
    part =
        part_around R b (generation R S b) settles.0 its_classes settles.1 classes_are.together classes_are.whole
        classes_are.apart core is_a_class lives

    part_has_a_bound : HasBound R part.0
    part_has_a_bound =
        let all = HasBound-ash R b (generation R S b) settles.0 settles.1 in (
          all.0,
          λ n.
              let le = size_part R part.0 (generation R S b) (IsPart-ash R b (generation R S b) settles.0 settles.1 part.0 part.1) n in
              let few : size (generation R (generation R S b) n) ≤ all.0 = all.1 n in
              omega arith,
        )

    pub no_engine_in_debris : ⊥
    no_engine_in_debris =
        no_bound (subst (HasBound R) (part.2.later b (omega arith)) (
          part_has_a_bound.0,
          λ n. subst (λ H. size H ≤ part_has_a_bound.0) (sym (generation-add R part.0 b n)) (part_has_a_bound.1 (b + n)),
        ))

module _ (R : Rule) (b : ℕ) (G : Generation) (Es : List Generation) (S : Generation) (growth : IsGrowth R b G Es S)
    (far : ℕ) (long : 2 * b ≤ far) (Ps : List Generation) (classes : AreClasses R far G Ps) where
  -- ---- the classes that are engines

  wider : IsGrowth R far G Es S
  wider = IsGrowth-wider R b far G Es S (omega arith) growth

  pub is_class : (E : Generation) → Contains Es E → Contains Ps E
  is_class E one = engine_is_a_class R far G Es S Ps wider classes E one

  abbrev IsSome : Generation → Type 0
  IsSome P = P ≢ empty

  some_of : (P : Generation) → Contains Ps P → (c : Cell) × (contains P c ≡ true)
  some_of P one =
      elim (nothing_or_some P) [
        | inl none ↦ absurd (All-contains IsSome Ps P classes.nonempty one none)
        | inr some ↦ some
      ]

  in_pattern : (P : Generation) → Contains Ps P → IsSubsetOf P G
  in_pattern P one c h = ap (λ H. contains H c) (sym classes.together) ∙ in_list_now R Ps P c one h

  -- two classes that share a cell are one
  pub same_class : (P Q : Generation) (c : Cell) → Contains Ps P → Contains Ps Q → contains P c ≡ true →
      contains Q c ≡ true → P ≡ Q
  same_class P Q c one two h k =
      elim (related_or_same (AreApartFor R far) (AreApartFor-swap R far) Ps P Q one two classes.apart) [
        | inl apart ↦
            absurd (split_disjoint R far (union P Q) P Q (record { together = refl; apart = apart }) c h k)
        | inr same ↦ same
      ]

  debris_part_of : IsPart R S G
  debris_part_of = IsPart-growth R b G Es S growth S (Contains-head S Es)

  debris_split : IsSplit R far G S debris_part_of.rest
  debris_split = record { together = debris_part_of.together; apart = λ n h. debris_part_of.apart n }

  -- the classes that make up the debris, and the others
  its_sides : AreSides (AreApartFor R far) S debris_part_of.rest Ps
  its_sides = the_sides R far G Ps classes.together classes.whole (AreApartFor R far) classes.apart S debris_part_of.rest debris_split

  is_inside : (P : Generation) → Contains Ps P → (c : Cell) → contains P c ≡ true → contains S c ≡ true →
      Contains its_sides.first P
  is_inside P one c h k =
      elim (its_sides.either P one) [
        | inl first ↦ first
        | inr second ↦
            absurd (disjoint_now R S debris_part_of.rest debris_part_of.apart c k
            (All-contains (λ Q. IsSubsetOf Q debris_part_of.rest) its_sides.second P its_sides.second_within second c h))
      ]

  -- no class in the debris is an engine
  no_engine_inside : (P : Generation) → Contains Ps P → (c : Cell) → contains P c ≡ true → contains S c ≡ true →
      IsEngineWithin R b P → ⊥
  no_engine_inside P one c h k engine =
      let aside = set_aside (AreApartFor R far) (AreApartFor-swap R far) its_sides.first P (is_inside P one c h k)
      its_sides.first_pairs in
      let all : union P (union_of aside.rest) ≡ S =
      sym (first_side R far G S debris_part_of.rest debris_split (AreApartFor R far) Ps classes.together its_sides
      ∙ union_of-IsPermutation its_sides.first (P ∷ aside.rest) aside.order) in
      let apart : AreApartFor R far P (union_of aside.rest) = apart_from_rest R far P aside.rest aside.related aside.pairs in
      no_engine_in_debris R b S P (union_of aside.rest) growth.settles
      (record { together = all; apart = λ n le. apart n (omega arith) }) engine.0 engine.1

  -- ---- those that are picked

  module _ (Fs Os : List Generation) (picked : ArePicked R b Ps Fs Os) where
    found_engine : (F : Generation) → Contains Fs F → Contains Es F
    found_engine F one =
        let here = picked.engines_of F one in
        let cell = some_of F here in
        let X = cell_of R b G Es S growth cell.0 (in_pattern F here cell.0 cell.1) in
        elim (head_or_later S X.0 Es X.1.0 X.1.1 X.1.2) [
          | inl e ↦ absurd (no_engine_inside F here cell.0 cell.1 (ap (λ H. contains H cell.0) e ∙ X.2)
              (All-contains (IsEngineWithin R b) Fs F picked.each one))
          | inr engine ↦
              subst (Contains Es) (same_class X.0 F cell.0 (is_class X.0 engine) here X.2 cell.1) engine
        ]

    engine_found : (E : Generation) → Contains Es E → Contains Fs E
    engine_found E one =
        elim (picked.either E (is_class E one)) [
          | inl found ↦ found
          | inr other ↦ absurd (All-contains (λ P. IsEngineWithin R b P → ⊥) Os E picked.none other
              (engine_of R b G Es S growth E one))
        ]

    others_in_debris : IsSubsetOf (union_of Os) S
    others_in_debris c h =
        let P = found_now R Os c h in
        let here = picked.others_of P.0 P.1 in
        let X = cell_of R b G Es S growth c (in_pattern P.0 here c P.2) in
        elim (head_or_later S X.0 Es X.1.0 X.1.1 X.1.2) [
          | inl e ↦ ap (λ H. contains H c) e ∙ X.2
          | inr engine ↦ absurd (All-contains (λ P. IsEngineWithin R b P → ⊥) Os P.0 picked.none P.1
              (subst (IsEngineWithin R b) (same_class X.0 P.0 c (is_class X.0 engine) here X.2 P.2)
              (engine_of R b G Es S growth X.0 engine)))
        ]

    debris_in_others : IsSubsetOf S (union_of Os)
    debris_in_others c h =
        let whole = part_within R S G debris_part_of c h in
        let P = found_now R Ps c (ap (λ H. contains H c) classes.together ∙ whole) in
        elim (picked.either P.0 P.1) [
          | inl found ↦ absurd (no_engine_inside P.0 P.1 c P.2 h (All-contains (IsEngineWithin R b) Fs P.0 picked.each found))
          | inr other ↦ in_list_now R Os P.0 c other P.2
        ]

    debris_is : S ≡ union_of Os
    debris_is = within_each_other S (union_of Os) debris_in_others others_in_debris

    one_order : IsPermutation Es Fs
    one_order = same_elements Es Fs (engines_differ R b G Es S growth) picked.once engine_found found_engine

    pairs_apart : AllPairs (AreApartForEver R) Fs
    pairs_apart i j d h k =
        let first : Contains Fs (get_or Fs i d) = Contains-get_or Fs i d (omega arith) in
        let second : Contains Fs (get_or Fs j d) = Contains-get_or Fs j d k in
        elim (related_or_same (AreApartForEver R) (AreApartForEver-swap R) Es (get_or Fs i d) (get_or Fs j d)
        (found_engine (get_or Fs i d) first) (found_engine (get_or Fs j d) second) (engines_apart R b G Es S growth)) [
          | inl far ↦ far
          | inr same ↦ absurd (picked.once i j d h k same)
        ]

    debris_apart : All (AreApartForEver R S) Fs
    debris_apart =
        All-weaker (Contains Fs) (AreApartForEver R S)
        (λ F one. All-contains (AreApartForEver R S) Es F (AllPairs-head (AreApartForEver R) S Es growth.apart) (found_engine F one))
        Fs (All-contains_itself Fs)

    pub picked_growth : IsGrowth R b G Fs (union_of Os)
    picked_growth = record {
      some = λ none.
          let E = some_element R Es growth.some in
          let here = subst (λ Xs. Contains Xs E.0) none (engine_found E.0 E.1) in
          let no : here.0 < 0 = here.1 in
          absurd (omega arith);
      together = ap (λ H. union H (union_of Fs)) (sym debris_is)
          ∙ ap (union S) (sym (union_of-IsPermutation Es Fs one_order)) ∙ growth.together;
      apart = subst (λ H. AllPairs (AreApartForEver R) (H ∷ Fs)) debris_is (AllPairs-cons (AreApartForEver R) S Fs debris_apart pairs_apart);
      each = picked.each;
      settles = subst (FallsApart R b) debris_is growth.settles;
    }
