-- What stays apart from the rest of what falls apart falls apart too, so one class may show that nothing grows.
use Rattle.std.proofs.Common.{◌≡◌, ◌≢◌, ℕ, suc, ◌+◌, ◌*◌, ◌≤◌, true, List, [], ◌∷◌, get_or, inl, inr, sym, ap, subst, ◌∙◌, arith}
use Rattle.std.specs.List.{All, AllPairs, Contains}
use Rattle.std.proofs.lemmas.List.Elements.{All-contains, All-contains_itself, All-filter, All-map, All-weaker, Contains-get_or, filter_passes}
use Rattle.std.proofs.lemmas.List.Kept.{AllPairs-filter}
use Rattle.life_model.specs.Generation.{Generation, contains, empty}
use Rattle.life_model.specs.Rule.{Rule}
use Rattle.life_model.specs.Evolution.{generation}
use Rattle.life_model.proofs.Moves.{nothing_or_some}
use Rattle.life_model.proofs.Recurrences.{generation-add}
use Rattle.life_objects.specs.Apart.{AreApartFor, AreApartForEver}
use Rattle.life_objects.specs.Ash.{IsAsh, IsObject}
use Rattle.life_objects.specs.Piece.{IsSplit, LivesThrough}
use Rattle.life_objects.specs.Union.{IsSubsetOf, generations, union, union_of}
use Rattle.life_objects.specs.Whole.{IsCore, StaysWhole}
use Rattle.life_objects.proofs.Ashes.{AreApartForEver-later, IsAsh-wider, IsObject-later, object_of}
use Rattle.life_objects.proofs.Cores.{part_around}
use Rattle.life_objects.proofs.Dividing.{AreApartFor-swap, apart_from_rest}
use Rattle.life_objects.proofs.Lists.{AllPairs-map, Contains-head, head_or_later, related_or_same, set_aside}
use Rattle.life_objects.proofs.Many.{list_a_while}
use Rattle.life_objects.proofs.Members.{in_list_now}
use Rattle.life_objects.proofs.OneList.{union_of-IsPermutation}
use Rattle.life_objects.proofs.Sides.{AreSides, first_side}
use Rattle.life_objects.proofs.Staying.{the_sides}
use Rattle.life_objects.proofs.Times.{AreApartForEver-swap, before_from_while, disjoint_a_while, generation-union}
use Rattle.life_objects.specs.Decided.Classes.{classes}
use Rattle.life_objects.proofs.DecidedLemmas.Kept.{Contains-filter}
use Rattle.life_growth.proofs.EnginesLemmas.Classes.{are_classes}
use Rattle.life_growth.proofs.FatesLemmas.Classes.{is_class, same_class}
use Rattle.life_tracks.specs.Frames.Frames.{with_cells}
use Rattle.life_tracks.proofs.FramesLemmas.Near.{has_cell, some_cell, union-with_cells}
use Rattle.life_growth.specs.Engine.{FallsApart, IsEngineWithin}
use Rattle.life_growth.specs.Growth.{IsGrowth}
use Rattle.life_growth.specs.Unsplit.{AreClasses}
use Rattle.life_growth.proofs.OneGrowth.{IsPart-growth, cell_of, engine_of}
use Rattle.life_growth.proofs.Parts.{IsPart, disjoint_now}
use Rattle.life_growth.proofs.Settling.{settles_empty}
use Rattle.life_growing.specs.Loose.{HasLoose, IsLoose}
use Rattle.life_growing.proofs.PickingGrowth.{cell_in, classes_with_cells}

module _ (R : Rule) (b : ℕ) (S C D : Generation) (settles : FallsApart R b S) (split : IsSplit R (2 * b) S C D) where
  abbrev G : Generation
  G = generation R S b

  abbrev A : Generation
  A = generation R C b

  abbrev B : Generation
  B = generation R D b

  later_split : IsSplit R b G A B
  later_split = record {
    together = sym (generation-union R b C D (before_from_while R (2 * b) b C D split.apart (omega arith)))
        ∙ ap (λ H. generation R H b) split.together;
    apart = λ n h c d x y near.
        split.apart (b + n) (omega arith) c d (ap (λ H. contains H c) (sym (generation-add R C b n)) ∙ x)
        (ap (λ H. contains H d) (sym (generation-add R D b n)) ∙ y) near;
  }

  abbrev its_classes : List Generation
  its_classes = classes R G (suc b)

  classes_are : AreClasses R b G its_classes
  classes_are = are_classes R b G

  its_sides : AreSides (AreApartFor R b) A B its_classes
  its_sides =
      the_sides R b G its_classes classes_are.together classes_are.whole (AreApartFor R b) classes_are.apart A B later_split

  abbrev first : List Generation
  first = its_sides.first

  around : (L : Generation) → Contains first L → LivesThrough R b L →
      (P : Generation) × Contains settles.0 P × IsCore R b L P
  around L one lives =
      part_around R b G settles.0 its_classes settles.1 classes_are.together classes_are.whole classes_are.apart L
      (its_sides.first_of L one) lives

  object_then : (L : Generation) → Contains first L → LivesThrough R b L → IsObject R b (generation R L b)
  object_then L one lives =
      let p = around L one lives in
      subst (IsObject R b) (p.2.later b (omega arith))
      (IsObject-later R b p.0 (object_of R b G settles.0 settles.1 p.0 p.1) b)

  apart_then : (L M : Generation) → Contains first L → Contains first M → AreApartFor R b L M → LivesThrough R b L →
      LivesThrough R b M → AreApartForEver R (generation R L b) (generation R M b)
  apart_then L M l m apart lives too =
      let p = around L l lives in
      let q = around M m too in
      let p_end : generation R p.0 b ≡ generation R L b = p.2.later b (omega arith) in
      let q_end : generation R q.0 b ≡ generation R M b = q.2.later b (omega arith) in
      elim (related_or_same (AreApartForEver R) (AreApartForEver-swap R) settles.0 p.0 q.0 p.1 q.1 settles.1.apart) [
        | inl ever ↦
            subst (AreApartForEver R (generation R L b)) q_end
            (subst (λ H. AreApartForEver R H (generation R q.0 b)) p_end (AreApartForEver-later R b p.0 q.0 ever))
        | inr same ↦ elim (nothing_or_some (generation R L b)) [
          | inl gone ↦ absurd (lives gone)
          | inr x ↦ absurd (disjoint_a_while R b b L M apart (omega arith) x.0 x.1
              (ap (λ H. contains H x.0) (sym q_end ∙ ap (λ H. generation R H b) (sym same) ∙ p_end) ∙ x.1))
        ]
      ]

  -- what the sets of the first side have become, without those that are gone
  abbrev lasting : List Generation
  lasting = with_cells (generations R first b)

  has_some : All (λ X. X ≢ empty) lasting
  has_some = All-weaker (λ X. some_cell X ≡ true) (λ X. X ≢ empty) has_cell lasting (filter_passes some_cell (generations R first b))

  abbrev IsObjectIfSome : Generation → Type 0
  IsObjectIfSome X = X ≢ empty → IsObject R b X

  lasting_objects : All IsObjectIfSome lasting
  lasting_objects =
      All-filter some_cell IsObjectIfSome (generations R first b)
      (All-map IsObjectIfSome (λ L. generation R L b) first
      (All-weaker (Contains first) (λ L. IsObjectIfSome (generation R L b)) object_then first (All-contains_itself first)))

  abbrev AreApartIfSome : Generation → Generation → Type 0
  AreApartIfSome X Y = X ≢ empty → Y ≢ empty → AreApartForEver R X Y

  lasting_apart : AllPairs AreApartIfSome lasting
  lasting_apart =
      AllPairs-filter AreApartIfSome some_cell (generations R first b)
      (AllPairs-map AreApartIfSome (λ L. generation R L b) first
      (λ i j d h k.
      apart_then (get_or first i d) (get_or first j d) (Contains-get_or first i d (omega arith))
      (Contains-get_or first j d k) (its_sides.first_pairs i j d h k)))

  its_ash : IsAsh R b (generation R A b) lasting
  its_ash = record {
    together = union-with_cells (generations R first b)
        ∙ sym (ap (λ H. generation R H b) (first_side R b G A B later_split (AreApartFor R b) its_classes classes_are.together its_sides)
        ∙ list_a_while R b b first its_sides.first_pairs (omega arith));
    apart = λ i j d h k. lasting_apart i j d h k (has_some i d (omega arith)) (has_some j d k);
    objects = λ k d h. lasting_objects k d h (has_some k d h);
  }

  pub falls_apart_too : FallsApart R (2 * b) C
  falls_apart_too =
      let twice : b + b ≡ 2 * b = omega arith in (
        lasting,
        subst (λ n. IsAsh R (2 * b) (generation R C n) lasting) twice
            (subst (λ H. IsAsh R (2 * b) H lasting) (generation-add R C b b)
            (IsAsh-wider R b (generation R A b) lasting its_ash (2 * b) (omega arith))),
      )

-- ---- no class of what grows is loose

module _ (R : Rule) (b far : ℕ) (long : 2 * b ≤ far) (G : Generation) (Ps : List Generation)
    (classes_are : AreClasses R far G Ps) (Es : List Generation) (S : Generation) (growth : IsGrowth R b G Es S)
    (C : Generation) (one : Contains Ps C) (loose : IsLoose R b C) where
  debris_part : IsPart R S G
  debris_part = IsPart-growth R b G Es S growth S (Contains-head S Es)

  debris_split : IsSplit R far G S debris_part.rest
  debris_split = record { together = debris_part.together; apart = λ n h. debris_part.apart n }

  debris_sides : AreSides (AreApartFor R far) S debris_part.rest Ps
  debris_sides =
      the_sides R far G Ps classes_are.together classes_are.whole (AreApartFor R far) classes_are.apart S debris_part.rest
      debris_split

  not_in_debris : Contains debris_sides.first C → ⊥
  not_in_debris inside =
      let aside = set_aside (AreApartFor R far) (AreApartFor-swap R far) debris_sides.first C inside debris_sides.first_pairs in
      let all : union C (union_of aside.rest) ≡ S =
      sym (first_side R far G S debris_part.rest debris_split (AreApartFor R far) Ps classes_are.together debris_sides
      ∙ union_of-IsPermutation debris_sides.first (C ∷ aside.rest) aside.order) in
      let apart : AreApartFor R far C (union_of aside.rest) = apart_from_rest R far C aside.rest aside.related aside.pairs in
      loose.stays (falls_apart_too R b S C (union_of aside.rest) growth.settles
      (record { together = all; apart = λ n le. apart n (omega arith) }))

  none_with_loose : ⊥
  none_with_loose =
      elim (nothing_or_some C) [
        | inl none ↦ All-contains (λ P. P ≢ empty) Ps C classes_are.nonempty one none
        | inr cell ↦
            let X = cell_of R b G Es S growth cell.0
            (ap (λ H. contains H cell.0) (sym classes_are.together) ∙ in_list_now R Ps C cell.0 one cell.1) in
            elim (head_or_later S X.0 Es X.1.0 X.1.1 X.1.2) [
              | inl e ↦ elim (debris_sides.either C one) [
                | inl inside ↦ not_in_debris inside
                | inr outside ↦ disjoint_now R S debris_part.rest debris_part.apart cell.0
                    (ap (λ H. contains H cell.0) e ∙ X.2)
                    (All-contains (λ Q. IsSubsetOf Q debris_part.rest) debris_sides.second C debris_sides.second_within
                    outside cell.0 cell.1)
              ]
              | inr engine ↦ loose.no_engine (subst (IsEngineWithin R b)
                  (same_class R b G Es S growth far long Ps classes_are X.0 C cell.0
                  (is_class R b G Es S growth far long Ps classes_are X.0 engine) one X.2 cell.1)
                  (engine_of R b G Es S growth X.0 engine))
            ]
      ]

pub none_grows : (R : Rule) (b far : ℕ) (G : Generation) (Ps : List Generation) → union_of Ps ≡ G →
    All (StaysWhole R far G) Ps → AllPairs (AreApartFor R far) Ps → 2 * b ≤ far → HasLoose R b Ps →
    (Es : List Generation) (S : Generation) → IsGrowth R b G Es S → ⊥
none_grows R b far G Ps together whole apart long has Es S growth =
    let C = has.0 in
    let some : C ≢ empty = λ gone. has.2.stays (subst (FallsApart R (2 * b)) (sym gone) ([], settles_empty R (2 * b))) in
    none_with_loose R b far long G (with_cells Ps) (classes_with_cells R far G Ps together whole apart) Es S growth C
    (Contains-filter some_cell Ps C has.1 (cell_in C some)) has.2
