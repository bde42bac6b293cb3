-- Classes of the next generation join the pieces of a set.
use Rattle.std.proofs.Common.{◌≡◌, ◌≢◌, ℕ, suc, true, false, not, ◌⊎◌, List, get_or, inl, inr, sym, refl, ap, subst, ◌∙◌, true≢false, arith}
use Rattle.std.specs.List.{AllPairs, Contains}
use Rattle.std.proofs.lemmas.List.Elements.{All-contains, All-contains_itself, All-weaker, Contains-get_or}
use Rattle.std.proofs.lemmas.Bool.{and_from, cases_Bool, false_from_ne_true, and_parts}
use Rattle.life_model.specs.Cell.{Cell}
use Rattle.life_model.specs.Rule.{Rule}
use Rattle.life_model.specs.Generation.{Generation, contains, empty, keep}
use Rattle.life_model.specs.Evolution.{next}
use Rattle.life_model.proofs.Generations.{contains-keep}
use Rattle.life_model.proofs.Moves.{nothing_or_some}
use Rattle.life_objects.specs.Apart.{AreApart, AreApartFor, AreDisjoint}
use Rattle.life_objects.specs.Piece.{IsSplit}
use Rattle.life_objects.specs.Union.{IsSubsetOf, union, union_of}
use Rattle.life_objects.specs.Whole.{StaysWhole}
use Rattle.life_objects.proofs.Alone.{next_disjoint}
use Rattle.life_objects.proofs.Distances.{AreApart-swap, disjoint_from_apart}
use Rattle.life_objects.proofs.Dividing.{AreApartFor-swap, apart_from_rest}
use Rattle.life_objects.proofs.Lists.{AllPairs-weaker, related_or_same}
use Rattle.life_objects.proofs.Members.{found_now, in_list_now, next_found, next_within}
use Rattle.life_objects.proofs.Sides.{AreSides, first_side, second_side, sides, within_each_other}
use Rattle.life_objects.proofs.Unions.{in_union}
use Rattle.life_growth.specs.Unsplit.{AreClasses}
use Rattle.life_growth.specs.Film.{AreJoined, AreLinked, AreSeparate, bearing, itself, swapped, through, within}
use Rattle.life_growth.proofs.FilmLemmas.Splits.{apart_before, apart_now, split_next}

-- a cell of a class of G is one of G
pub in_classes : (R : Rule) (b : ℕ) (G : Generation) (Qs : List Generation) → AreClasses R b G Qs → (Q : Generation) → Contains Qs Q →
    IsSubsetOf Q G
in_classes R b G Qs are Q one c h = ap (λ H. contains H c) (sym are.together) ∙ in_list_now R Qs Q c one h

-- ---- sets that bear no class together

pub AreSeparate-swap : (R : Rule) (Qs : List Generation) (P O : Generation) → AreSeparate R Qs P O → AreSeparate R Qs O P
AreSeparate-swap R Qs P O s = record {
  now = AreApart-swap P O s.now;
  later = λ Q q r one h k there then. s.later Q r q one k h then there;
}

pub separate_apart : (R : Rule) (Qs Ps : List Generation) → AllPairs (AreSeparate R Qs) Ps → AllPairs AreApart Ps
separate_apart R Qs Ps separate = AllPairs-weaker (AreSeparate R Qs) AreApart (λ P O s. s.now) Ps separate

-- which of them bears a cell of the next generation
pub bearer : (R : Rule) (G : Generation) (Qs Ps : List Generation) → union_of Ps ≡ G → AllPairs (AreSeparate R Qs) Ps → (c : Cell) →
    contains (next R G) c ≡ true → (P : Generation) × Contains Ps P × (contains (next R P) c ≡ true)
bearer R G Qs Ps together separate c h =
    next_found R Ps (separate_apart R Qs Ps separate) c (ap (λ H. contains (next R H) c) together ∙ h)

module _ (R : Rule) where
  module _ (b : ℕ) (G : Generation) (pieces Qs Ps : List Generation) (near : AreClasses R 0 G pieces)
      (later : AreClasses R b (next R G) Qs) (joined : AreJoined R G pieces Qs Ps) where
    -- ---- what no split tears

    module _ (A B : Generation) (split : IsSplit R (suc b) G A B) where
      abbrev after : (union A B ≡ G) × AreApart A B × IsSplit R b (next R G) (next R A) (next R B)
      after = split_next R b G A B split

      now : IsSplit R 0 G A B
      now = record {
        together = split.together;
        apart = λ n h. split.apart n (omega arith);
      }

      A_not_B : AreDisjoint A B
      A_not_B = disjoint_from_apart A B after.1

      piece_side : (N : Generation) → Contains pieces N → IsSubsetOf N A ⊎ IsSubsetOf N B
      piece_side N one = All-contains (StaysWhole R 0 G) pieces N near.whole one A B now

      class_side : (Q : Generation) → Contains Qs Q → IsSubsetOf Q (next R A) ⊎ IsSubsetOf Q (next R B)
      class_side Q one = All-contains (StaysWhole R b (next R G)) Qs Q later.whole one (next R A) (next R B) after.2

      parted : AreSides (AreApartFor R 0) A B pieces
      parted =
          sides (AreApartFor R 0) A B pieces
          (All-weaker (Contains pieces) (λ N. IsSubsetOf N A ⊎ IsSubsetOf N B) piece_side pieces (All-contains_itself pieces))
          near.apart

      apart_at_once : (Ns : List Generation) → AllPairs (AreApartFor R 0) Ns → AllPairs AreApart Ns
      apart_at_once Ns pairs = AllPairs-weaker (AreApartFor R 0) AreApart (apart_now R 0) Ns pairs

      bears_in_A : (N : Generation) → Contains pieces N → IsSubsetOf N A → (c : Cell) → contains N c ≡ true →
          IsSubsetOf (next R N) (next R A)
      bears_in_A N one inside c h q there =
          elim (parted.either N one) [
            | inl first ↦
                ap (λ H. contains (next R H) q) (first_side R 0 G A B now (AreApartFor R 0) pieces near.together parted)
                ∙ next_within R parted.first (apart_at_once parted.first parted.first_pairs) N first q there
            | inr second ↦
                absurd (A_not_B c (inside c h) (All-contains (λ P. IsSubsetOf P B) parted.second N parted.second_within second c h))
          ]

      bears_in_B : (N : Generation) → Contains pieces N → IsSubsetOf N B → (c : Cell) → contains N c ≡ true →
          IsSubsetOf (next R N) (next R B)
      bears_in_B N one inside c h q there =
          elim (parted.either N one) [
            | inl first ↦
                absurd (A_not_B c (All-contains (λ P. IsSubsetOf P A) parted.first N parted.first_within first c h) (inside c h))
            | inr second ↦
                ap (λ H. contains (next R H) q) (second_side R 0 G A B now (AreApartFor R 0) pieces near.together parted)
                ∙ next_within R parted.second (apart_at_once parted.second parted.second_pairs) N second q there
          ]

      not_in_A : (c : Cell) → contains B c ≡ true → contains A c ≡ false
      not_in_A c h = false_from_ne_true (contains A c) (λ k. A_not_B c k h)

      next_apart : AreDisjoint (next R A) (next R B)
      next_apart = next_disjoint R A B after.1

      not_both : (Q : Generation) (q r : Cell) → Contains Qs Q → contains (next R A) q ≡ true → contains (next R B) r ≡ true →
          contains Q q ≡ true → contains Q r ≡ true → ⊥
      not_both Q q r one in_A in_B h k =
          elim (class_side Q one) [
            | inl inside ↦ next_apart r (inside r k) in_B
            | inr inside ↦ next_apart q in_A (inside q h)
          ]

      -- linked cells are on one side
      one_side : (c d : Cell) → AreLinked R pieces Qs c d → contains A c ≡ contains A d
      one_side c d (itself _) = refl
      one_side c d (swapped _ _ link) = sym (one_side d c link)
      one_side c d (through _ e _ first second) = one_side c e first ∙ one_side e d second
      one_side c d (within N _ _ one h k) =
          elim (piece_side N one) [
            | inl inside ↦ inside c h ∙ sym (inside d k)
            | inr inside ↦ not_in_A c (inside c h) ∙ sym (not_in_A d (inside d k))
          ]
      one_side c d (bearing Q N M _ _ q r of one two h k bears too there then) =
          elim (piece_side N one) [
            | inl left ↦ elim (piece_side M two) [
              | inl inside ↦ left c h ∙ sym (inside d k)
              | inr right ↦
                  absurd (not_both Q q r of (bears_in_A N one left c h q bears) (bears_in_B M two right d k r too) there then)
            ]
            | inr right ↦ elim (piece_side M two) [
              | inl left ↦
                  absurd (not_both Q r q of (bears_in_A M two left d k r too) (bears_in_B N one right c h q bears) then there)
              | inr inside ↦ not_in_A c (right c h) ∙ sym (not_in_A d (inside d k))
            ]
          ]

      in_A_or_B : (P : Generation) → Contains Ps P → IsSubsetOf P A ⊎ IsSubsetOf P B
      in_A_or_B P one =
          elim (nothing_or_some P) [
            | inl none ↦ absurd (All-contains (λ P. P ≢ empty) Ps P joined.nonempty one none)
            | inr some ↦
                elim (in_union A B some.0 (in_G P one some.0 some.1)) [
                  | inl a ↦ inl (λ d h. sym (one_side some.0 d (joined.linked P some.0 d one some.1 h)) ∙ a)
                  | inr b ↦ inr (λ d h.
                      elim (in_union A B d (in_G P one d h)) [
                        | inl a ↦
                            absurd (true≢false (sym a ∙ sym (one_side some.0 d (joined.linked P some.0 d one some.1 h))
                            ∙ not_in_A some.0 b))
                        | inr there ↦ there
                      ])
                ]
          ]
        where
          in_G : (P : Generation) → Contains Ps P → (c : Cell) → contains P c ≡ true → contains (union A B) c ≡ true
          in_G P one c h = ap (λ H. contains H c) (split.together ∙ sym joined.together) ∙ in_list_now R Ps P c one h

    -- ---- what stays apart

    -- a class of which P bears a cell is borne by P alone
    all_borne : (P : Generation) → Contains Ps P → (Q : Generation) → Contains Qs Q → (q : Cell) → contains Q q ≡ true →
        contains (next R P) q ≡ true → IsSubsetOf Q (next R P)
    all_borne P one Q of q h bears r k =
        let O = bearer R G Qs Ps joined.together joined.separate r (in_classes R b (next R G) Qs later Q of r k) in
        elim (related_or_same (AreSeparate R Qs) (AreSeparate-swap R Qs) Ps P O.0 one O.1 joined.separate) [
          | inl s ↦ absurd (s.later Q q r of bears O.2 h k)
          | inr same ↦ ap (λ H. contains (next R H) r) same ∙ O.2
        ]

    -- what is not borne by P
    abbrev others_than : Generation → Generation
    others_than P = keep (next R G) (λ c. not (contains (next R P) c))

    in_others : (P : Generation) (c : Cell) → contains (next R G) c ≡ true → (contains (next R P) c ≡ true → ⊥) →
        contains (others_than P) c ≡ true
    in_others P c h never =
        contains-keep (next R G) (λ c. not (contains (next R P) c)) c
        ∙ and_from (contains (next R G) c) (not (contains (next R P) c)) h
        (ap not (false_from_ne_true (contains (next R P) c) never))

    not_borne : (P : Generation) (c : Cell) → contains (others_than P) c ≡ true → contains (next R P) c ≡ true → ⊥
    not_borne P c h k =
        let both = sym (contains-keep (next R G) (λ c. not (contains (next R P) c)) c) ∙ h in
        true≢false (sym ((and_parts (contains (next R G) c) (not (contains (next R P) c)) both).1) ∙ ap not k)

    borne_or_not : (P : Generation) → Contains Ps P → (Q : Generation) → Contains Qs Q →
        IsSubsetOf Q (next R P) ⊎ IsSubsetOf Q (others_than P)
    borne_or_not P one Q of =
        elim (nothing_or_some Q) [
          | inl none ↦ absurd (All-contains (λ P. P ≢ empty) Qs Q later.nonempty of none)
          | inr some ↦ elim (cases_Bool (contains (next R P) some.0)) [
            | inl bears ↦ inl (all_borne P one Q of some.0 some.1 bears)
            | inr bears_not ↦ inr (λ r k.
                in_others P r (in_classes R b (next R G) Qs later Q of r k) (λ there.
                true≢false (sym (all_borne P one Q of r k there some.0 some.1) ∙ bears_not)))
          ]
        ]

    of_sides : (P : Generation) → Contains Ps P → AreSides (AreApartFor R b) (next R P) (others_than P) Qs
    of_sides P one =
        sides (AreApartFor R b) (next R P) (others_than P) Qs
        (All-weaker (Contains Qs) (λ Q. IsSubsetOf Q (next R P) ⊎ IsSubsetOf Q (others_than P)) (borne_or_not P one) Qs
        (All-contains_itself Qs)) later.apart

    -- the classes that P bears make up its next generation
    made : (P : Generation) (one : Contains Ps P) → next R P ≡ union_of (of_sides P one).first
    made P one =
        let s = of_sides P one in
        within_each_other (next R P) (union_of s.first)
        (λ c h.
        let Q = found_now R Qs c (ap (λ H. contains H c) later.together
        ∙ ap (λ H. contains (next R H) c) (sym joined.together) ∙ next_within R Ps (separate_apart R Qs Ps joined.separate) P one c h) in
        elim (s.either Q.0 Q.1) [
          | inl x ↦ in_list_now R s.first Q.0 c x Q.2
          | inr y ↦
              absurd (not_borne P c (All-contains (λ Q. IsSubsetOf Q (others_than P)) s.second Q.0 s.second_within y c Q.2) h)
        ])
        (λ c h.
        let Q = found_now R s.first c h in
        All-contains (λ Q. IsSubsetOf Q (next R P)) s.first Q.0 s.first_within Q.1 c Q.2)

    far : (P O : Generation) → Contains Ps P → Contains Ps O → AreSeparate R Qs P O →
        AreApartFor R b (next R P) (next R O)
    far P O one two separate =
        let s = of_sides P one in
        let t = of_sides O two in
        let across : (Q K : Generation) → Contains s.first Q → Contains t.first K → AreApartFor R b Q K = λ Q K in_s in_t.
        elim (related_or_same (AreApartFor R b) (AreApartFor-swap R b) Qs Q K (s.first_of Q in_s) (t.first_of K in_t)
        later.apart) [
          | inl apart ↦ apart
          | inr same ↦ elim (nothing_or_some Q) [
            | inl none ↦ absurd (All-contains (λ P. P ≢ empty) Qs Q later.nonempty (s.first_of Q in_s) none)
            | inr some ↦ absurd (next_disjoint R P O separate.now some.0
                (All-contains (λ Q. IsSubsetOf Q (next R P)) s.first Q s.first_within in_s some.0 some.1)
                (All-contains (λ Q. IsSubsetOf Q (next R O)) t.first K t.first_within in_t some.0
                (ap (λ H. contains H some.0) (sym same) ∙ some.1)))
          ]
        ] in
        let each : (Q : Generation) → Contains s.first Q → AreApartFor R b (union_of t.first) Q = λ Q in_s.
        AreApartFor-swap R b Q (union_of t.first)
        (apart_from_rest R b Q t.first
        (All-weaker (Contains t.first) (AreApartFor R b Q) (λ K in_t. across Q K in_s in_t) t.first
        (All-contains_itself t.first)) t.first_pairs) in
        let whole : AreApartFor R b (union_of s.first) (union_of t.first) =
        AreApartFor-swap R b (union_of t.first) (union_of s.first)
        (apart_from_rest R b (union_of t.first) s.first
        (All-weaker (Contains s.first) (AreApartFor R b (union_of t.first)) each s.first (All-contains_itself s.first))
        s.first_pairs) in
        subst (AreApartFor R b (next R P)) (sym (made O two))
        (subst (λ H. AreApartFor R b H (union_of t.first)) (sym (made P one)) whole)

    pub are_classes : AreClasses R (suc b) G Ps
    are_classes = record {
      together = joined.together;
      nonempty = joined.nonempty;
      whole = All-weaker (Contains Ps) (StaysWhole R (suc b) G) (λ P one A B split. in_A_or_B A B split P one) Ps
          (All-contains_itself Ps);
      apart = λ i j d h k.
          let P = get_or Ps i d in
          let O = get_or Ps j d in
          let s = joined.separate i j d h k in
          apart_before R b P O s.now
          (far P O (Contains-get_or Ps i d (omega arith)) (Contains-get_or Ps j d k) s);
    }
