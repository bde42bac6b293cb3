-- What stays alone for as long as the bound is one part of ash, and was there before.
use Rattle.std.proofs.Common.{◌≡◌, ◌≢◌, ℕ, zero, suc, ◌+◌, ◌*◌, ◌<◌, ◌≤◌, true, List, Option, Some, IfSome, get_or, length, refl}
use Rattle.std.proofs.Common.{inl, inr, sym, ap, subst, ◌∙◌, arith}
use Rattle.std.specs.List.{All, Contains}
use Rattle.std.proofs.lemmas.Bool.{cases_lt}
use Rattle.std.proofs.lemmas.List.Elements.{All-contains, All-contains_itself, All-map, All-weaker}
use Rattle.std.specs.List.{list_all}
use Rattle.std.proofs.lemmas.List.Sums.{list_all-from_AllPass}
use Rattle.life_model.specs.Cell.{Cell}
use Rattle.life_model.specs.Rule.{Rule}
use Rattle.life_model.specs.Generation.{Generation, cells, contains, empty}
use Rattle.life_model.specs.Evolution.{generation}
use Rattle.life_model.proofs.Generations.{contains-cells}
use Rattle.life_model.proofs.Moves.{nothing_or_some}
use Rattle.life_model.proofs.Recurrences.{generation-add, generation-zero}
use Rattle.life_cells.specs.Limits.{IsWithin}
use Rattle.life_objects.specs.Apart.{AreApart, AreApartBefore, AreApartForEver}
use Rattle.life_objects.specs.Ash.{IsAsh}
use Rattle.life_objects.specs.Piece.{IsSplit, IsUndivided, LivesThrough}
use Rattle.life_objects.specs.Union.{IsSubsetOf, generations, union, union_of}
use Rattle.life_objects.specs.Whole.{StaysWhole}
use Rattle.life_objects.proofs.Ashes.{IsAsh-later, object_of}
use Rattle.life_objects.proofs.Distances.{near_itself}
use Rattle.life_objects.proofs.DecidedLemmas.Kept.{Contains-map}
use Rattle.life_objects.proofs.Members.{found_now, in_list_now}
use Rattle.life_objects.proofs.OneList.{apart_from_rest, rest_of, with_rest}
use Rattle.life_objects.proofs.Sides.{within_each_other}
use Rattle.life_objects.proofs.Times.{disjoint_ever, generation-empty, generation-union}
use Rattle.life_objects.proofs.Unions.{in_empty, in_first, in_second, in_union, union-empty}
use Rattle.life_model.proofs.Members.{of_all_members}
use Rattle.life_classes.specs.Nearness.{reaches}
use Rattle.life_classes.proofs.Reached.{reaches_itself}
use Rattle.life_classes.specs.declared.class.Class.{Class}
use Rattle.life_classes.specs.Tracking.{first_sets}
use Rattle.life_apart.specs.Alone.{IsEndAlone, others_of}
use Rattle.life_apart.proofs.Loners.{in_others, in_set_or_others, together}
use Rattle.life_ash.specs.Newcomers.{IsWholeIn}
use Rattle.life_ash.specs.Parts.{IsEnd, ash_age_limit}
use Rattle.life_ash.proofs.Finding.{of_some}
use Rattle.life_cells.proofs.Places.{generation_within, itself_within, subset_within}

-- Q is generation n of one of Ps
abbrev IsLaterOf : Rule → ℕ → List Generation → Generation → Type 0
IsLaterOf R n Ps Q = (P : Generation) × Contains Ps P × (generation R P n ≡ Q)

later_of : (R : Rule) (n : ℕ) (Ps : List Generation) (Q : Generation) → Contains (generations R Ps n) Q → IsLaterOf R n Ps Q
later_of R n Ps Q one =
    All-contains (IsLaterOf R n Ps) (generations R Ps n) Q
    (All-map (IsLaterOf R n Ps) (λ P. generation R P n) Ps
    (All-weaker (Contains Ps) (λ P. IsLaterOf R n Ps (generation R P n)) (λ P here. (P, here, refl)) Ps (All-contains_itself Ps)))
    one

module _ (R : Rule) (b : ℕ) (G : Generation) (parts : List Generation) (ash : IsAsh R b G parts)
    (L others : Generation) (split : IsSplit R b G L others) (whole : StaysWhole R b G L) where
  -- a part that has one of its cells has all
  module _ (P : Generation) (one : Contains parts P) (x : Cell) (here : contains L x ≡ true) (there : contains P x ≡ true) where
    abbrev rest : Generation
    rest = rest_of R b G parts ash P one

    far : AreApartForEver R P rest
    far = apart_from_rest R b G parts ash P one

    disjoint : (c : Cell) → contains P c ≡ true → contains rest c ≡ true → ⊥
    disjoint c h k =
        disjoint_ever R 0 P rest far c (ap (λ H. contains H c) (generation-zero R P) ∙ h)
        (ap (λ H. contains H c) (generation-zero R rest) ∙ k)

    inside : IsSubsetOf L P
    inside =
        elim (whole P rest (record { together = with_rest R b G parts ash P one; apart = λ n h. far n })) [
          | inl in_part ↦ in_part
          | inr in_rest ↦ absurd (disjoint x there (in_rest x here))
        ]

    -- the cells of the part that are not in the set
    abbrev left : Generation
    left = others_of P L

    part_is : union L left ≡ P
    part_is = together P L inside

    not_both : (c : Cell) → contains L c ≡ true → contains others c ≡ true → ⊥
    not_both c h k =
        split.apart 0 (omega arith) c c (ap (λ H. contains H c) (generation-zero R L) ∙ h)
        (ap (λ H. contains H c) (generation-zero R others) ∙ k) (near_itself c)

    others_are : union left rest ≡ others
    others_are =
        within_each_other (union left rest) others
        (λ c h.
        let inner : (contains L c ≡ true → ⊥) × (contains G c ≡ true) = elim (in_union left rest c h) [
          | inl l ↦ (
            (in_others P L c l).1,
            ap (λ H. contains H c) (sym (with_rest R b G parts ash P one)) ∙ in_first P rest c (in_others P L c l).0,
          )
          | inr r ↦ (
            λ k. disjoint c (inside c k) r,
            ap (λ H. contains H c) (sym (with_rest R b G parts ash P one)) ∙ in_second P rest c r,
          )
        ] in
        elim (in_union L others c (ap (λ H. contains H c) split.together ∙ inner.1)) [
          | inl l ↦ absurd (inner.0 l)
          | inr o ↦ o
        ])
        (λ c h.
        let in_all : contains (union P rest) c ≡ true =
        ap (λ H. contains H c) (with_rest R b G parts ash P one ∙ sym split.together) ∙ in_second L others c h in
        elim (in_union P rest c in_all) [
          | inl p ↦ elim (in_set_or_others P L inside c p) [
            | inl l ↦ absurd (not_both c l h)
            | inr l ↦ in_first left rest c l
          ]
          | inr r ↦ in_second left rest c r
        ])

    -- what is left of the part is apart from the set, and from the other parts
    record AreApartUntil (n : ℕ) : Type 0 where
      set : AreApartBefore R n L left
      rest : AreApartBefore R n left rest

    until : (n : ℕ) → n ≤ b + 1 → AreApartUntil n
    until zero h = record { set = λ m k. absurd (omega arith); rest = λ m k. absurd (omega arith) }
    until (suc n) h =
        let so_far = until n (omega arith) in
        let part_now : generation R P n ≡ union (generation R L n) (generation R left n) =
        ap (λ H. generation R H n) (sym part_is) ∙ generation-union R n L left so_far.set in
        let others_now : generation R others n ≡ union (generation R left n) (generation R rest n) =
        ap (λ H. generation R H n) (sym others_are) ∙ generation-union R n left rest so_far.rest in
        let set_now : AreApart (generation R L n) (generation R left n) =
        λ c d k l near. split.apart n (omega arith) c d k
        (ap (λ H. contains H d) others_now ∙ in_first (generation R left n) (generation R rest n) d l) near in
        let rest_now : AreApart (generation R left n) (generation R rest n) =
        λ c d k l near. far n c d
        (ap (λ H. contains H c) part_now ∙ in_second (generation R L n) (generation R left n) c k) l near in
        record {
          set = λ m k. elim (cases_lt m n) [
            | inl early ↦ so_far.set m early
            | inr late ↦ let e : n ≡ m = omega arith in
                subst (λ i. AreApart (generation R L i) (generation R left i)) e set_now
          ];
          rest = λ m k. elim (cases_lt m n) [
            | inl early ↦ so_far.rest m early
            | inr late ↦ let e : n ≡ m = omega arith in
                subst (λ i. AreApart (generation R left i) (generation R rest i)) e rest_now
          ];
        }

    of_part : IsSplit R b P L left
    of_part = record { together = part_is; apart = λ n h. (until (b + 1) (omega arith)).set n (omega arith) }

    undivided : IsUndivided R b P
    undivided = subst (IsUndivided R b) (generation-zero R P) ((object_of R b G parts ash P one).whole 0)

    pub end_of_part : LivesThrough R b L → generation R P b ≡ generation R L b
    end_of_part lives =
        elim (nothing_or_some (generation R left b)) [
          | inl gone ↦
              ap (λ H. generation R H b) (sym part_is)
              ∙ generation-union R b L left (λ m h. (until (b + 1) (omega arith)).set m (omega arith))
              ∙ ap (union (generation R L b)) gone ∙ union-empty (generation R L b)
          | inr x ↦ absurd (undivided L left of_part lives (λ none. in_empty x.0 (ap (λ H. contains H x.0) (sym none) ∙ x.1)))
        ]

  -- some part becomes what a set that stays alone becomes
  pub part_of_end : LivesThrough R b L → (P : Generation) × Contains parts P × (generation R P b ≡ generation R L b)
  part_of_end lives =
      elim (nothing_or_some L) [
        | inl none ↦ absurd (lives (ap (λ H. generation R H b) none ∙ generation-empty R b))
        | inr x ↦
            let P = found_now R parts x.0
            (ap (λ H. contains H x.0) (ash.together ∙ sym split.together) ∙ in_first L others x.0 x.1) in
            (P.0, P.1, end_of_part P.0 P.1 x.0 x.1 P.2 lives)
      ]

-- where a set stays alone for as long as the bound, long after, ash had a part that became it
pub part_there : (R : Rule) (b : ℕ) (G : Generation) (parts : List Generation) (L others : Generation) → IsAsh R b G parts →
    All (IsWithin ash_age_limit) (cells G) → IsSplit R b (generation R G b) L others →
    StaysWhole R b (generation R G b) L → LivesThrough R b L →
    (P : Generation) × IsSubsetOf P G × IsEnd R b (2 * b) (generation R L b) P
part_there R b G parts L others ash placed split whole lives =
    let later = part_of_end R b (generation R G b) (generations R parts b) (IsAsh-later R b G parts ash b) L others split whole lives in
    let P = later_of R b parts later.0 later.1 in
    let twice : b + b ≡ 2 * b = omega arith in
    let sub : IsSubsetOf P.0 G = λ c h. ap (λ H. contains H c) (sym ash.together) ∙ in_list_now R parts P.0 c P.1 h in (
      P.0,
      sub,
      record {
        within = subset_within ash_age_limit ash_age_limit (omega arith) P.0 G sub placed;
        recurs = (object_of R b G parts ash P.0 P.1).recurs;
        end = ap (generation R P.0) (sym twice) ∙ sym (generation-add R P.0 b b) ∙ ap (λ H. generation R H b) P.2 ∙ later.2;
      },
    )

-- a set that splits for some generations don't tear is torn by no splits for more
pub whole_set : (R S : Rule) (n b : ℕ) (G : Generation) (cs : List Class) (k : ℕ) (c : Class) → S ≡ R → n ≤ b →
    k < length cs → c ≡ get_or cs k c → union_of (first_sets cs) ≡ G → All (StaysWhole S n G) (first_sets cs) →
    IsWholeIn R b G c.first
whole_set R S n b G cs k c rule h l is together whole =
    let one : Contains (first_sets cs) c.first = Contains-map (λ d. d.first) cs c (k, l, sym is) in
    record {
      within = λ x there. ap (λ H. contains H x) (sym together) ∙ in_list_now R (first_sets cs) c.first x one there;
      whole = λ A B split.
          subst (λ T. StaysWhole T n G c.first) rule (All-contains (StaysWhole S n G) (first_sets cs) c.first whole one) A B
          (record { together = split.together; apart = λ m i. split.apart m (omega arith) });
    }

module _ (R : Rule) (b : ℕ) (G H L end : Generation) (later : H ≡ generation R G b) (whole : IsWholeIn R b H L)
    (alone : IsEndAlone R b H L end) where
  -- ash had a part that became what has stayed alone
  pub part_before : All (IsWithin ash_age_limit) (cells G) → end ≢ empty → (parts : List Generation) → IsAsh R b G parts →
      (P : Generation) × IsSubsetOf P G × IsEnd R b (2 * b) end P
  part_before placed some parts ash =
      let there =
      part_there R b G parts L alone.others ash placed (subst (λ S. IsSplit R b S L alone.others) later alone.split)
      (subst (λ S. StaysWhole R b S L) later whole.whole) (λ none. some (alone.becomes ∙ none)) in
      (there.0, there.1, subst (λ S. IsEnd R b (2 * b) S there.0) (sym alone.becomes) there.2)

  -- where the end stands
  pub end_within : (a n : ℕ) → a + b ≤ n → All (IsWithin a) (cells H) → All (IsWithin n) (cells end)
  end_within a n le placed =
      subst (λ S. All (IsWithin n) (cells S)) (sym alone.becomes)
      (itself_within (a + b) n le (generation R L b)
      (generation_within R a L (subset_within a a (omega arith) L H whole.within placed) b))

module _ (R S : Rule) (b n : ℕ) (G H L : Generation) (found : Option Generation) (end : Generation)
    (rule : S ≡ R) (bound : n ≡ b) (later : H ≡ generation R G b) (whole : IsWholeIn R b H L) (is : found ≡ Some end)
    (told : IfSome found (IsEndAlone S n H L)) where
  -- what is said of the end that is found, by another name of the rule and of the bound
  alone_then : IsEndAlone R b H L end
  alone_then =
      subst (λ k. IsEndAlone R k H L end) bound
      (subst (λ T. IsEndAlone T n H L end) rule (of_some (IsEndAlone S n H L) is told))

  pub told_before : All (IsWithin ash_age_limit) (cells G) → end ≢ empty → (parts : List Generation) → IsAsh R b G parts →
      (P : Generation) × IsSubsetOf P G × IsEnd R b (2 * n) end P
  told_before placed some parts ash =
      let there = part_before R b G H L end later whole alone_then placed some parts ash in
      (there.0, there.1, subst (λ k. IsEnd R b (2 * k) end there.0) (sym bound) there.2)

  pub told_within : (a k : ℕ) → a + b ≤ k → All (IsWithin a) (cells H) → All (IsWithin k) (cells end)
  told_within a k le placed = end_within R b G H L end later whole alone_then a k le placed

-- a set whose cells are all there is found to be there
pub seen_within : (P G : Generation) → IsSubsetOf P G → list_all (reaches 0 G) (cells P) ≡ true
seen_within P G sub =
    list_all-from_AllPass (reaches 0 G) (cells P)
    (of_all_members (λ c. reaches 0 G c ≡ true) (cells P) (λ c h. reaches_itself G c (sub c (contains-cells P c ∙ h))))
