-- The classes of a set are a splitting that no split tears, and they stay apart.
use Rattle.std.proofs.Common.{◌≡◌, ℕ, zero, suc, ◌+◌, ◌≤◌, Bool, true, false, cond, List, [], ◌∷◌, ◌++◌, inl, inr}
use Rattle.std.proofs.Common.{◌∙◌, true≢false, sym, refl, ap, subst, arith}
use Rattle.std.proofs.lemmas.Bool.{cases_Bool}
use Rattle.std.specs.List.{All, AllPairs}
use Rattle.std.proofs.lemmas.List.{append-nil}
use Rattle.std.proofs.lemmas.List.Elements.{All-head, All-tail, All-cons, All-nil}
use Rattle.std.proofs.lemmas.List.Kept.{AllPairs-cons}
use Rattle.life_model.specs.Rule.{Rule}
use Rattle.life_model.specs.Generation.{Generation}
use Rattle.life_model.specs.Evolution.{generation}
use Rattle.life_objects.specs.Apart.{AreApart, AreApartBefore, AreApartFor}
use Rattle.life_objects.specs.Union.{union, union_of}
use Rattle.life_objects.specs.Whole.{StaysWhole}
use Rattle.life_objects.proofs.Distances.{AreApart-swap}
use Rattle.life_objects.proofs.Lists.{AllPairs-head, AllPairs-nil, AllPairs-tail}
use Rattle.life_objects.specs.Decided.Tests.{meet}
use Rattle.life_objects.specs.Decided.Classes.{classes_after_meeting, classes, classes_with}
use Rattle.life_objects.proofs.DecidedLemmas.Tests.{apart_by_test, test_by_apart}
use Rattle.life_objects.proofs.DecidedLemmas.Splitting.{IsSplitting, for_one_more, from_front, pairs_with_union, single_cells}
use Rattle.life_objects.proofs.DecidedLemmas.Splitting.{to_front}
use Rattle.life_objects.proofs.DecidedLemmas.Splitting.{union_apart_at, with_union}

All-left : {X : Type 0} (P : X → Type 0) (xs ys : List X) → All P (xs ++ ys) → All P xs
All-left P [] ys all = All-nil P
All-left P (x ∷ xs) ys all =
    All-cons P x xs (All-head P x (xs ++ ys) all) (All-left P xs ys (All-tail P x (xs ++ ys) all))

pairs_left : {X : Type 0} (S : X → X → Type 0) (xs ys : List X) → AllPairs S (xs ++ ys) → AllPairs S xs
pairs_left S [] ys pairs = AllPairs-nil S
pairs_left S (x ∷ xs) ys pairs =
    AllPairs-cons S x xs (All-left (S x) xs ys (AllPairs-head S x (xs ++ ys) pairs))
    (pairs_left S xs ys (AllPairs-tail S x (xs ++ ys) pairs))

-- the second of a list left out
without_second : {X : Type 0} (S : X → X → Type 0) (x y : X) (ys : List X) → AllPairs S (x ∷ (y ∷ ys)) →
    AllPairs S (x ∷ ys)
without_second S x y ys pairs =
    AllPairs-cons S x ys (All-tail (S x) y ys (AllPairs-head S x (y ∷ ys) pairs))
    (AllPairs-tail S y ys (AllPairs-tail S x (y ∷ ys) pairs))

module _ (R : Rule) (n : ℕ) where
  -- generation n of the two is apart
  abbrev AreApartThen : Generation → Generation → Type 0
  AreApartThen P Q = AreApart (generation R P n) (generation R Q n)

  abbrev they_meet : Generation → Generation → Bool
  they_meet P Q = meet (generation R P n) (generation R Q n)

  joined-met : (P Q : Generation) (Qs : List Generation) → they_meet P Q ≡ true →
      classes_with R n P (Q ∷ Qs) ≡ classes_with R n (union P Q) Qs
  unfolding classes_with
  joined-met P Q Qs e = ap (λ b. cond b (classes_with R n (union P Q) Qs) (Q ∷ classes_with R n P Qs)) e

  joined-apart : (P Q : Generation) (Qs : List Generation) → they_meet P Q ≡ false →
      classes_with R n P (Q ∷ Qs) ≡ Q ∷ classes_with R n P Qs
  unfolding classes_with
  joined-apart P Q Qs e = ap (λ b. cond b (classes_with R n (union P Q) Qs) (Q ∷ classes_with R n P Qs)) e

  joined-alone : (P : Generation) → classes_with R n P [] ≡ P ∷ []
  unfolding classes_with
  joined-alone P = refl

  apart_then : (P Q : Generation) → they_meet P Q ≡ false → AreApartThen P Q
  apart_then P Q e = apart_by_test (generation R P n) (generation R Q n) (λ met. true≢false (sym met ∙ e))

  -- ---- what is joined is apart

  joined_from : (Qs : List Generation) (P S : Generation) → AllPairs (AreApartBefore R n) (P ∷ Qs) →
      AreApartThen S P → All (AreApartThen S) Qs → All (AreApartThen S) (classes_with R n P Qs)
  joined_from [] P S before one rest =
      subst (All (AreApartThen S)) (sym (joined-alone P))
      (All-cons (AreApartThen S) P [] one (All-nil (AreApartThen S)))
  joined_from (Q ∷ Qs) P S before one rest =
      let then = All-head (AreApartThen S) Q Qs rest in
      let others = All-tail (AreApartThen S) Q Qs rest in
      let of_p = AllPairs-head (AreApartBefore R n) P (Q ∷ Qs) before in
      elim (cases_Bool (they_meet P Q)) [
        | inl met ↦
            subst (All (AreApartThen S)) (sym (joined-met P Q Qs met))
            (joined_from Qs (union P Q) S (pairs_with_union R n P Q Qs before)
            (union_apart_at R n n P Q S (All-head (AreApartBefore R n P) Q Qs of_p) one then) others)
        | inr apart ↦
            subst (All (AreApartThen S)) (sym (joined-apart P Q Qs apart))
            (All-cons (AreApartThen S) Q (classes_with R n P Qs) then
            (joined_from Qs P S (without_second (AreApartBefore R n) P Q Qs before) one others))
      ]

  joined_pairs : (Qs : List Generation) (P : Generation) → AllPairs (AreApartBefore R n) (P ∷ Qs) →
      AllPairs AreApartThen Qs → AllPairs AreApartThen (classes_with R n P Qs)
  joined_pairs [] P before pairs =
      subst (AllPairs AreApartThen) (sym (joined-alone P))
      (AllPairs-cons AreApartThen P [] (All-nil (AreApartThen P)) (AllPairs-nil AreApartThen))
  joined_pairs (Q ∷ Qs) P before pairs =
      let rest = AllPairs-tail AreApartThen Q Qs pairs in
      let without = without_second (AreApartBefore R n) P Q Qs before in
      elim (cases_Bool (they_meet P Q)) [
        | inl met ↦
            subst (AllPairs AreApartThen) (sym (joined-met P Q Qs met))
            (joined_pairs Qs (union P Q) (pairs_with_union R n P Q Qs before) rest)
        | inr apart ↦
            subst (AllPairs AreApartThen) (sym (joined-apart P Q Qs apart))
            (AllPairs-cons AreApartThen Q (classes_with R n P Qs)
            (joined_from Qs P Q without
            (AreApart-swap (generation R P n) (generation R Q n) (apart_then P Q apart))
            (AllPairs-head AreApartThen Q Qs pairs))
            (joined_pairs Qs P without rest))
      ]

module _ (R : Rule) (b n : ℕ) (G : Generation) (h : n ≤ b) where
  -- among any other sets
  joined_splits : (Qs Cs : List Generation) (P : Generation) → IsSplitting R b n G (P ∷ (Qs ++ Cs)) →
      IsSplitting R b n G (classes_with R n P Qs ++ Cs)
  joined_splits [] Cs P s = subst (λ Ps. IsSplitting R b n G (Ps ++ Cs)) (sym (joined-alone R n P)) s
  joined_splits (Q ∷ Qs) Cs P s =
      elim (cases_Bool (they_meet R n P Q)) [
        | inl met ↦
            subst (λ Ps. IsSplitting R b n G (Ps ++ Cs)) (sym (joined-met R n P Q Qs met))
            (joined_splits Qs Cs (union P Q)
            (with_union R b n G P Q (Qs ++ Cs) s h
            (λ far. test_by_apart (generation R P n) (generation R Q n) far met)))
        | inr apart ↦
            subst (λ Ps. IsSplitting R b n G (Ps ++ Cs)) (sym (joined-apart R n P Q Qs apart))
            (to_front R b n G Q (classes_with R n P Qs) Cs
            (joined_splits Qs (Q ∷ Cs) P
            (from_front R b n G Q (P ∷ Qs) Cs (to_front R b n G Q (P ∷ []) (Qs ++ Cs) s))))
      ]

  all_joined_splits : (Ps Cs : List Generation) → IsSplitting R b n G (Ps ++ Cs) →
      IsSplitting R b n G (classes_after_meeting R n Ps ++ Cs)
  unfolding classes_after_meeting
  all_joined_splits [] Cs s = s
  all_joined_splits (P ∷ Ps) Cs s =
      joined_splits (classes_after_meeting R n Ps) Cs P
      (to_front R b n G P (classes_after_meeting R n Ps) Cs
      (all_joined_splits Ps (P ∷ Cs) (from_front R b n G P Ps Cs s)))

  all_joined_pairs : (Ps Cs : List Generation) → IsSplitting R b n G (Ps ++ Cs) →
      AllPairs (AreApartThen R n) (classes_after_meeting R n Ps)
  unfolding classes_after_meeting
  all_joined_pairs [] Cs s = AllPairs-nil (AreApartThen R n)
  all_joined_pairs (P ∷ Ps) Cs s =
      let back = from_front R b n G P Ps Cs s in
      let front = to_front R b n G P (classes_after_meeting R n Ps) Cs (all_joined_splits Ps (P ∷ Cs) back) in
      joined_pairs R n (classes_after_meeting R n Ps) P
      (pairs_left (AreApartBefore R n) (P ∷ classes_after_meeting R n Ps) Cs front.before)
      (all_joined_pairs Ps (P ∷ Cs) back)

  next_splitting : (Ps : List Generation) → IsSplitting R b n G Ps → IsSplitting R b (suc n) G (classes_after_meeting R n Ps)
  next_splitting Ps s =
      let alone = subst (IsSplitting R b n G) (sym (append-nil Ps)) s in
      for_one_more R b n G (classes_after_meeting R n Ps)
      (subst (IsSplitting R b n G) (append-nil (classes_after_meeting R n Ps)) (all_joined_splits Ps [] alone))
      (all_joined_pairs Ps [] alone)

module _ (R : Rule) (b : ℕ) (G : Generation) where
  splitting_after : (n : ℕ) → n ≤ b + 1 → IsSplitting R b n G (classes R G n)
  unfolding classes
  splitting_after zero h = single_cells R b G
  splitting_after (suc n) h =
      next_splitting R b n G (omega arith) (classes R G n) (splitting_after n (omega arith))

  abbrev pub finest : List Generation
  finest = classes R G (suc b)

  s : IsSplitting R b (suc b) G finest
  s = splitting_after (suc b) (omega arith)

  pub finest_together : union_of finest ≡ G
  finest_together = s.together

  pub finest_whole : All (StaysWhole R b G) finest
  finest_whole = s.whole

  pub finest_apart : AllPairs (AreApartFor R b) finest
  finest_apart i j d h k n l = s.before i j d h k n (omega arith)
