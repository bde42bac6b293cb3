-- Whether an engine and what has left it stay apart for ever is determined by what each of them becomes alone.
use Rattle.std.proofs.Common.{◌≡◌, ℕ, zero, suc, ◌+◌, ◌-◌, ◌*◌, ◌%◌, ◌/◌, ◌<◌, ◌≤◌, true, List, [], ◌∷◌, map, inl, inr, sym, refl, ap, subst, ◌∙◌, mod-lt, div-add-mod', arith}
use Rattle.std.specs.List.{AllPairs, Contains}
use Rattle.std.proofs.lemmas.List.Elements.{All-cons, All-contains_itself, All-weaker}
use Rattle.std.proofs.lemmas.List.Kept.{AllPairs-cons}
use Rattle.life_model.specs.Cell.{Cell}
use Rattle.life_model.specs.Rule.{Rule}
use Rattle.life_model.specs.Generation.{Generation, contains}
use Rattle.life_model.specs.Evolution.{generation, next}
use Rattle.life_model.specs.Symmetry.{translate_of}
use Rattle.life_model.proofs.Moves.{moved-moved, moved-origin}
use Rattle.life_model.proofs.Recurrences.{generation-add, generation-zero}
use Rattle.life_model.proofs.Symmetries.{generation-moved}
use Rattle.life_objects.specs.Apart.{AreApart, AreApartForEver}
use Rattle.life_objects.specs.Drift.{multiple_of}
use Rattle.life_objects.specs.Union.{generations, union, union_of}
use Rattle.life_objects.proofs.Ashes.{AreApartForEver-later}
use Rattle.life_objects.proofs.Distances.{AreApart-swap, apart_from_union_of}
use Rattle.life_objects.proofs.Lists.{AllPairs-map, AllPairs-nil, AllPairs-weaker, Contains-head, Contains-later, head_or_later}
use Rattle.life_objects.proofs.Many.{next-union_of}
use Rattle.life_objects.proofs.Moving.{AreApart-moved, union-moved}
use Rattle.life_model.proofs.Symmetries.{next-moved}
use Rattle.life_objects.proofs.Unions.{in_first, union-assoc, union-empty}
use Rattle.life_growth.specs.Engine.{IsEngine, Way}
use Rattle.life_growth.specs.Onward.{AreNeverNear, IsNeverNear, LeavesCores, LeavesLefts, at_step, endless, accumulated}
use Rattle.life_growth.specs.Unsplit.{Leaves}
use Rattle.life_growth.proofs.Endless.{GoesOn, at_again, at_first, at_first_or_last, at_next, core_first, goes_on, left_first}
use Rattle.life_growth.proofs.Growing.{becomes, core_apart, generation-one, left_part}
use Rattle.life_growth.proofs.Parts.{IsPart, part_within, part_within_later}
use Rattle.life_growth.proofs.Velocities.{core_then, left_then}

module _ (R : Rule) where
  -- ---- a sequence of cores, and what leaves them at each step

  module _ (core left : ℕ → Generation) where
    -- what left in the m steps from step n on, each as it is then; what left last comes first
    pub olds : ℕ → ℕ → List Generation
    olds n zero = []
    olds n (suc m) = left (n + m) ∷ generations R (olds n m) 1

    pub record IsOld (n m : ℕ) (X : Generation) : Type 0 where
      pub step : ℕ
      pub age : ℕ
      pub times : suc step + age ≡ m
      pub same : X ≡ generation R (left (n + step)) age

    pub in_generations : (Ps : List Generation) (k : ℕ) (X : Generation) → Contains (generations R Ps k) X →
        (P : Generation) × Contains Ps P × (generation R P k ≡ X)
    in_generations [] k X one = let none : one.0 < 0 = one.1 in absurd (omega arith)
    in_generations (P ∷ Ps) k X one =
        elim (head_or_later (generation R P k) X (generations R Ps k) one.0 one.1 one.2) [
          | inl e ↦ (P, Contains-head P Ps, e)
          | inr later ↦ let q = in_generations Ps k X later in (q.0, Contains-later P q.0 Ps q.1, q.2)
        ]

    pub olds-are : (n m : ℕ) (X : Generation) → Contains (olds n m) X → IsOld n m X
    unfolding olds
    olds-are n zero X one = let none : one.0 < 0 = one.1 in absurd (omega arith)
    olds-are n (suc m) X one =
        elim (head_or_later (left (n + m)) X (generations R (olds n m) 1) one.0 one.1 one.2) [
          | inl e ↦ record { step = m; age = 0; times = omega arith; same = sym e ∙ sym (generation-zero R (left (n + m))) }
          | inr later ↦
              let P = in_generations (olds n m) 1 X later in
              let old = olds-are n m P.0 P.1 in
              let times : suc old.step + old.age ≡ m = old.times in
              record {
                step = old.step;
                age = old.age + 1;
                times = omega arith;
                same = sym P.2 ∙ ap (λ H. generation R H 1) old.same ∙ generation-add R (left (n + old.step)) old.age 1;
              }
        ]

    module _ (steps : (n : ℕ) → union (core (suc n)) (left n) ≡ next R (core n))
        (from_cores : (n m : ℕ) → AreApart (core (suc (n + m))) (generation R (left n) m))
        (from_lefts : (n k m : ℕ) → 1 ≤ k → AreApart (generation R (left n) (k + m)) (generation R (left (n + k)) m)) where
      -- what left last is apart from what left before
      last_apart : (n m : ℕ) (X : Generation) → Contains (generations R (olds n m) 1) X →
          AreApartForEver R (left (n + m)) X
      last_apart n m X one t =
          let P = in_generations (olds n m) 1 X one in
          let old = olds-are n m P.0 P.1 in
          let times : suc old.step + old.age ≡ m = old.times in
          let same : X ≡ generation R (left (n + old.step)) (suc old.age) =
          sym P.2 ∙ ap (λ H. generation R H 1) old.same ∙ generation-add R (left (n + old.step)) old.age 1
          ∙ ap (generation R (left (n + old.step))) (let e : old.age + 1 ≡ suc old.age = omega arith in e) in
          let far : AreApart (generation R (left (n + old.step)) (suc old.age + t))
          (generation R (left ((n + old.step) + suc old.age)) t) =
          from_lefts (n + old.step) (suc old.age) t (omega arith) in
          AreApart-swap (generation R X t) (generation R (left (n + m)) t)
          (subst (λ H. AreApart H (generation R (left (n + m)) t))
          (sym (generation-add R (left (n + old.step)) (suc old.age) t) ∙ ap (λ H. generation R H t) (sym same))
          (subst (λ k. AreApart (generation R (left (n + old.step)) (suc old.age + t)) (generation R (left k) t))
          (let e : (n + old.step) + suc old.age ≡ n + m = omega arith in e) far))

      pub olds_apart : (n m : ℕ) → AllPairs (AreApartForEver R) (olds n m)
      unfolding olds
      olds_apart n zero = AllPairs-nil (AreApartForEver R)
      olds_apart n (suc m) =
          AllPairs-cons (AreApartForEver R) (left (n + m)) (generations R (olds n m) 1)
          (All-weaker (Contains (generations R (olds n m) 1)) (AreApartForEver R (left (n + m))) (last_apart n m)
          (generations R (olds n m) 1) (All-contains_itself (generations R (olds n m) 1)))
          (AllPairs-map (AreApartForEver R) (λ P. generation R P 1) (olds n m)
          (AllPairs-weaker (AreApartForEver R) (λ P Q. AreApartForEver R (generation R P 1) (generation R Q 1))
          (AreApartForEver-later R 1) (olds n m) (olds_apart n m)))

      core_from_old : (n m : ℕ) (X : Generation) → Contains (olds n m) X → AreApart (core (n + m)) X
      core_from_old n m X one =
          let old = olds-are n m X one in
          let times : suc old.step + old.age ≡ m = old.times in
          subst (AreApart (core (n + m))) (sym old.same)
          (subst (λ k. AreApart (core k) (generation R (left (n + old.step)) old.age))
          (let e : suc ((n + old.step) + old.age) ≡ n + m = omega arith in e) (from_cores (n + old.step) old.age))

      abbrev pieces : ℕ → ℕ → List Generation
      pieces n m = core (n + m) ∷ olds n m

      apart_now : (P Q : Generation) → AreApartForEver R P Q → AreApart P Q
      unfolding generation
      apart_now P Q far = far 0

      pieces_apart : (n m : ℕ) → AllPairs AreApart (pieces n m)
      pieces_apart n m =
          AllPairs-cons AreApart (core (n + m)) (olds n m)
          (All-weaker (Contains (olds n m)) (AreApart (core (n + m))) (core_from_old n m) (olds n m)
          (All-contains_itself (olds n m)))
          (AllPairs-weaker (AreApartForEver R) AreApart apart_now (olds n m) (olds_apart n m))

      next_olds : (Ps : List Generation) → map (next R) Ps ≡ generations R Ps 1
      next_olds [] = refl
      next_olds (P ∷ Ps) = λ i. sym (generation-one R P) i ∷ next_olds Ps i

      pub made_of_pieces : (n m : ℕ) → generation R (core n) m ≡ union_of (pieces n m)
      unfolding olds generation
      made_of_pieces n zero =
          ap core (let e : n ≡ n + 0 = omega arith in e) ∙ sym (union-empty (core (n + 0)))
      made_of_pieces n (suc m) =
          ap (next R) (made_of_pieces n m) ∙ next-union_of R (pieces n m) (pieces_apart n m)
          ∙ (λ i. union (sym (steps (n + m)) i) (union_of (next_olds (olds n m) i)))
          ∙ union-assoc (core (suc (n + m))) (left (n + m)) (union_of (generations R (olds n m) 1))
          ∙ ap (λ k. union (core k) (union (left (n + m)) (union_of (generations R (olds n m) 1))))
          (let e : suc (n + m) ≡ n + suc m = omega arith in e)

      -- what has left is apart for ever from the core
      pub left_for_ever : (n : ℕ) → AreApartForEver R (core (suc n)) (left n)
      left_for_ever n t =
          AreApart-swap (generation R (left n) t) (generation R (core (suc n)) t)
          (subst (AreApart (generation R (left n) t)) (sym (made_of_pieces (suc n) t))
          (apart_from_union_of (generation R (left n) t) (pieces (suc n) t)
          (All-cons (AreApart (generation R (left n) t)) (core (suc n + t)) (olds (suc n) t)
          (AreApart-swap (core (suc n + t)) (generation R (left n) t)
          (subst (λ k. AreApart (core k) (generation R (left n) t))
          (let e : suc (n + t) ≡ suc n + t = omega arith in e) (from_cores n t)))
          (All-weaker (Contains (olds (suc n) t)) (AreApart (generation R (left n) t))
          (λ X one.
          let old = olds-are (suc n) t X one in
          let times : suc old.step + old.age ≡ t = old.times in
          subst (AreApart (generation R (left n) t)) (sym old.same)
          (subst (λ k. AreApart (generation R (left n) k) (generation R (left (suc n + old.step)) old.age)) times
          (subst (λ k. AreApart (generation R (left n) (suc old.step + old.age)) (generation R (left k) old.age))
          (let e : n + suc old.step ≡ suc n + old.step = omega arith in e)
          (from_lefts n (suc old.step) old.age (omega arith)))))
          (olds (suc n) t) (All-contains_itself (olds (suc n) t))))))

      -- what is apart from the pieces at a time is apart from what the first core has become
      pub apart_from_pieces : (Y : Generation) (t : ℕ) → AreApart (core t) Y →
          ((n m : ℕ) → suc n + m ≡ t → AreApart (generation R (left n) m) Y) → AreApart (generation R (core 0) t) Y
      apart_from_pieces Y t from_core from_left =
          AreApart-swap Y (generation R (core 0) t)
          (subst (AreApart Y) (sym (made_of_pieces 0 t))
          (apart_from_union_of Y (pieces 0 t)
          (All-cons (AreApart Y) (core (0 + t)) (olds 0 t)
          (AreApart-swap (core (0 + t)) Y
          (subst (λ k. AreApart (core k) Y) (let e : t ≡ 0 + t = omega arith in e) from_core))
          (All-weaker (Contains (olds 0 t)) (AreApart Y)
          (λ X one.
          let old = olds-are 0 t X one in
          let times : suc old.step + old.age ≡ t = old.times in
          subst (AreApart Y) (sym old.same)
          (AreApart-swap (generation R (left (0 + old.step)) old.age) Y
          (subst (λ k. AreApart (generation R (left k) old.age) Y) (let e : old.step ≡ 0 + old.step = omega arith in e)
          (from_left old.step old.age times))))
          (olds 0 t) (All-contains_itself (olds 0 t))))))

  -- ---- from one period to all

  times_of : (s : ℕ → Generation) (p : ℕ) (d : Cell) → ((n : ℕ) → s (n + p) ≡ translate_of (s n) d) → (n k : ℕ) →
      s (n + k * p) ≡ translate_of (s n) (multiple_of k d)
  times_of s p d again n zero = ap s (let e : n + 0 * p ≡ n = omega arith in e) ∙ sym (moved-origin (s n))
  times_of s p d again n (suc k) =
      ap s (let e : n + suc k * p ≡ (n + k * p) + p = omega arith in e) ∙ again (n + k * p)
      ∙ ap (λ H. translate_of H d) (times_of s p d again n k) ∙ moved-moved (s n) (multiple_of k d) d

  module _ (way : Way) (later : 1 ≤ way.period)
      (again : way.core way.period ≡ translate_of (way.core 0) way.displacement)
      (steps : (n : ℕ) → n < way.period → union (way.core (suc n)) (way.left n) ≡ next R (way.core n)) where
    abbrev p : ℕ
    p = way.period

    abbrev core : ℕ → Generation
    core = at_step way way.core

    abbrev left : ℕ → Generation
    left = at_step way way.left

    all_steps : (n : ℕ) → union (core (suc n)) (left n) ≡ next R (core n)
    all_steps n =
        let r : ℕ = n % p in
        let by : Cell = multiple_of (n / p) way.displacement in
        ap (λ H. union H (left n)) (at_next way later way.core n again)
        ∙ sym (union-moved (way.core (suc r)) (way.left r) by)
        ∙ ap (λ H. translate_of H by) (steps r (mod-lt n later)) ∙ sym (next-moved R (way.core r) by)

    module _ (sets : ℕ → Generation) where
      shifted : (n m : ℕ) → at_step way sets (n + m) ≡
          translate_of (at_step way sets (n % p + m)) (multiple_of (n / p) way.displacement)
      shifted n m =
          let e : n / p * p + n % p ≡ n = div-add-mod' n p in
          ap (at_step way sets) (let z : n + m ≡ (n % p + m) + n / p * p = omega arith in z)
          ∙ times_of (at_step way sets) p way.displacement (at_again way later sets) (n % p + m) (n / p)

    both_moved : (A B : Generation) (m : ℕ) (e : Cell) (C D : Generation) → C ≡ translate_of A e →
        D ≡ translate_of B e → AreApart A B → AreApart C D
    both_moved A B m e C D c d far =
        subst (AreApart C) (sym d) (subst (λ H. AreApart H (translate_of B e)) (sym c) (AreApart-moved A B e far))

    all_from_cores : LeavesCores R way → (n m : ℕ) → AreApart (core (suc (n + m))) (generation R (left n) m)
    all_from_cores from n m =
        let r : ℕ = n % p in
        let by : Cell = multiple_of (n / p) way.displacement in
        both_moved (core (suc (r + m))) (generation R (way.left r) m) m by (core (suc (n + m))) (generation R (left n) m)
        (ap core (let z : suc (n + m) ≡ n + suc m = omega arith in z) ∙ shifted way.core n (suc m)
        ∙ ap (λ k. translate_of (core k) by) (let z : r + suc m ≡ suc (r + m) = omega arith in z))
        (generation-moved R (way.left r) by m) (from r m (mod-lt n later))

    all_from_lefts : LeavesLefts R way → (n k m : ℕ) → 1 ≤ k →
        AreApart (generation R (left n) (k + m)) (generation R (left (n + k)) m)
    all_from_lefts from n k m h =
        let r : ℕ = n % p in
        let by : Cell = multiple_of (n / p) way.displacement in
        both_moved (generation R (way.left r) (k + m)) (generation R (left (r + k)) m) m by
        (generation R (left n) (k + m)) (generation R (left (n + k)) m)
        (generation-moved R (way.left r) by (k + m))
        (ap (λ H. generation R H m) (shifted way.left n k) ∙ generation-moved R (left (r + k)) by m)
        (from r k m (mod-lt n later) h)

    pub left_apart : LeavesCores R way → LeavesLefts R way → (n : ℕ) → n < p →
        AreApartForEver R (way.core (suc n)) (way.left n)
    left_apart cores lefts n h =
        subst (λ H. AreApartForEver R H (way.left n)) (at_first_or_last way later way.core again (suc n) (omega arith))
        (subst (AreApartForEver R (core (suc n))) (at_first way later way.left n h)
        (left_for_ever core left all_steps (all_from_cores cores) (all_from_lefts lefts) n))

    pub leaves_for_ever : LeavesCores R way → LeavesLefts R way → (n : ℕ) → n < p →
        Leaves R (way.core n) (way.core (suc n)) (way.left n)
    leaves_for_ever cores lefts n h = record { together = steps n h; apart = left_apart cores lefts n h }

  -- ---- of an engine

  module _ (b : ℕ) (E : Generation) (way : Way) (engine : IsEngine R b E way) where
    abbrev on : GoesOn R b (endless way)
    on = goes_on R b E way engine

    pub cores_then : (n m : ℕ) → AreApart ((endless way).core (suc (n + m))) (generation R ((endless way).left n) m)
    cores_then n m =
        let far : AreApartForEver R ((endless way).core (suc n)) ((endless way).left n) = (on.leaves n).apart in
        let part = core_then R b (endless way) on n m in
        λ c d h k near. far m c d
        (ap (λ i. contains (generation R ((endless way).core i) m) c) (let e : suc n ≡ suc n + 0 = omega arith in e)
        ∙ part_within R _ _ part c (ap (λ i. contains ((endless way).core i) c)
        (let e : suc n + m ≡ suc (n + m) = omega arith in e) ∙ h)) k near

    pub lefts_then : (n k m : ℕ) → 1 ≤ k →
        AreApart (generation R ((endless way).left n) (k + m)) (generation R ((endless way).left (n + k)) m)
    lefts_then n k m h =
        let far = left_then R b (endless way) on n (k - 1) in
        AreApart-swap (generation R ((endless way).left (n + k)) m) (generation R ((endless way).left n) (k + m))
        (subst (AreApart (generation R ((endless way).left (n + k)) m)) (generation-add R ((endless way).left n) k m)
        (subst (λ i. AreApart (generation R ((endless way).left (n + k)) m)
        (generation R (generation R ((endless way).left n) i) m)) (let e : (k - 1) + 1 ≡ k = omega arith in e)
        (subst (λ i. AreApart (generation R ((endless way).left i) m)
        (generation R (generation R ((endless way).left n) ((k - 1) + 1)) m))
        (let e : suc n + (k - 1) ≡ n + k = omega arith in e) (far m))))

    pub engine_leaves_cores : LeavesCores R way
    engine_leaves_cores n m h =
        subst (λ H. AreApart ((endless way).core (suc (n + m))) (generation R H m)) (left_first R b E way engine n h)
        (cores_then n m)

    pub engine_leaves_lefts : LeavesLefts R way
    engine_leaves_lefts n k m h l =
        subst (λ H. AreApart (generation R H (k + m)) (generation R ((endless way).left (n + k)) m))
        (left_first R b E way engine n h) (lefts_then n k m l)

    pub starts : (endless way).core 0 ≡ E
    starts = core_first R b E way engine 0 (omega arith) ∙ engine.start

    pub core_in : (n : ℕ) (c : Cell) → contains ((endless way).core n) c ≡ true →
        contains (generation R ((endless way).core 0) n) c ≡ true
    core_in n c h = ap (λ H. contains H c) (becomes R b (endless way) on n) ∙ in_first _ _ c h

    pub left_in : (n m : ℕ) (c : Cell) → contains (generation R ((endless way).left n) m) c ≡ true →
        contains (generation R ((endless way).core 0) (suc n + m)) c ≡ true
    left_in n m c h =
        let core = (endless way).core n in
        let first = (endless way).core 0 in
        let of_next : contains (generation R (next R core) m) c ≡ true =
        part_within_later R ((endless way).left n) (next R core)
        (left_part R core ((endless way).core (suc n)) ((endless way).left n) (on.leaves n)) m c h in
        let of_core : contains (generation R core (1 + m)) c ≡ true =
        ap (λ H. contains H c) (sym (generation-add R core 1 m) ∙ ap (λ H. generation R H m) (generation-one R core))
        ∙ of_next in
        let part : IsPart R core (generation R first n) = record {
          rest = accumulated R (endless way).left n;
          together = sym (becomes R b (endless way) on n);
          apart = core_apart R b (endless way) on n;
        } in
        ap (λ H. contains H c) (ap (generation R first) (let e : suc n + m ≡ n + (1 + m) = omega arith in e)
        ∙ sym (generation-add R first n (1 + m)))
        ∙ part_within_later R core (generation R first n) part (1 + m) c of_core

    -- what is apart from the core, and from what has left, is apart from what the engine has become
    pub apart_at : (Y : Generation) (t : ℕ) → AreApart ((endless way).core t) Y →
        ((n m : ℕ) → suc n + m ≡ t → AreApart (generation R ((endless way).left n) m) Y) → AreApart (generation R E t) Y
    apart_at Y t from_core from_left =
        subst (λ H. AreApart (generation R H t) Y) starts
        (apart_from_pieces (endless way).core (endless way).left (λ n. (on.leaves n).together) cores_then lefts_then Y t
        from_core from_left)

    pub core_from_all : (Y : Generation) (t : ℕ) → AreApart (generation R E t) Y → AreApart ((endless way).core t) Y
    core_from_all Y t far c d h k near =
        far c d (ap (λ H. contains (generation R H t) c) (sym starts) ∙ core_in t c h) k near

    pub left_from_all : (Y : Generation) (n m : ℕ) → AreApart (generation R E (suc n + m)) Y →
        AreApart (generation R ((endless way).left n) m) Y
    left_from_all Y n m far c d h k near =
        far c d (ap (λ H. contains (generation R H (suc n + m)) c) (sym starts) ∙ left_in n m c h) k near

    pub apart_by_never_near : (X : Generation) → IsNeverNear R way X → AreApartForEver R E X
    apart_by_never_near X never t =
        apart_at (generation R X t) t (never.core t)
        (λ n m e. subst (λ k. AreApart (generation R ((endless way).left n) m) (generation R X k)) e (never.left n m))

    pub never_near_by_apart : (X : Generation) → AreApartForEver R E X → IsNeverNear R way X
    never_near_by_apart X far = record {
      core = λ n. core_from_all (generation R X n) n (far n);
      left = λ n m. left_from_all (generation R X (suc n + m)) n m (far (suc n + m));
    }

  -- ---- two engines

  module _ (b c : ℕ) (E F : Generation) (way other : Way) (engine : IsEngine R b E way) (too : IsEngine R c F other) where
    pub engines_apart_by_never_near : AreNeverNear R way other → AreApartForEver R E F
    engines_apart_by_never_near never t =
        apart_at b E way engine (generation R F t) t
        (AreApart-swap (generation R F t) ((endless way).core t)
        (apart_at c F other too ((endless way).core t) t
        (AreApart-swap ((endless way).core t) ((endless other).core t) (never.cores t))
        (λ n m e. AreApart-swap ((endless way).core t) (generation R ((endless other).left n) m)
        (subst (λ k. AreApart ((endless way).core k) (generation R ((endless other).left n) m)) e (never.core_left n m)))))
        (λ n m e. AreApart-swap (generation R F t) (generation R ((endless way).left n) m)
        (apart_at c F other too (generation R ((endless way).left n) m) t
        (AreApart-swap (generation R ((endless way).left n) m) ((endless other).core t)
        (subst (λ k. AreApart (generation R ((endless way).left n) m) ((endless other).core k)) e (never.left_core n m)))
        (λ k l f. AreApart-swap (generation R ((endless way).left n) m) (generation R ((endless other).left k) l)
        (never.lefts n m k l (omega arith)))))

    pub engines_never_near_by_apart : AreApartForEver R E F → AreNeverNear R way other
    engines_never_near_by_apart far =
        let one : (t : ℕ) → AreApart ((endless way).core t) (generation R F t) =
        λ t. core_from_all b E way engine (generation R F t) t (far t) in
        let left : (n m : ℕ) → AreApart (generation R ((endless way).left n) m) (generation R F (suc n + m)) =
        λ n m. left_from_all b E way engine (generation R F (suc n + m)) n m (far (suc n + m)) in
        let back : (Y : Generation) (t : ℕ) → AreApart Y (generation R F t) → AreApart Y ((endless other).core t) =
        λ Y t h. AreApart-swap ((endless other).core t) Y
        (core_from_all c F other too Y t (AreApart-swap Y (generation R F t) h)) in
        let back_left : (Y : Generation) (n m : ℕ) → AreApart Y (generation R F (suc n + m)) →
        AreApart Y (generation R ((endless other).left n) m) =
        λ Y n m h. AreApart-swap (generation R ((endless other).left n) m) Y
        (left_from_all c F other too Y n m (AreApart-swap Y (generation R F (suc n + m)) h)) in
        record {
          cores = λ n. back ((endless way).core n) n (one n);
          core_left = λ n m. back_left ((endless way).core (suc n + m)) n m (one (suc n + m));
          left_core = λ n m. back (generation R ((endless way).left n) m) (suc n + m) (left n m);
          lefts = λ n m k l e.
              back_left (generation R ((endless way).left n) m) k l
              (subst (λ t. AreApart (generation R ((endless way).left n) m) (generation R F t))
              (let f : suc n + m ≡ suc k + l = omega arith in f) (left n m));
        }
