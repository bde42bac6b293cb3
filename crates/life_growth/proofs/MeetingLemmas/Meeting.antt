-- A search decides whether two things meet.
use Rattle.std.proofs.Common.{◌≡◌, ℕ, zero, suc, ℤ, pos, negsuc, neg_ℤ, ◌≤ℤ◌, ◌+◌, ◌*◌, ◌<◌, Bool, true, List, [], ◌∷◌, ◌++◌, map, inl, inr, sym, refl, ap, subst, ◌∙◌, arith}
use Rattle.std.specs.Prelude.{not, nat_le, unsigned_abs}
use Rattle.std.specs.List.{Contains, list_all}
use Rattle.std.proofs.lemmas.Bool.{and_from, leb-true, and_parts}
use Rattle.std.proofs.lemmas.Int.{ints}
use Rattle.life_model.specs.Cell.{Cell, opposite, plus, same_cell}
use Rattle.life_model.specs.Generation.{Generation, cells, contains}
use Rattle.life_model.specs.Symmetry.{translate_of}
use Rattle.life_model.proofs.Cells.{pair, same_cell-is}
use Rattle.life_model.proofs.Generations.{contains-cells}
use Rattle.life_model.proofs.Symmetries.{contains-moved}
use Rattle.life_objects.specs.Apart.{AreNear}
use Rattle.life_objects.specs.Drift.{multiple_of}
use Rattle.life_objects.proofs.Lists.{Contains-head, Contains-later, head_or_later}
use Rattle.life_objects.proofs.DecidedLemmas.Tests.{abs_small, not_true, true_not}
use Rattle.life_objects.proofs.Found.{Contains-flat_map, of_flat_map, of_map}
use Rattle.life_growth.specs.Things.{NeverMeet, Thing, move_of, time_of, time_then}
use Rattle.life_growth.specs.Meeting.Meeting.{near_by, nearness, never_meet, step_back, step_of, step_to, steps_between}
use Rattle.life_growth.specs.Meeting.Sums.{Step, and_then, is_sum, stay, sum_of, times}
use Rattle.life_growth.proofs.MeetingLemmas.Reach.{any_by, any_tells, mapped, step_is, step_pair, stay-then}
use Rattle.life_growth.proofs.MeetingLemmas.Sums.{numbers_by_search, search_by_numbers}

-- ---- each element

module _ {X : Type 0} (p : X → Bool) where
  pub all_tells : (xs : List X) (x : X) → list_all p xs ≡ true → Contains xs x → p x ≡ true
  all_tells [] x h one = let none : one.0 < 0 = one.1 in absurd (omega arith)
  all_tells (y ∷ ys) x h one =
      let parts = and_parts (p y) (list_all p ys) h in
      elim (head_or_later y x ys one.0 one.1 one.2) [
        | inl e ↦ ap p (sym e) ∙ parts.0
        | inr later ↦ all_tells ys x parts.1 later
      ]

  pub all_by : (xs : List X) → ((x : X) → Contains xs x → p x ≡ true) → list_all p xs ≡ true
  all_by [] each = refl
  all_by (x ∷ xs) each =
      and_from (p x) (list_all p xs) (each x (Contains-head x xs))
      (all_by xs (λ y of. each y (Contains-later x y xs of)))

listed : (P : Generation) (c : Cell) → contains P c ≡ true → Contains (cells P) c
listed P c h =
    let q = any_tells (same_cell c) (cells P) (sym (contains-cells P c) ∙ h) in
    subst (Contains (cells P)) (sym ((same_cell-is c q.0).0 q.2)) q.1

of_listed : (P : Generation) (c : Cell) → Contains (cells P) c → contains P c ≡ true
of_listed P c h = contains-cells P c ∙ any_by (same_cell c) (cells P) c h ((same_cell-is c c).1 refl)

-- ---- places near a cell

near_number : (x : ℤ) → neg_ℤ (pos 2) ≤ℤ x → x ≤ℤ pos 2 → Contains near_by x
near_number (pos zero) h k = (2, omega arith, refl)
near_number (pos (suc zero)) h k = (3, omega arith, refl)
near_number (pos (suc (suc zero))) h k = (4, omega arith, refl)
near_number (pos (suc (suc (suc n)))) h k = absurd (omega (arith, ints))
near_number (negsuc zero) h k = (1, omega arith, refl)
near_number (negsuc (suc zero)) h k = (0, omega arith, refl)
near_number (negsuc (suc (suc n))) h k = absurd (omega (arith, ints))

of_near_number : (x : ℤ) → Contains near_by x → (neg_ℤ (pos 2) ≤ℤ x) × (x ≤ℤ pos 2)
of_near_number x one =
    abs_small x 2 (leb-true (unsigned_abs x) 2 (all_tells (λ y. nat_le (unsigned_abs y) 2) near_by x refl one))

near_place : (o : Cell) → Contains near_by o.0 → Contains near_by o.1 → Contains nearness o
near_place o one two =
    Contains-flat_map (λ x. map (λ y. (x, y)) near_by) near_by o.0 o one (mapped (λ y. (o.0, y)) near_by o.1 two)

of_near_place : (o : Cell) → Contains nearness o → Contains near_by o.0 × Contains near_by o.1
of_near_place o one =
    let q = of_flat_map (λ x. map (λ y. (x, y)) near_by) near_by o one in
    let r = of_map (λ y. (q.0, y)) near_by o q.2 in
    (subst (Contains near_by) (ap (λ c. c.0) r.2) q.1, subst (Contains near_by) (ap (λ c. c.1) r.2) r.1)

-- ---- steps and ways

times_way : (k : ℕ) (w : ℕ × Cell) → times k (step_of w) ≡ (pos (k * w.0), multiple_of k w.1)
times_way zero w = step_pair (let z : 0 ≡ zero * w.0 = omega arith in ap pos z) refl
times_way (suc k) w =
    ap (λ u. and_then u (step_of w)) (times_way k w)
    ∙ step_pair (let z : k * w.0 + w.0 ≡ suc k * w.0 = omega arith in omega (arith, ints)) refl

times_back : (k : ℕ) (w : ℕ × Cell) → times k (step_back w) ≡ (neg_ℤ (pos (k * w.0)), opposite (multiple_of k w.1))
times_back zero w =
    step_pair (let z : 0 ≡ zero * w.0 = omega arith in omega (arith, ints)) (pair (omega (arith, ints)) (omega (arith, ints)))
times_back (suc k) w =
    ap (λ u. and_then u (step_back w)) (times_back k w)
    ∙ step_pair (let z : k * w.0 + w.0 ≡ suc k * w.0 = omega arith in omega (arith, ints))
    (pair (omega (arith, ints)) (omega (arith, ints)))

abbrev pub forth : List (ℕ × Cell) → List ℕ → Step
forth ws k = (pos (time_of ws k), move_of ws k)

abbrev pub back : List (ℕ × Cell) → List ℕ → Step
back vs l = (neg_ℤ (pos (time_of vs l)), opposite (move_of vs l))

sum_back : (vs : List (ℕ × Cell)) (l : List ℕ) → sum_of (map step_back vs) l ≡ back vs l
sum_back [] l = step_is stay (back [] l) (omega (arith, ints)) (omega (arith, ints)) (omega (arith, ints))
sum_back (v ∷ vs) [] = step_is stay (back (v ∷ vs) []) (omega (arith, ints)) (omega (arith, ints)) (omega (arith, ints))
sum_back (v ∷ vs) (i ∷ l) =
    ap (λ u. and_then u (sum_of (map step_back vs) l)) (times_back i v)
    ∙ ap (and_then (neg_ℤ (pos (i * v.0)), opposite (multiple_of i v.1))) (sum_back vs l)
    ∙ step_is (and_then (neg_ℤ (pos (i * v.0)), opposite (multiple_of i v.1)) (back vs l)) (back (v ∷ vs) (i ∷ l))
    (omega (arith, ints)) (omega (arith, ints)) (omega (arith, ints))

one_more_way : (i : ℕ) (w : ℕ × Cell) (ws : List (ℕ × Cell)) (k : List ℕ) (u x : Step) → u ≡ and_then (forth ws k) x →
    and_then (times i (step_of w)) u ≡ and_then (forth (w ∷ ws) (i ∷ k)) x
one_more_way i w ws k u x e =
    ap (λ v. and_then v u) (times_way i w) ∙ ap (and_then (pos (i * w.0), multiple_of i w.1)) e
    ∙ step_is (and_then (pos (i * w.0), multiple_of i w.1) (and_then (forth ws k) x)) (and_then (forth (w ∷ ws) (i ∷ k)) x)
    (omega (arith, ints)) (omega (arith, ints)) (omega (arith, ints))

no_way : (x : Step) (k : List ℕ) → x ≡ and_then (forth [] k) x
no_way x k = step_is x (and_then (forth [] k) x) (omega (arith, ints)) (omega (arith, ints)) (omega (arith, ints))

ways_unmade : (w : ℕ × Cell) (ws : List (ℕ × Cell)) (x : Step) → and_then (forth ws []) x ≡ and_then (forth (w ∷ ws) []) x
ways_unmade w [] x = refl
ways_unmade w (v ∷ ws) x = refl

back_none : (vs : List (ℕ × Cell)) → back vs [] ≡ stay
back_none [] = refl
back_none (v ∷ vs) = refl

pub joined : (ws vs : List (ℕ × Cell)) (k l : List ℕ) →
    (often : List ℕ) × (sum_of (map step_of ws ++ map step_back vs) often ≡ and_then (forth ws k) (back vs l))
joined [] vs k l = (l, sum_back vs l ∙ no_way (back vs l) k)
joined (w ∷ ws) vs [] l =
    let q = joined ws vs [] l in (0 ∷ q.0, stay-then (sum_of (map step_of ws ++ map step_back vs) q.0) ∙ q.1 ∙ ways_unmade w ws (back vs l))
joined (w ∷ ws) vs (i ∷ k) l =
    let q = joined ws vs k l in
    (i ∷ q.0, one_more_way i w ws k (sum_of (map step_of ws ++ map step_back vs) q.0) (back vs l) q.1)

pub parted : (ws vs : List (ℕ × Cell)) (often : List ℕ) →
    (k l : List ℕ) × (sum_of (map step_of ws ++ map step_back vs) often ≡ and_then (forth ws k) (back vs l))
parted [] vs often = ([], often, sum_back vs often ∙ no_way (back vs often) [])
parted (w ∷ ws) vs [] = ([], [], sym (ap (and_then (forth (w ∷ ws) [])) (back_none vs)))
parted (w ∷ ws) vs (i ∷ often) =
    let q = parted ws vs often in
    (i ∷ q.0, q.1, one_more_way i w ws q.0 (sum_of (map step_of ws ++ map step_back vs) often) (back vs q.1) q.2)

-- ---- meetings

module _ (A B : Thing) where
  abbrev us : List Step
  us = steps_between A B

  abbrev meets : Cell → Cell → Cell → Bool
  meets c d o = not (is_sum us (step_to A B c d o))

  module _ (c d o : Cell) (k l : List ℕ) where
    abbrev m : Cell
    m = move_of A.ways k

    abbrev n : Cell
    n = move_of B.ways l

    to_place : time_then A k ≡ time_then B l → plus (plus d n) o ≡ plus c m →
        and_then (forth A.ways k) (back B.ways l) ≡ step_to A B c d o
    to_place e same =
        let x = ap (λ u. u.0) same in
        let y = ap (λ u. u.1) same in
        step_is (and_then (forth A.ways k) (back B.ways l)) (step_to A B c d o) (omega (arith, ints)) (omega (arith, ints))
        (omega (arith, ints))

    times_by : and_then (forth A.ways k) (back B.ways l) ≡ step_to A B c d o → time_then A k ≡ time_then B l
    times_by e = let t = ap (λ u. u.0) e in omega (arith, ints)

    near_by_step : and_then (forth A.ways k) (back B.ways l) ≡ step_to A B c d o → Contains nearness o →
        AreNear (plus c m) (plus d n)
    near_by_step e of =
        let x = ap (λ u. u.1.0) e in
        let y = ap (λ u. u.1.1) e in
        let places = of_near_place o of in
        let wide = of_near_number o.0 places.0 in
        let high = of_near_number o.1 places.1 in
        let a = wide.0 in
        let b = wide.1 in
        let f = high.0 in
        let g = high.1 in
        record {
          left = omega (arith, ints);
          right = omega (arith, ints);
          above = omega (arith, ints);
          below = omega (arith, ints);
        }

  pub never_by_search : never_meet A B ≡ true → NeverMeet A B
  unfolding never_meet
  never_by_search h k l e g f in_g in_f near =
      let m : Cell = move_of A.ways k in
      let n : Cell = move_of B.ways l in
      let c : Cell = plus g (opposite m) in
      let d : Cell = plus f (opposite n) in
      let o : Cell = plus g (opposite f) in
      let left = near.left in
      let right = near.right in
      let above = near.above in
      let below = near.below in
      let q = joined A.ways B.ways k l in
      let at : and_then (forth A.ways k) (back B.ways l) ≡ step_to A B c d o =
      to_place c d o k l e (pair (omega (arith, ints)) (omega (arith, ints))) in
      not_true (is_sum us (step_to A B c d o))
      (all_tells (meets c d) nearness o
      (all_tells (λ d. list_all (meets c d) nearness) (cells B.set) d
      (all_tells (λ c. list_all (λ d. list_all (meets c d) nearness) (cells B.set)) (cells A.set) c h
      (listed A.set c (sym (contains-moved A.set m g) ∙ in_g)))
      (listed B.set d (sym (contains-moved B.set n f) ∙ in_f)))
      (near_place o (near_number o.0 (omega (arith, ints)) (omega (arith, ints)))
      (near_number o.1 (omega (arith, ints)) (omega (arith, ints)))))
      (search_by_numbers us (step_to A B c d o) (q.0, q.1 ∙ at))

  moved_there : (P : Generation) (c m : Cell) → Contains (cells P) c → contains (translate_of P m) (plus c m) ≡ true
  moved_there P c m of =
      contains-moved P m (plus c m) ∙ ap (contains P) (pair (omega (arith, ints)) (omega (arith, ints))) ∙ of_listed P c of

  pub search_by_never : NeverMeet A B → never_meet A B ≡ true
  unfolding never_meet
  search_by_never never =
      all_by (λ c. list_all (λ d. list_all (meets c d) nearness) (cells B.set)) (cells A.set) (λ c in_A.
      all_by (λ d. list_all (meets c d) nearness) (cells B.set) (λ d in_B.
      all_by (meets c d) nearness (λ o of.
      true_not (is_sum us (step_to A B c d o)) (λ found.
      let q = numbers_by_search us (step_to A B c d o) found in
      let r = parted A.ways B.ways q.0 in
      let k : List ℕ = r.0 in
      let l : List ℕ = r.1 in
      let e : and_then (forth A.ways k) (back B.ways l) ≡ step_to A B c d o = sym r.2 ∙ q.1 in
      never k l (times_by c d o k l e) (plus c (move_of A.ways k)) (plus d (move_of B.ways l))
      (moved_there A.set c (move_of A.ways k) in_A) (moved_there B.set d (move_of B.ways l) in_B)
      (near_by_step c d o k l e of)))))
