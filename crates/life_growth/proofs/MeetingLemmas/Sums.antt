-- A search decides whether a step is a sum of steps.
use Rattle.std.proofs.Common.{◌≡◌, ℕ, ℤ, pos, ◌+ℤ◌, ◌+◌, ◌*◌, true, List, [], ◌∷◌, sym, refl, ap, subst, ◌∙◌, arith}
use Rattle.std.specs.Prelude.{unsigned_abs}
use Rattle.std.specs.List.{Contains, list_any}
use Rattle.std.proofs.lemmas.Bool.{eqb-true, eq-eqb}
use Rattle.std.proofs.lemmas.Int.{ints}
use Rattle.life_objects.proofs.Lists.{Contains-head, Contains-later}
use Rattle.life_objects.proofs.DecidedLemmas.Tests.{abs_small}
use Rattle.life_objects.proofs.Found.{of_map}
use Rattle.life_growth.specs.Meeting.Sums.{Step, across, along, and_then, common, enough_steps, is_stay, is_sum, rest_after, rests, returning, stay, sum_of, sums_within, time, times}
use Rattle.life_growth.proofs.MeetingLemmas.Reach.{IsSum, Within, any_by, any_tells, mapped, none_sum, step_is, sum_of_sums, sum_then, within_one, within_times}
use Rattle.life_growth.proofs.MeetingLemmas.Blocks.{few_and_back, numbers_of, of_returning, stays_none}

rest-then : (x y z : Step) → and_then y z ≡ x → rest_after x y ≡ z
rest-then x y z e =
    let a = ap (λ u. u.0) e in
    let b = ap (λ u. u.1.0) e in
    let c = ap (λ u. u.1.1) e in
    step_is (rest_after x y) z (omega (arith, ints)) (omega (arith, ints)) (omega (arith, ints))

then-rest : (x y : Step) → and_then y (rest_after x y) ≡ x
then-rest x y =
    step_is (and_then y (rest_after x y)) x (omega (arith, ints)) (omega (arith, ints)) (omega (arith, ints))

stay_by_test : (u : Step) → is_stay u ≡ true → u ≡ stay
stay_by_test u h =
    let none : unsigned_abs u.0 + unsigned_abs u.1.0 + unsigned_abs u.1.1 ≡ 0 =
    eqb-true (unsigned_abs u.0 + unsigned_abs u.1.0 + unsigned_abs u.1.1) 0 h in
    let one = abs_small u.0 0 (omega arith) in
    let two = abs_small u.1.0 0 (omega arith) in
    let three = abs_small u.1.1 0 (omega arith) in
    let a = one.0 in
    let b = one.1 in
    let c = two.0 in
    let d = two.1 in
    let e = three.0 in
    let g = three.1 in
    step_is u stay (omega (arith, ints)) (omega (arith, ints)) (omega (arith, ints))

test_by_stay : (u : Step) → u.0 ≡ pos 0 → u.1.0 ≡ pos 0 → u.1.1 ≡ pos 0 → is_stay u ≡ true
test_by_stay u a b c =
    let one : unsigned_abs u.0 ≡ 0 = ap unsigned_abs a in
    let two : unsigned_abs u.1.0 ≡ 0 = ap unsigned_abs b in
    let three : unsigned_abs u.1.1 ≡ 0 = ap unsigned_abs c in
    eq-eqb (unsigned_abs u.0 + unsigned_abs u.1.0 + unsigned_abs u.1.1) 0 (omega arith)

-- what is made of numbers is a sum
sum_by_numbers : (us vs : List Step) → ((v : Step) → Contains vs v → Contains us v) → (often : List ℕ) →
    IsSum us (sum_of vs often)
sum_by_numbers us [] each often = none_sum us
sum_by_numbers us (v ∷ vs) each [] = none_sum us
sum_by_numbers us (v ∷ vs) each (k ∷ often) =
    sum_then us (times k v) (sum_of vs often)
    (k * 1, within_times us k 1 v (within_one us v (each v (Contains-head v vs))))
    (sum_by_numbers us vs (λ w of. each w (Contains-later v w vs of)) often)

-- ---- one coordinate after another

module _ (f : Step → ℤ) (add : (u v : Step) → f (and_then u v) ≡ (f u +ℤ f v)) (nil : f stay ≡ pos 0) (us : List Step)
    (c : Step) where
  sum_by_rest : (r : Step) → Contains (rests f us c) r → IsSum (returning f us) r → IsSum us c
  sum_by_rest r one back =
      let q = of_map (rest_after c) (sums_within us (enough_steps f us c)) r one in
      subst (IsSum us) (ap (and_then q.0) (sym q.2) ∙ then-rest c q.0)
      (sum_then us q.0 r (enough_steps f us c, q.1)
      (sum_of_sums us (returning f us) (λ v of. (2 * common f us, (of_returning f add nil us v of).0)) back.0 r back.1))

  rest_by_sum : IsSum us c → (r : Step) × Contains (rests f us c) r × IsSum (returning f us) r
  rest_by_sum sum =
      let q = numbers_of us sum.0 c sum.1 in
      let r = few_and_back f add nil us q.0 in
      let there : Within us (enough_steps f us c) r.0 =
      subst (λ x. Within us (enough_steps f us x) r.0) q.1 r.2 in (
        r.1,
        subst (Contains (rests f us c)) (rest-then c r.0 r.1 (r.4 ∙ q.1))
            (mapped (rest_after c) (sums_within us (enough_steps f us c)) r.0 there),
        r.3,
      )

time_add : (u v : Step) → time (and_then u v) ≡ (time u +ℤ time v)
time_add u v = refl

across_add : (u v : Step) → across (and_then u v) ≡ (across u +ℤ across v)
across_add u v = refl

along_add : (u v : Step) → along (and_then u v) ≡ (along u +ℤ along v)
along_add u v = refl

module _ (us : List Step) (c : Step) where
  abbrev timeless : List Step
  timeless = returning time us

  abbrev upright : List Step
  upright = returning across timeless

  abbrev still : List Step
  still = returning along upright

  timeless_none : (n : ℕ) (x : Step) → Within timeless n x → time x ≡ pos 0
  timeless_none = stays_none time time_add refl timeless (λ u of. (of_returning time time_add refl us u of).1)

  upright_time : (n : ℕ) (x : Step) → Within upright n x → time x ≡ pos 0
  upright_time =
      stays_none time time_add refl upright (λ u of.
      timeless_none (2 * common across timeless) u (of_returning across across_add refl timeless u of).0)

  upright_none : (n : ℕ) (x : Step) → Within upright n x → across x ≡ pos 0
  upright_none =
      stays_none across across_add refl upright (λ u of. (of_returning across across_add refl timeless u of).1)

  still_time : (n : ℕ) (x : Step) → Within still n x → time x ≡ pos 0
  still_time =
      stays_none time time_add refl still (λ u of.
      upright_time (2 * common along upright) u (of_returning along along_add refl upright u of).0)

  still_across : (n : ℕ) (x : Step) → Within still n x → across x ≡ pos 0
  still_across =
      stays_none across across_add refl still (λ u of.
      upright_none (2 * common along upright) u (of_returning along along_add refl upright u of).0)

  still_along : (n : ℕ) (x : Step) → Within still n x → along x ≡ pos 0
  still_along = stays_none along along_add refl still (λ u of. (of_returning along along_add refl upright u of).1)

  pub search_by_sum : IsSum us c → is_sum us c ≡ true
  unfolding is_sum
  search_by_sum sum =
      let q = rest_by_sum time time_add refl us c sum in
      let r = rest_by_sum across across_add refl timeless q.0 q.2 in
      let s = rest_by_sum along along_add refl upright r.0 r.2 in
      let n = s.2 in
      any_by (λ r. list_any (λ s. list_any is_stay (rests along upright s)) (rests across timeless r)) (rests time us c) q.0 q.1
      (any_by (λ s. list_any is_stay (rests along upright s)) (rests across timeless q.0) r.0 r.1
      (any_by is_stay (rests along upright r.0) s.0 s.1
      (test_by_stay s.0 (still_time n.0 s.0 n.1) (still_across n.0 s.0 n.1) (still_along n.0 s.0 n.1))))

  pub sum_by_search : is_sum us c ≡ true → IsSum us c
  unfolding is_sum
  sum_by_search h =
      let q = any_tells (λ r. list_any (λ s. list_any is_stay (rests along upright s)) (rests across timeless r))
      (rests time us c) h in
      let r = any_tells (λ s. list_any is_stay (rests along upright s)) (rests across timeless q.0) q.2 in
      let s = any_tells is_stay (rests along upright r.0) r.2 in
      sum_by_rest time time_add refl us c q.0 q.1
      (sum_by_rest across across_add refl timeless q.0 r.0 r.1
      (sum_by_rest along along_add refl upright r.0 s.0 s.1
      (subst (IsSum still) (sym (stay_by_test s.0 s.2)) (none_sum still))))

  pub numbers_by_search : is_sum us c ≡ true → (often : List ℕ) × (sum_of us often ≡ c)
  numbers_by_search h = let sum = sum_by_search h in numbers_of us sum.0 c sum.1

  pub search_by_numbers : (often : List ℕ) × (sum_of us often ≡ c) → is_sum us c ≡ true
  search_by_numbers q = search_by_sum (subst (IsSum us) q.1 (sum_by_numbers us us (λ v of. of) q.0))
