-- Sums of at most n steps.
use Rattle.std.proofs.Common.{◌≡◌, ℕ, zero, suc, ℤ, ◌+◌, ◌-◌, ◌*◌, ◌<◌, ◌≤◌, Bool, true, List, [], ◌∷◌, map, inl, inr, sym, ap, subst, ◌∙◌, arith}
use Rattle.std.specs.Prelude.{◌⊎◌}
use Rattle.std.specs.List.{Contains, list_any}
use Rattle.std.proofs.lemmas.Bool.{false≢true, or_cases, or_left, or_right}
use Rattle.std.proofs.lemmas.Int.{ints}
use Rattle.life_model.specs.Cell.{Cell}
use Rattle.life_model.proofs.Cells.{pair}
use Rattle.life_objects.proofs.Lists.{Contains-head, Contains-later, head_or_later}
use Rattle.life_objects.proofs.Found.{Contains-flat_map, of_flat_map, of_map}
use Rattle.life_growth.specs.Meeting.Sums.{Step, and_then, stay, sums_within, times}

module _ {X : Type 0} where
  pub any_tells : (p : X → Bool) (xs : List X) → list_any p xs ≡ true → (x : X) × Contains xs x × (p x ≡ true)
  any_tells p [] h = absurd (false≢true h)
  any_tells p (x ∷ xs) h =
      elim (or_cases (p x) (list_any p xs) h) [
        | inl here ↦ (x, Contains-head x xs, here)
        | inr later ↦ let q = any_tells p xs later in (q.0, Contains-later x q.0 xs q.1, q.2)
      ]

  pub any_by : (p : X → Bool) (xs : List X) (x : X) → Contains xs x → p x ≡ true → list_any p xs ≡ true
  any_by p [] x one h = let none : one.0 < 0 = one.1 in absurd (omega arith)
  any_by p (y ∷ ys) x one h =
      elim (head_or_later y x ys one.0 one.1 one.2) [
        | inl e ↦ or_left (p y) (list_any p ys) (ap p e ∙ h)
        | inr later ↦ or_right (p y) (list_any p ys) (any_by p ys x later h)
      ]

  pub mapped : {Y : Type 0} (f : X → Y) (xs : List X) (x : X) → Contains xs x → Contains (map f xs) (f x)
  mapped f [] x one = let none : one.0 < 0 = one.1 in absurd (omega arith)
  mapped f (y ∷ ys) x one =
      elim (head_or_later y x ys one.0 one.1 one.2) [
        | inl e ↦ subst (λ z. Contains (map f (y ∷ ys)) (f z)) e (Contains-head (f y) (map f ys))
        | inr later ↦ Contains-later (f y) (f x) (map f ys) (mapped f ys x later)
      ]

-- ---- steps

pub step_pair : {a b : ℤ} {c d : Cell} → a ≡ b → c ≡ d → ◌≡◌ {A = Step} (a, c) (b, d)
step_pair p q = λ i. (p i, q i)

pub step_is : (u v : Step) → u.0 ≡ v.0 → u.1.0 ≡ v.1.0 → u.1.1 ≡ v.1.1 → u ≡ v
step_is u v p q r = step_pair p (pair q r)

pub then-assoc : (u v w : Step) → and_then (and_then u v) w ≡ and_then u (and_then v w)
then-assoc u v w =
    step_is (and_then (and_then u v) w) (and_then u (and_then v w)) (omega (arith, ints)) (omega (arith, ints)) (omega (arith, ints))

pub then-stay : (u : Step) → and_then u stay ≡ u
then-stay u = step_is (and_then u stay) u (omega (arith, ints)) (omega (arith, ints)) (omega (arith, ints))

pub stay-then : (u : Step) → and_then stay u ≡ u
stay-then u = step_is (and_then stay u) u (omega (arith, ints)) (omega (arith, ints)) (omega (arith, ints))

pub times-add : (m n : ℕ) (u : Step) → times (m + n) u ≡ and_then (times m u) (times n u)
times-add m zero u =
    ap (λ k. times k u) (let z : m + zero ≡ m = omega arith in z) ∙ sym (then-stay (times m u))
times-add m (suc n) u =
    ap (λ k. times k u) (let z : m + suc n ≡ suc (m + n) = omega arith in z)
    ∙ ap (λ c. and_then c u) (times-add m n u) ∙ then-assoc (times m u) (times n u) u

-- ---- sums

module _ (us : List Step) where
  abbrev pub Within : ℕ → Step → Type 0
  Within n x = Contains (sums_within us n) x

  pub within_none : Within 0 stay
  unfolding sums_within
  within_none = Contains-head stay []

  pub within_same : (n : ℕ) (x : Step) → Within n x → Within (suc n) x
  unfolding sums_within
  within_same n x one =
      Contains-flat_map (λ x. x ∷ map (and_then x) us) (sums_within us n) x x one
      (Contains-head x (map (and_then x) us))

  pub within_then : (n : ℕ) (x u : Step) → Within n x → Contains us u → Within (suc n) (and_then x u)
  unfolding sums_within
  within_then n x u one of =
      Contains-flat_map (λ x. x ∷ map (and_then x) us) (sums_within us n) x (and_then x u) one
      (Contains-later x (and_then x u) (map (and_then x) us) (mapped (and_then x) us u of))

  pub within_by : (n : ℕ) (z : Step) → Within (suc n) z →
      Within n z ⊎ ((x u : Step) × Within n x × Contains us u × (and_then x u ≡ z))
  unfolding sums_within
  within_by n z one =
      let q = of_flat_map (λ x. x ∷ map (and_then x) us) (sums_within us n) z one in
      let at = q.2 in
      elim (head_or_later q.0 z (map (and_then q.0) us) at.0 at.1 at.2) [
        | inl e ↦ inl (subst (Within n) e q.1)
        | inr later ↦ let r = of_map (and_then q.0) us z later in inr (q.0, r.0, q.1, r.1, r.2)
      ]

  pub none_by : (z : Step) → Within 0 z → stay ≡ z
  unfolding sums_within
  none_by z one =
      elim (head_or_later stay z [] one.0 one.1 one.2) [
        | inl e ↦ e
        | inr later ↦ let none : later.0 < 0 = later.1 in absurd (omega arith)
      ]

  pub within_more : (k n : ℕ) (x : Step) → Within n x → Within (n + k) x
  within_more zero n x one = subst (λ m. Within m x) (let z : n ≡ n + zero = omega arith in z) one
  within_more (suc k) n x one =
      subst (λ m. Within m x) (let z : suc (n + k) ≡ n + suc k = omega arith in z)
      (within_same (n + k) x (within_more k n x one))

  pub within_upto : (n m : ℕ) (x : Step) → Within n x → n ≤ m → Within m x
  within_upto n m x one h =
      subst (λ k. Within k x) (let z : n + (m - n) ≡ m = omega arith in z) (within_more (m - n) n x one)

  pub within_sum : (n m : ℕ) (x y : Step) → Within m x → Within n y → Within (m + n) (and_then x y)
  within_sum zero m x y one two =
      subst (Within (m + zero)) (sym (then-stay x) ∙ ap (and_then x) (none_by y two)) (within_more 0 m x one)
  within_sum (suc n) m x y one two =
      subst (λ k. Within k (and_then x y)) (let z : suc (m + n) ≡ m + suc n = omega arith in z)
      (elim (within_by n y two) [
        | inl same ↦ within_same (m + n) (and_then x y) (within_sum n m x y one same)
        | inr q ↦
            subst (Within (suc (m + n))) (then-assoc x q.0 q.1 ∙ ap (and_then x) q.4)
            (within_then (m + n) (and_then x q.0) q.1 (within_sum n m x q.0 one q.2) q.3)
      ])

  pub within_times : (k n : ℕ) (u : Step) → Within n u → Within (k * n) (times k u)
  within_times zero n u one = subst (λ m. Within m stay) (let z : 0 ≡ zero * n = omega arith in z) within_none
  within_times (suc k) n u one =
      subst (λ m. Within m (times (suc k) u)) (let z : k * n + n ≡ suc k * n = omega arith in z)
      (within_sum n (k * n) (times k u) u (within_times k n u one) one)

  pub within_one : (u : Step) → Contains us u → Within 1 u
  within_one u of = subst (Within 1) (stay-then u) (within_then 0 stay u within_none of)

  -- some number of steps
  abbrev pub IsSum : Step → Type 0
  IsSum x = (n : ℕ) × Within n x

  pub sum_then : (x y : Step) → IsSum x → IsSum y → IsSum (and_then x y)
  sum_then x y one two = (one.0 + two.0, within_sum two.0 one.0 x y one.1 two.1)

  pub none_sum : IsSum stay
  none_sum = (0, within_none)

module _ (us : List Step) where
  -- a sum of sums is a sum
  pub sum_of_sums : (vs : List Step) → ((v : Step) → Contains vs v → IsSum us v) → (n : ℕ) (x : Step) →
      Contains (sums_within vs n) x → IsSum us x
  sum_of_sums vs each zero x one = subst (IsSum us) (none_by vs x one) (none_sum us)
  sum_of_sums vs each (suc n) x one =
      elim (within_by vs n x one) [
        | inl same ↦ sum_of_sums vs each n x same
        | inr q ↦
            subst (IsSum us) q.4 (sum_then us q.0 q.1 (sum_of_sums vs each n q.0 q.2) (each q.1 q.3))
      ]
