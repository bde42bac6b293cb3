-- Sums of steps by how often each is made, place by place.
use Rattle.std.proofs.Common.{◌≡◌, ℕ, zero, suc, ◌+◌, ◌<◌, List, [], ◌∷◌, length, sym, refl, ap, ◌∙◌, arith}
use Rattle.std.proofs.lemmas.Int.{ints}
use Rattle.life_growth.specs.Meeting.Sums.{Step, and_then, rest_after, stay, sum_of, times}
use Rattle.life_growth.proofs.MeetingLemmas.Reach.{stay-then, step_is, then-stay, times-add}
use Rattle.life_growth.specs.Relations.Relations.{IsSumOf, left_out, number_at, rest_of, step_at}

-- each step made the number of times that f has for its place
abbrev pub sum_by : List Step → (ℕ → ℕ) → Step
sum_by [] f = stay
sum_by (u ∷ us) f = and_then (times (f 0) u) (sum_by us (λ i. f (suc i)))

abbrev pub listed : List Step → (ℕ → ℕ) → List ℕ
listed [] f = []
listed (u ∷ us) f = f 0 ∷ listed us (λ i. f (suc i))

pub sum-listed : (us : List Step) (f : ℕ → ℕ) → sum_of us (listed us f) ≡ sum_by us f
sum-listed [] f = refl
sum-listed (u ∷ us) f = ap (and_then (times (f 0) u)) (sum-listed us (λ i. f (suc i)))

sum_by-none : (us : List Step) → sum_by us (λ i. 0) ≡ stay
sum_by-none [] = refl
sum_by-none (u ∷ us) = stay-then (sum_by us (λ i. 0)) ∙ sum_by-none us

pub sum_by-numbers : (us : List Step) (ks : List ℕ) → sum_by us (number_at ks) ≡ sum_of us ks
sum_by-numbers [] ks = refl
sum_by-numbers (u ∷ us) [] = stay-then (sum_by us (λ i. 0)) ∙ sum_by-none us
sum_by-numbers (u ∷ us) (k ∷ ks) = ap (and_then (times k u)) (sum_by-numbers us ks)

pub sum_by-within : (us : List Step) (f g : ℕ → ℕ) → ((i : ℕ) → i < length us → f i ≡ g i) → sum_by us f ≡ sum_by us g
sum_by-within [] f g same = refl
sum_by-within (u ∷ us) f g same =
    λ j. and_then (times (same 0 (omega arith) j) u)
    (sum_by-within us (λ i. f (suc i)) (λ i. g (suc i)) (λ i h. same (suc i) (omega arith)) j)

pub four : (a b c d : Step) → and_then (and_then a b) (and_then c d) ≡ and_then (and_then a c) (and_then b d)
four a b c d =
    step_is (and_then (and_then a b) (and_then c d)) (and_then (and_then a c) (and_then b d)) (omega (arith, ints))
    (omega (arith, ints)) (omega (arith, ints))

pub sum_by-add : (us : List Step) (f g : ℕ → ℕ) →
    sum_by us (λ i. f i + g i) ≡ and_then (sum_by us f) (sum_by us g)
sum_by-add [] f g = sym (stay-then stay)
sum_by-add (u ∷ us) f g =
    (λ j. and_then (times-add (f 0) (g 0) u j) (sum_by-add us (λ i. f (suc i)) (λ i. g (suc i)) j))
    ∙ four (times (f 0) u) (times (g 0) u) (sum_by us (λ i. f (suc i))) (sum_by us (λ i. g (suc i)))

-- ---- one place by itself

abbrev pub skipped : (ℕ → ℕ) → ℕ → ℕ → ℕ
skipped f zero j = f (suc j)
skipped f (suc i) zero = f 0
skipped f (suc i) (suc j) = skipped (λ k. f (suc k)) i j

times-stay : (n : ℕ) → times n stay ≡ stay
times-stay zero = refl
times-stay (suc n) = then-stay (times n stay) ∙ times-stay n

in_front : (a b c : Step) → and_then a (and_then b c) ≡ and_then b (and_then a c)
in_front a b c =
    step_is (and_then a (and_then b c)) (and_then b (and_then a c)) (omega (arith, ints)) (omega (arith, ints))
    (omega (arith, ints))

pub split_at : (us : List Step) (f : ℕ → ℕ) (i : ℕ) →
    sum_by us f ≡ and_then (times (f i) (step_at us i)) (sum_by (left_out us i) (skipped f i))
split_at [] f i = sym (then-stay (times (f i) stay) ∙ times-stay (f i))
split_at (u ∷ us) f zero = refl
split_at (u ∷ us) f (suc i) =
    ap (and_then (times (f 0) u)) (split_at us (λ k. f (suc k)) i)
    ∙ in_front (times (f 0) u) (times (f (suc i)) (step_at us i))
    (sum_by (left_out us i) (skipped (λ k. f (suc k)) i))

-- the number x in place i, and the others around it
abbrev with_number : ℕ → (ℕ → ℕ) → ℕ → ℕ → ℕ
with_number x f zero zero = x
with_number x f zero (suc j) = f j
with_number x f (suc i) zero = f 0
with_number x f (suc i) (suc j) = with_number x (λ k. f (suc k)) i j

joined_at : (us : List Step) (f : ℕ → ℕ) (i x : ℕ) →
    sum_by us (with_number x f i) ≡ and_then (times x (step_at us i)) (sum_by (left_out us i) f)
joined_at [] f i x = sym (then-stay (times x stay) ∙ times-stay x)
joined_at (u ∷ us) f zero x = refl
joined_at (u ∷ us) f (suc i) x =
    ap (and_then (times (f 0) u)) (joined_at us (λ k. f (suc k)) i x)
    ∙ in_front (times (f 0) u) (times x (step_at us i)) (sum_by (left_out us i) (λ k. f (suc k)))

-- ---- what is left

rest_by : (c v w : Step) → and_then v w ≡ c → w ≡ rest_after c v
rest_by c v w e =
    let first = ap (λ (u : Step). u.0) e in
    let second = ap (λ (u : Step). u.1.0) e in
    let third = ap (λ (u : Step). u.1.1) e in
    step_is w (rest_after c v) (omega (arith, ints)) (omega (arith, ints)) (omega (arith, ints))

back_by : (c v w : Step) → w ≡ rest_after c v → and_then v w ≡ c
back_by c v w e =
    let first = ap (λ (u : Step). u.0) e in
    let second = ap (λ (u : Step). u.1.0) e in
    let third = ap (λ (u : Step). u.1.1) e in
    step_is (and_then v w) c (omega (arith, ints)) (omega (arith, ints)) (omega (arith, ints))

pub sum_of_numbers : (us : List Step) (f : ℕ → ℕ) (c : Step) → sum_by us f ≡ c → IsSumOf us c
sum_of_numbers us f c e = (listed us f, sum-listed us f ∙ e)

-- a sum, with one number known, is a sum of the others
pub others_sum : (us : List Step) (f : ℕ → ℕ) (i : ℕ) (c : Step) → sum_by us f ≡ c →
    IsSumOf (left_out us i) (rest_of us i c (f i))
others_sum us f i c e =
    sum_of_numbers (left_out us i) (skipped f i) (rest_of us i c (f i))
    (rest_by c (times (f i) (step_at us i)) (sum_by (left_out us i) (skipped f i)) (sym (split_at us f i) ∙ e))

pub whole_sum : (us : List Step) (i x : ℕ) (c : Step) → IsSumOf (left_out us i) (rest_of us i c x) → IsSumOf us c
whole_sum us i x c others =
    let f = number_at others.0 in
    sum_of_numbers us (with_number x f i) c
    (joined_at us f i x
    ∙ back_by c (times x (step_at us i)) (sum_by (left_out us i) f) (sum_by-numbers (left_out us i) others.0 ∙ others.1))
