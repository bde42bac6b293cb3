-- Sums without carries in which each number picks some of the terms.
use Rattle.std.proofs.Common.{◌≡◌, ℕ, zero, suc, ◌+◌, ◌*◌, ◌/◌, ◌%◌, ◌<◌, ◌≤◌, List, [], ◌∷◌, slice_index, bit_and, bit_xor, min, refl, ◌∙◌, arith}
use Rattle.std.specs.Int.{bit_at}
use Rattle.std.proofs.lemmas.Nat.Bits.{bit_at_and, bit_at_xor, bit_at-lt}
use Rattle.life_plane.specs.Logics.{xor_if, sum_of_four, sum_of, polynomial_at}

turned_bit : (b w m : ℕ) → b < 2 → w < 2 → m < 2 → (w + min b m) % 2 ≡ xor_if b w m
turned_bit b w m p q r = grind arith

pub turned_at : (b w m j : ℕ) → bit_at (bit_xor w (bit_and b m)) j ≡ xor_if (bit_at b j) (bit_at w j) (bit_at m j)
turned_at b w m j =
    rw (bit_at_xor w (bit_and b m) j, bit_at_and b m j)
    (turned_bit _ _ _ (bit_at-lt b j) (bit_at-lt w j) (bit_at-lt m j))

back : (a b : ℕ) → a < 2 → b < 2 → (a + (a + b) % 2) % 2 ≡ b
back a b p q = omega arith

-- the exclusive or of two words, added to one of them, gives the other
pub over : (a b j : ℕ) → (bit_at a j + bit_at (bit_xor a b) j) % 2 ≡ bit_at b j
over a b j = rw (bit_at_xor a b j) (back _ _ (bit_at-lt a j) (bit_at-lt b j))

-- the bits of a number pick its terms
pub spelt_sum : (term : ℕ → ℕ) (a b c d n : ℕ) → a < 2 → b < 2 → c < 2 → d < 2 → a + 2 * b + 4 * c + 8 * d ≡ n → sum_of term a b c d ≡ polynomial_at term n
spelt_sum term a b c d n pa pb pc pd is =
    let first : a ≡ n % 2 = omega arith in
    let second : b ≡ n / 2 % 2 = omega arith in
    let third : c ≡ n / 4 % 2 = omega arith in
    let fourth : d ≡ n / 8 = omega arith in
    λ i. sum_of term (first i) (second i) (third i) (fourth i)

last_of_four : (a b c d : ℕ) → a < 2 → b < 2 → c < 2 → d < 2 →
    ((a + (a + b) % 2) % 2 + ((a + c) % 2 + (((a + b) % 2 + c) % 2 + d) % 2) % 2) % 2 ≡ d
last_of_four a b c d p q r s = omega arith

-- the terms of four words
abbrev terms_of_four : List ℕ → List ℕ
terms_of_four ws =
    slice_index ws 0
    ∷ bit_xor (slice_index ws 0) (slice_index ws 1)
    ∷ bit_xor (slice_index ws 0) (slice_index ws 2)
    ∷ bit_xor (bit_xor (bit_xor (slice_index ws 0) (slice_index ws 1)) (slice_index ws 2)) (slice_index ws 3)
    ∷ []

last_of_words : (a b c d j : ℕ) →
    ((bit_at a j + bit_at (bit_xor a b) j) % 2 + (bit_at (bit_xor a c) j + bit_at (bit_xor (bit_xor (bit_xor a b) c) d) j) % 2) % 2 ≡ bit_at d j
last_of_words a b c d j =
    rw (bit_at_xor (bit_xor (bit_xor a b) c) d j, bit_at_xor (bit_xor a b) c j, bit_at_xor a b j, bit_at_xor a c j)
    (last_of_four _ _ _ _ (bit_at-lt a j) (bit_at-lt b j) (bit_at-lt c j) (bit_at-lt d j))

-- they add up to each
pub four_summed : (ws : List ℕ) (j a b : ℕ) → a < 2 → b < 2 →
    sum_of_four (λ n. bit_at (slice_index (terms_of_four ws) n) j) a b ≡ bit_at (slice_index ws (a + 2 * b)) j
four_summed ws j zero zero p q = refl
four_summed ws j (suc zero) zero p q = over (slice_index ws 0) (slice_index ws 1) j
four_summed ws j zero (suc zero) p q = over (slice_index ws 0) (slice_index ws 2) j
four_summed ws j (suc zero) (suc zero) p q = last_of_words (slice_index ws 0) (slice_index ws 1) (slice_index ws 2) (slice_index ws 3) j
four_summed ws j (suc (suc a)) b p q = absurd (omega arith)
four_summed ws j zero (suc (suc b)) p q = absurd (omega arith)
four_summed ws j (suc zero) (suc (suc b)) p q = absurd (omega arith)

-- three kinds of terms add up to each: those of the first four words, those of what the others differ in from these,
-- and the ninth
summed_by : (term : ℕ → ℕ) (ws : List ℕ) (j number : ℕ) → number ≤ 8 →
    ((a b : ℕ) → a < 2 → b < 2 → sum_of_four term a b ≡
    bit_at (slice_index (slice_index ws 0 ∷ slice_index ws 1 ∷ slice_index ws 2 ∷ slice_index ws 3 ∷ []) (a + 2 * b)) j) →
    ((a b : ℕ) → a < 2 → b < 2 → sum_of_four (λ n. term (4 + n)) a b ≡
    bit_at (slice_index (bit_xor (slice_index ws 0) (slice_index ws 4) ∷ bit_xor (slice_index ws 1) (slice_index ws 5)
    ∷ bit_xor (slice_index ws 2) (slice_index ws 6) ∷ bit_xor (slice_index ws 3) (slice_index ws 7) ∷ []) (a + 2 * b)) j) →
    term 8 ≡ bit_at (bit_xor (slice_index ws 0) (slice_index ws 8)) j →
    polynomial_at term number ≡ bit_at (slice_index ws number) j
summed_by term ws j zero few low high last = low 0 0 (omega arith) (omega arith)
summed_by term ws j (suc zero) few low high last = low 1 0 (omega arith) (omega arith)
summed_by term ws j (suc (suc zero)) few low high last = low 0 1 (omega arith) (omega arith)
summed_by term ws j (suc (suc (suc zero))) few low high last = low 1 1 (omega arith) (omega arith)
summed_by term ws j (suc (suc (suc (suc zero)))) few low high last =
    (λ i. (low 0 0 (omega arith) (omega arith) i + high 0 0 (omega arith) (omega arith) i) % 2) ∙ over _ _ j
summed_by term ws j (suc (suc (suc (suc (suc zero))))) few low high last =
    (λ i. (low 1 0 (omega arith) (omega arith) i + high 1 0 (omega arith) (omega arith) i) % 2) ∙ over _ _ j
summed_by term ws j (suc (suc (suc (suc (suc (suc zero)))))) few low high last =
    (λ i. (low 0 1 (omega arith) (omega arith) i + high 0 1 (omega arith) (omega arith) i) % 2) ∙ over _ _ j
summed_by term ws j (suc (suc (suc (suc (suc (suc (suc zero))))))) few low high last =
    (λ i. (low 1 1 (omega arith) (omega arith) i + high 1 1 (omega arith) (omega arith) i) % 2) ∙ over _ _ j
summed_by term ws j (suc (suc (suc (suc (suc (suc (suc (suc zero)))))))) few low high last =
    (λ i. (low 0 0 (omega arith) (omega arith) i + last i) % 2) ∙ over _ _ j
summed_by term ws j (suc (suc (suc (suc (suc (suc (suc (suc (suc n))))))))) few low high last = absurd (omega arith)

pub all_summed : (ws low high : List ℕ) (j number : ℕ) → number ≤ 8 →
    ((a b : ℕ) → a < 2 → b < 2 → sum_of_four (λ n. bit_at (slice_index low n) j) a b ≡
    bit_at (slice_index (slice_index ws 0 ∷ slice_index ws 1 ∷ slice_index ws 2 ∷ slice_index ws 3 ∷ []) (a + 2 * b)) j) →
    ((a b : ℕ) → a < 2 → b < 2 → sum_of_four (λ n. bit_at (slice_index high n) j) a b ≡
    bit_at (slice_index (bit_xor (slice_index ws 0) (slice_index ws 4) ∷ bit_xor (slice_index ws 1) (slice_index ws 5)
    ∷ bit_xor (slice_index ws 2) (slice_index ws 6) ∷ bit_xor (slice_index ws 3) (slice_index ws 7) ∷ []) (a + 2 * b)) j) →
    polynomial_at (λ n. bit_at (slice_index (slice_index low 0 ∷ slice_index low 1 ∷ slice_index low 2 ∷ slice_index low 3
    ∷ slice_index high 0 ∷ slice_index high 1 ∷ slice_index high 2 ∷ slice_index high 3
    ∷ bit_xor (slice_index ws 0) (slice_index ws 8) ∷ []) n) j) number
    ≡ bit_at (slice_index ws number) j
all_summed ws low high j number few lower higher =
    summed_by (λ n. bit_at (slice_index (slice_index low 0 ∷ slice_index low 1 ∷ slice_index low 2 ∷ slice_index low 3
    ∷ slice_index high 0 ∷ slice_index high 1 ∷ slice_index high 2 ∷ slice_index high 3
    ∷ bit_xor (slice_index ws 0) (slice_index ws 8) ∷ []) n) j)
    ws j number few lower higher refl

-- a sum takes no other terms
pub same_sum : (term other : ℕ → ℕ) → ((n : ℕ) → n ≤ 8 → term n ≡ other n) → (number : ℕ) → polynomial_at term number ≡ polynomial_at other number
same_sum term other same number =
    rw (
      same 0 (omega arith),
      same 1 (omega arith),
      same 2 (omega arith),
      same 3 (omega arith),
      same 4 (omega arith),
      same 5 (omega arith),
      same 6 (omega arith),
      same 7 (omega arith),
      same 8 (omega arith),
    ) refl
