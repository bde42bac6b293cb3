-- The text of columns, from one that is not 0 to the next.
use Rattle.std.proofs.Common.{◌≡◌, ℕ, zero, suc, ◌+◌, ◌-◌, ◌/◌, ◌%◌, ◌<◌, ◌≤◌, List, [], ◌∷◌, ◌++◌, map, sym, refl, ap, ◌∙◌, arith, append_assoc}
use Rattle.std.specs.Prelude.{◌==◌, false, if◌then◌else◌}
use Rattle.std.proofs.lemmas.Bool.Decides.{nat_tests}
use Rattle.std.specs.List.{range_with_len, join_with_byte}
use Rattle.life_cells.specs.Wechsler.{digit, short_zeros, full_runs, zeros, columns_text, strips_text}
use Rattle.std.proofs.lemmas.List.{map-append}
use Rattle.life_cells.proofs.PrintLemmas.{range_more}
use Rattle.life_cells.specs.Dots.{strip_mark}

-- ---- runs of zeros

pub zeros-full : (n : ℕ) → 39 ≤ n → zeros n ≡ 121 ∷ 122 ∷ zeros (n - 39)
zeros-full n h =
    let runs : n / 39 ≡ suc ((n - 39) / 39) = omega arith in
    let rest : n % 39 ≡ (n - 39) % 39 = omega arith in
    λ i. full_runs (runs i) ++ short_zeros (rest i)

pub zeros-short : (n : ℕ) → n < 39 → zeros n ≡ short_zeros n
zeros-short n h =
    let runs : n / 39 ≡ 0 = omega arith in
    let rest : n % 39 ≡ n = omega arith in
    λ i. full_runs (runs i) ++ short_zeros (rest i)

pub short_zeros-long : (n : ℕ) → 4 ≤ n → short_zeros n ≡ 121 ∷ digit (n - 4) ∷ []
short_zeros-long zero h = absurd (omega arith)
short_zeros-long (suc zero) h = absurd (omega arith)
short_zeros-long (suc (suc zero)) h = absurd (omega arith)
short_zeros-long (suc (suc (suc zero))) h = absurd (omega arith)
short_zeros-long (suc (suc (suc (suc n)))) h =
    let same : n ≡ suc (suc (suc (suc n))) - 4 = omega arith in
    ap (λ m. 121 ∷ digit m ∷ []) same

pub zeros_turn : (n m : ℕ) (all now new : List ℕ) → 39 ≤ n → m ≡ n - 39 → all ≡ now ++ zeros n → new ≡ (now ++ 121 ∷ []) ++ 122 ∷ [] → all ≡ new ++ zeros m
zeros_turn n m all now new h e a b =
    a ∙ ap (λ z. now ++ z) (zeros-full n h ∙ ap (λ k. 121 ∷ 122 ∷ zeros k) (sym e))
    ∙ sym (append_assoc now (121 ∷ 122 ∷ []) (zeros m)) ∙ ap (λ front. front ++ zeros m) (sym (append_assoc now (121 ∷ []) (122 ∷ [])) ∙ sym b)

-- ---- columns

module _ (v : ℕ → ℕ) where
  -- columns of 0 are passed over
  pub columns_skip : (c x n m s t : ℕ) → m ≡ c + n → t ≡ s + c → ((q : ℕ) → x ≤ q → q < x + c → v q ≡ 0) → columns_text s (map v (range_with_len x m)) ≡ columns_text t (map v (range_with_len (x + c) n))
  columns_skip zero x n m s t e f none =
      let long : m ≡ n = omega arith in
      let run : s ≡ t = omega arith in
      let at : x ≡ x + 0 = omega arith in
      λ i. columns_text (run i) (map v (range_with_len (at i) (long i)))
  columns_skip (suc c) x n m s t e f none =
      let long : m ≡ suc (c + n) = omega arith in
      let at : x + 1 + c ≡ x + suc c = omega arith in
      ap (λ k. columns_text s (map v (range_with_len x k))) long
      ∙ ap (λ w. columns_text s (w ∷ map v (range_with_len (x + 1) (c + n)))) (none x (omega arith) (omega arith))
      ∙ columns_skip c (x + 1) n (c + n) (s + 1) t refl (omega arith) (λ q h k. none q (omega arith) (omega arith))
      ∙ ap (λ y. columns_text t (map v (range_with_len y n))) at

  pub columns_none : (x m s : ℕ) → ((q : ℕ) → x ≤ q → q < x + m → v q ≡ 0) → columns_text s (map v (range_with_len x m)) ≡ []
  columns_none x m s none = columns_skip m x 0 m s (s + m) (omega arith) refl none

  columns_first : (x k s w : ℕ) → v x ≡ w → 0 < w → columns_text s (map v (range_with_len x (suc k))) ≡ zeros s ++ digit w ∷ columns_text 0 (map v (range_with_len (x + 1) k))
  columns_first x k s zero e h = absurd (omega arith)
  columns_first x k s (suc w) e h = ap (λ u. columns_text s (u ∷ map v (range_with_len (x + 1) k))) e

  -- from column x on, if p is the next that is not 0
  pub columns_next : (x p wide s w : ℕ) → x ≤ p → p < wide → s ≡ p - x → ((q : ℕ) → x ≤ q → q < p → v q ≡ 0) → v p ≡ w → 0 < w → columns_text 0 (map v (range_with_len x (wide - x))) ≡ zeros s ++ digit w ∷ columns_text 0 (map v (range_with_len (p + 1) (wide - (p + 1))))
  columns_next x p wide s w h k e none is live =
      let left : wide - x ≡ (p - x) + suc (wide - (p + 1)) = omega arith in
      let at : x + (p - x) ≡ p = omega arith in
      columns_skip (p - x) x (suc (wide - (p + 1))) (wide - x) 0 s left (omega arith) (λ q a b. none q a (omega arith))
      ∙ ap (λ y. columns_text s (map v (range_with_len y (suc (wide - (p + 1)))))) at
      ∙ columns_first p (wide - (p + 1)) s w is live

  pub columns_turn : (x p wide s w : ℕ) (all now new : List ℕ) → x ≤ p → p < wide → s ≡ p - x → ((q : ℕ) → x ≤ q → q < p → v q ≡ 0) → v p ≡ w → 0 < w → all ≡ now ++ columns_text 0 (map v (range_with_len x (wide - x))) → new ≡ (now ++ zeros s) ++ digit w ∷ [] → all ≡ new ++ columns_text 0 (map v (range_with_len (p + 1) (wide - (p + 1))))
  columns_turn x p wide s w all now new h k e none is live a b =
      let rest = columns_text 0 (map v (range_with_len (p + 1) (wide - (p + 1)))) in
      a ∙ ap (λ t. now ++ t) (columns_next x p wide s w h k e none is live)
      ∙ sym (append_assoc now (zeros s) (digit w ∷ rest)) ∙ sym (append_assoc (now ++ zeros s) (digit w ∷ []) rest) ∙ ap (λ front. front ++ rest) (sym b)

-- ---- strips

join-push : (c : ℕ) (x y : List ℕ) (xs : List (List ℕ)) → join_with_byte c ((x ∷ xs) ++ y ∷ []) ≡ join_with_byte c (x ∷ xs) ++ c ∷ y
join-push c x y [] = refl
join-push c x y (z ∷ zs) = ap (λ r. x ++ c ∷ r) (join-push c z y zs) ∙ sym (append_assoc x (c ∷ join_with_byte c (z ∷ zs)) (c ∷ y))

-- the strips so far
abbrev pub joined : (ℕ → List ℕ) → ℕ → List ℕ
joined text n = join_with_byte 122 (map text (range_with_len 0 n))

joined-first : (text : ℕ → List ℕ) → joined text 1 ≡ text 0
joined-first text = refl

joined-more : (text : ℕ → List ℕ) (n : ℕ) → joined text (suc (suc n)) ≡ joined text (suc n) ++ 122 ∷ text (suc n)
joined-more text n =
    ap (λ r. join_with_byte 122 (map text r)) (range_more 0 (suc n)) ∙ ap (join_with_byte 122) (map-append text (range_with_len 0 (suc n)) ((0 + suc n) ∷ []))
    ∙ join-push 122 (text 0) (text (0 + suc n)) (map text (range_with_len 1 n))
    ∙ ap (λ k. joined text (suc n) ++ 122 ∷ text k) (let same : 0 + suc n ≡ suc n = omega arith in same)

joined_step : (text : ℕ → List ℕ) (n : ℕ) → joined text (suc n) ≡ (joined text n ++ strip_mark n) ++ text n
joined_step text zero = refl
joined_step text (suc n) =
    let later : (suc n == 0) ≡ false = grind (arith, nat_tests) in
    joined-more text n ∙ sym (append_assoc (joined text (suc n)) (122 ∷ []) (text (suc n)))
    ∙ ap (λ b. (joined text (suc n) ++ (if b then [] else 122 ∷ [])) ++ text (suc n)) (sym later)

pub joined_turn : (text : ℕ → List ℕ) (n : ℕ) (now new : List ℕ) (last : List ℕ) → now ≡ joined text n → last ≡ text n → new ≡ (now ++ strip_mark n) ++ last → new ≡ joined text (n + 1)
joined_turn text n now new last a b e =
    e ∙ (λ i. (a i ++ strip_mark n) ++ b i) ∙ sym (joined_step text n) ∙ ap (joined text) (let one : suc n ≡ n + 1 = omega arith in one)

pub strips_text_is : (text : ℕ → List ℕ) (n : ℕ) → 0 < n → joined text n ≡ strips_text text n
strips_text_is text zero h = absurd (omega arith)
strips_text_is text (suc n) h = refl
