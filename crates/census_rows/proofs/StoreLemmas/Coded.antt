-- Numbers in bytes.
use Rattle.std.proofs.Common.{◌≡◌, ℕ, zero, suc, ◌+◌, ◌-◌, ◌*◌, ◌/◌, ◌%◌, ◌^◌, ◌<◌, ◌≤◌, List, [], ◌∷◌, ◌++◌, inl, inr, ap, ◌∙◌, sym, refl, arith, append_assoc, length, take, drop, get_or}
use Rattle.std.proofs.Math.Nat.{pow-suc}
use Rattle.std.proofs.Math.Seq.{take-length}
use Rattle.std.proofs.lemmas.Bool.{cases_lt, lt-ltb, le-ltb}
use Rattle.std.proofs.lemmas.List.{append-nil, take_more}
use Rattle.census_rows.specs.Store.Numbers.{number_in, bytes_within, number_bytes, numbers_bytes, Grown}

pub not-grown : (old : List ℕ) → Grown old old
not-grown old = record { more = []; whole = sym (append-nil old) }

pub grown-by : (old new : List ℕ) (more : List ℕ) → new ≡ old ++ more → Grown old new
grown-by old new more e = record { more = more; whole = e }

pub grown-on : (old mid new : List ℕ) → Grown old mid → Grown mid new → Grown old new
grown-on old mid new g h = record { more = g.more ++ h.more; whole = h.whole ∙ ap (λ w. w ++ h.more) g.whole ∙ append_assoc old g.more h.more }

-- what is known while the bytes of a number are pushed, of which this much is left
pub record Pushing (old : List ℕ) (number : ℕ) (new : List ℕ) (left : ℕ) : Type 0 where
  pub more : ℕ
  pub small : left < 128 ^ (suc more)
  pub whole : new ++ bytes_within more left ≡ old ++ number_bytes number
  pub grown : Grown old new

pub pushing-none : (old : List ℕ) (number : ℕ) → number < 2 ^ 64 → Pushing old number old number
unfolding number_bytes
pushing-none old number small = record { more = 9; small = grind arith; whole = refl; grown = not-grown old }

low : (more n : ℕ) → n < 128 → bytes_within more n ≡ n ∷ []
unfolding bytes_within
low zero n h = refl
low (suc more) n h = grind arith

high : (more n : ℕ) → 128 ≤ n → bytes_within (suc more) n ≡ (n % 128 + 128) ∷ bytes_within more (n / 128)
unfolding bytes_within
high more n h = grind arith

smaller : (n m : ℕ) → n < m * 128 → n / 128 < m
smaller n m h = omega arith

pub pushing-on : (old : List ℕ) (number : ℕ) (new : List ℕ) (left : ℕ) → Pushing old number new left → 128 ≤ left
    → Pushing old number (new ++ (left % 128 + 128) ∷ []) (left / 128)
pushing-on old number new left p h = from p.more p.small p.whole
  where
    from : (more : ℕ) → left < 128 ^ (suc more) → new ++ bytes_within more left ≡ old ++ number_bytes number → Pushing old number (new ++ (left % 128 + 128) ∷ []) (left / 128)
    from zero small whole = absurd (omega (arith, small))
    from (suc more) small whole = record {
      more = more;
      small = smaller left (128 ^ suc more) (rw pow-suc at small);
      whole = append_assoc new ((left % 128 + 128) ∷ []) (bytes_within more (left / 128)) ∙ ap (λ w. new ++ w) (sym (high more left h)) ∙ whole;
      grown = grown-on old new _ p.grown (grown-by new _ ((left % 128 + 128) ∷ []) refl);
    }

pub pushing-end : (old : List ℕ) (number : ℕ) (new : List ℕ) (left : ℕ) → Pushing old number new left → left < 128 → new ++ left ∷ [] ≡ old ++ number_bytes number
pushing-end old number new left p h = ap (λ w. new ++ w) (sym (low p.more left h)) ∙ p.whole

pub in-none : (bytes : List ℕ) → length bytes < 1 → number_in bytes ≡ (0, bytes)
unfolding number_in
in-none [] h = refl
in-none (byte ∷ bytes) h = absurd (omega arith)

pub rest-is : (bytes : List ℕ) → take (suc (length bytes) - 1) bytes ≡ bytes
rest-is bytes = (let e : suc (length bytes) - 1 ≡ length bytes = omega arith in rw e (take-length bytes))

pub in-low : (bytes : List ℕ) → 0 < length bytes → get_or bytes 0 0 < 128 → number_in bytes ≡ (get_or bytes 0 0, take (length bytes - 1) (drop 1 bytes))
unfolding number_in
in-low [] some h = absurd (omega arith)
in-low (byte ∷ bytes) some h = rw (lt-ltb byte 128 h, rest-is bytes) refl

pub in-high : (bytes : List ℕ) → 0 < length bytes → 128 ≤ get_or bytes 0 0
    → number_in bytes ≡ (((number_in (take (length bytes - 1) (drop 1 bytes))).0 * 128 % 18446744073709551616 + (get_or bytes 0 0 - 128)) % 18446744073709551616, (number_in (take (length bytes - 1) (drop 1 bytes))).1)
unfolding number_in
in-high [] some h = absurd (omega arith)
in-high (byte ∷ bytes) some h = rw (le-ltb byte 128 h, rest-is bytes) refl

pub numbers-append : (xs ys : List ℕ) → numbers_bytes (xs ++ ys) ≡ numbers_bytes xs ++ numbers_bytes ys
numbers-append [] ys = refl
numbers-append (x ∷ xs) ys = ap (λ w. number_bytes x ++ w) (numbers-append xs ys) ∙ sym (append_assoc (number_bytes x) (numbers_bytes xs) (numbers_bytes ys))

pub numbers-on : (numbers : List ℕ) (i d : ℕ) → i < length numbers → numbers_bytes (take (i + 1) numbers) ≡ numbers_bytes (take i numbers) ++ number_bytes (get_or numbers i d)
numbers-on numbers i d h =
    ap numbers_bytes (take_more numbers i d h) ∙ numbers-append (take i numbers) (get_or numbers i d ∷ []) ∙ ap (λ w. numbers_bytes (take i numbers) ++ w) (append-nil (number_bytes (get_or numbers i d)))

read-low : (n : ℕ) (rest : List ℕ) → n < 128 → number_in (n ∷ rest) ≡ (n, rest)
unfolding number_in
read-low n rest h = rw (lt-ltb n 128 h) refl

read-high : (n : ℕ) (bytes rest : List ℕ) → n < 2 ^ 64 → 128 ≤ n → number_in bytes ≡ (n / 128, rest) → number_in ((n % 128 + 128) ∷ bytes) ≡ (n, rest)
unfolding number_in
read-high n bytes rest fits h e =
    let large : 128 ≤ n % 128 + 128 = omega arith in
    let is : (n / 128 * 128 % 2 ^ 64 + (n % 128 + 128 - 128)) % 2 ^ 64 ≡ n = omega arith in
    rw (le-ltb (n % 128 + 128) 128 large, e) (ap (λ w. (w, rest)) is)

-- a number is read as it was pushed
read-within : (more n : ℕ) (rest : List ℕ) → n < 2 ^ 64 → n < 128 ^ (suc more) → number_in (bytes_within more n ++ rest) ≡ (n, rest)
unfolding number_in bytes_within
read-within zero n rest fits small = read-low n rest (omega (arith, small))
read-within (suc more) n rest fits small =
    elim (cases_lt n 128) [
      | inl less ↦ rw (low (suc more) n less) (read-low n rest less)
      | inr large ↦ rw (high more n large) (read-high n (bytes_within more (n / 128) ++ rest) rest fits large (read-within more (n / 128) rest (omega arith) (smaller n (128 ^ suc more) (rw pow-suc at small))))
    ]

pub read-pushed : (n : ℕ) (rest : List ℕ) → n < 2 ^ 64 → number_in (number_bytes n ++ rest) ≡ (n, rest)
unfolding number_bytes
read-pushed n rest fits = read-within 9 n rest fits (grind arith)
