-- The lengths of texts, as loops count them from either side.
use Rattle.std.proofs.Common.{◌≡◌, ℕ, zero, suc, ◌+◌, ◌*◌, ◌/◌, ◌%◌, ◌<◌, ◌≤◌, List, [], ◌∷◌, ◌++◌, length, get_or, take, drop, reverse, inl, inr, subst, sym, refl, ap, ◌∙◌, arith, length-append}
use Rattle.std.proofs.lemmas.Bool.{cases_lt}
use Rattle.std.proofs.lemmas.List.{take_more, reverse-append}
use Rattle.life_cells.specs.Dots.{strip_mark}
use Rattle.life_cells.specs.Wechsler.{digit, full_runs, short_zeros, zeros, columns_text}
use Rattle.life_cells.proofs.Columns.{joined, joined_turn}
use Rattle.life_codes.proofs.LengthsLemmas.Written.{rest_from, one_more}

-- ---- runs of zeros

length-full_runs : (n : ℕ) → length (full_runs n) ≡ 2 * n
length-full_runs zero = refl
length-full_runs (suc n) = let rest = length-full_runs n in omega arith

pub length-zeros : (n short : ℕ) → short ≡ length (short_zeros (n % 39)) → 2 * (n / 39) + short ≡ length (zeros n)
length-zeros n short e =
    let runs = length-full_runs (n / 39) in
    let both = length-append (full_runs (n / 39)) (short_zeros (n % 39)) in
    omega arith

-- ---- one column after another, from the first

pub forward_skip : (n s place : ℕ) (xs : List ℕ) → place < length xs → get_or xs place 0 ≡ 0 → n + length (columns_text s (drop place xs)) ≡ length (columns_text 0 xs) → n + length (columns_text (s + 1) (drop (place + 1) xs)) ≡ length (columns_text 0 xs)
forward_skip n s place xs h none e =
    (λ i. n + length (columns_text s (sym (rest_from xs place h ∙ ap (λ v. v ∷ drop (place + 1) xs) none) i))) ∙ e

-- `c` columns of 0
pub forward_skips : (c n s place : ℕ) (xs : List ℕ) → place + c ≤ length xs → ((i : ℕ) → i < c → get_or xs (place + i) 0 ≡ 0) → n + length (columns_text s (drop place xs)) ≡ length (columns_text 0 xs) → n + length (columns_text (s + c) (drop (place + c) xs)) ≡ length (columns_text 0 xs)
forward_skips zero n s place xs h none e =
    let run : s + 0 ≡ s = omega arith in
    let at : place + 0 ≡ place = omega arith in
    (λ i. n + length (columns_text (run i) (drop (at i) xs))) ∙ e
forward_skips (suc c) n s place xs h none e =
    let run : s + suc c ≡ s + c + 1 = omega arith in
    let at : place + suc c ≡ place + c + 1 = omega arith in
    let here : place + c < length xs = omega arith in
    (λ i. n + length (columns_text (run i) (drop (at i) xs)))
    ∙ forward_skip n (s + c) (place + c) xs here (none c (omega arith)) (forward_skips c n s place xs (omega arith) (λ i l. none i (omega arith)) e)

pub forward_value : (n s run place : ℕ) (xs : List ℕ) → place < length xs → 0 < get_or xs place 0 → run ≡ length (zeros s) → n + length (columns_text s (drop place xs)) ≡ length (columns_text 0 xs) → n + (run + 1) + length (columns_text 0 (drop (place + 1) xs)) ≡ length (columns_text 0 xs)
forward_value n s run place xs h live is e =
    let rest = columns_text 0 (drop (place + 1) xs) in
    let here = ap length (ap (columns_text s) (rest_from xs place h) ∙ one_more s (get_or xs place 0) (drop (place + 1) xs) live) in
    let both = length-append (zeros s) (digit (get_or xs place 0) ∷ rest) in
    omega arith

-- ---- one column after another, from the last

-- How long the text of columns is after some that were read: it is `bytes` bytes more than a run of `skipped` zeros that may have
-- begun before, or 0 where all of the columns are 0.
pub record Counted (behind : List ℕ) (place skipped bytes : ℕ) : Type 0 where
  pub some : skipped < place → (s : ℕ) → length (columns_text s behind) ≡ length (zeros (s + skipped)) + bytes
  pub none : place ≤ skipped → (s : ℕ) → length (columns_text s behind) ≡ 0
  pub nothing : place ≤ skipped → bytes ≡ 0

pub counted_nothing : Counted [] 0 0 0
counted_nothing = record { some = λ h s. absurd (omega arith); none = λ h s. refl; nothing = λ h. refl }

reverse_more : (xs : List ℕ) (place : ℕ) → place < length xs → reverse (take (place + 1) xs) ≡ get_or xs place 0 ∷ reverse (take place xs)
reverse_more xs place h = ap reverse (take_more xs place 0 h) ∙ reverse-append (take place xs) (get_or xs place 0 ∷ [])

pub counted_skip : (xs : List ℕ) (place skipped bytes : ℕ) → place < length xs → get_or xs place 0 ≡ 0 → Counted (reverse (take place xs)) place skipped bytes → Counted (reverse (take (place + 1) xs)) (place + 1) (skipped + 1) bytes
counted_skip xs place skipped bytes h zero_here c =
    let same = reverse_more xs place h ∙ ap (λ v. v ∷ reverse (take place xs)) zero_here in
    record {
      some = λ l s. ap (λ ys. length (columns_text s ys)) same ∙ c.some (omega arith) (s + 1) ∙ ap (λ n. length (zeros n) + bytes) (let more : s + 1 + skipped ≡ s + (skipped + 1) = omega arith in more);
      none = λ l s. ap (λ ys. length (columns_text s ys)) same ∙ c.none (omega arith) (s + 1);
      nothing = λ l. c.nothing (omega arith);
    }

-- `c` columns of 0
pub counted_skips : (c : ℕ) (xs : List ℕ) (place skipped bytes : ℕ) → place + c ≤ length xs → ((i : ℕ) → i < c → get_or xs (place + i) 0 ≡ 0) → Counted (reverse (take place xs)) place skipped bytes → Counted (reverse (take (place + c) xs)) (place + c) (skipped + c) bytes
counted_skips zero xs place skipped bytes h none e =
    let run : skipped ≡ skipped + 0 = omega arith in
    let at : place ≡ place + 0 = omega arith in
    subst (λ p. Counted (reverse (take p xs)) p (skipped + 0) bytes) at (subst (λ s. Counted (reverse (take place xs)) place s bytes) run e)
counted_skips (suc c) xs place skipped bytes h none e =
    let run : skipped + c + 1 ≡ skipped + suc c = omega arith in
    let at : place + c + 1 ≡ place + suc c = omega arith in
    let here : place + c < length xs = omega arith in
    let all = counted_skip xs (place + c) (skipped + c) bytes here (none c (omega arith)) (counted_skips c xs place skipped bytes (omega arith) (λ i l. none i (omega arith)) e) in
    subst (λ p. Counted (reverse (take p xs)) p (skipped + suc c) bytes) at (subst (λ s. Counted (reverse (take (place + c + 1) xs)) (place + c + 1) s bytes) run all)

-- bytes of the next count
value_bytes : (behind : List ℕ) (place skipped bytes run : ℕ) → skipped ≤ place → run ≡ length (zeros skipped) → Counted behind place skipped bytes → (more : ℕ) → (skipped < place → more ≡ run + 1) → (place ≤ skipped → more ≡ 1) → 1 + length (columns_text 0 behind) ≡ bytes + more
value_bytes behind place skipped bytes run within is c more after first =
    elim (cases_lt skipped place) [
      | inl l ↦
          let all = c.some l 0 in
          let at : 0 + skipped ≡ skipped = omega arith in
          let same = ap (λ n. length (zeros n)) at in
          let m = after l in
          omega arith
      | inr l ↦
          let all = c.none l 0 in
          let m = first l in
          let b = c.nothing l in
          omega arith
    ]

pub counted_value : (xs : List ℕ) (place skipped bytes run more : ℕ) → place < length xs → 0 < get_or xs place 0 → skipped ≤ place → run ≡ length (zeros skipped) → (skipped < place → more ≡ run + 1) → (place ≤ skipped → more ≡ 1) → Counted (reverse (take place xs)) place skipped bytes → Counted (reverse (take (place + 1) xs)) (place + 1) 0 (bytes + more)
counted_value xs place skipped bytes run more h live within is after first c =
    let behind = reverse (take place xs) in
    let v = get_or xs place 0 in
    let count = value_bytes behind place skipped bytes run within is c more after first in
    record {
      some = λ l s.
          let here = ap length (ap (columns_text s) (reverse_more xs place h) ∙ one_more s v behind live) in
          let both = length-append (zeros s) (digit v ∷ columns_text 0 behind) in
          let at : s + 0 ≡ s = omega arith in
          let same = ap (λ n. length (zeros n)) at in
          omega arith;
      none = λ l s. absurd (omega arith);
      nothing = λ l. absurd (omega arith);
    }

-- ---- one strip after another

pub joined_more : (text : ℕ → List ℕ) (strip n last mark : ℕ) → n ≡ length (joined text strip) → last ≡ length (text strip) → mark ≡ length (strip_mark strip) → n + (last + mark) ≡ length (joined text (strip + 1))
joined_more text strip n last mark e f g =
    let all = ap length (joined_turn text strip (joined text strip) _ (text strip) refl refl refl) in
    let one = length-append (joined text strip ++ strip_mark strip) (text strip) in
    let two = length-append (joined text strip) (strip_mark strip) in
    omega arith
