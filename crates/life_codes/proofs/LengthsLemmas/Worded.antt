-- The lengths of the texts of words, as loops count them from gap to gap, and that they are those of the cells' texts.
use Rattle.std.proofs.Common.{◌≡◌, ℕ, zero, suc, ◌+◌, ◌-◌, ◌/◌, ◌%◌, ◌^◌, ◌<◌, ◌≤◌, List, [], ◌∷◌, length, get_or, take, drop, reverse, if◌then◌else◌, inl, inr, subst, sym, refl, ap, ◌∙◌, arith, length-append}
use Rattle.std.specs.Int.{bit_at}
use Rattle.std.proofs.lemmas.Bool.{cases_lt, ne_eqb}
use Rattle.std.proofs.lemmas.List.{drop_all, take_all, get_or-reverse, length-reverse}
use Rattle.std.proofs.lemmas.List.FromFn.{get_or-map-range_with_len, length-map-range_with_len}
use Rattle.std.proofs.lemmas.Nat.{shr-shr}
use Rattle.std.proofs.lemmas.Nat.Bits.{bit_at-zero}
use Rattle.life_cells.specs.Dots.{strip_mark}
use Rattle.life_cells.specs.Wechsler.{digit, zeros, columns_text, strips_text}
use Rattle.life_cells.proofs.Columns.{joined, strips_text_is}
use Rattle.life_codes.specs.Lengths.Words.{AreZeroTogether, word_columns}
use Rattle.life_codes.proofs.LengthsLemmas.Measured.{Counted, counted_nothing, forward_skips, forward_value, counted_skips, counted_value, joined_more}

-- ---- texts of columns that are 0 together are equally long

pub same_lengths : (xs ys : List ℕ) (s : ℕ) → length xs ≡ length ys → ((i : ℕ) → i < length xs → AreZeroTogether (get_or xs i 0) (get_or ys i 0)) → length (columns_text s xs) ≡ length (columns_text s ys)
same_lengths [] [] s long each = refl
same_lengths [] (y ∷ ys) s long each = absurd (omega arith)
same_lengths (x ∷ xs) [] s long each = absurd (omega arith)
same_lengths (zero ∷ xs) (zero ∷ ys) s long each = same_lengths xs ys (s + 1) (omega arith) (λ i l. each (suc i) (omega arith))
same_lengths (zero ∷ xs) (suc y ∷ ys) s long each = absurd (let h = (each 0 (omega arith)).0 refl in omega arith)
same_lengths (suc x ∷ xs) (zero ∷ ys) s long each = absurd (let h = (each 0 (omega arith)).1 refl in omega arith)
same_lengths (suc x ∷ xs) (suc y ∷ ys) s long each =
    let rest = same_lengths xs ys 0 (omega arith) (λ i l. each (suc i) (omega arith)) in
    let one = length-append (zeros s) (digit (suc x) ∷ columns_text 0 xs) in
    let two = length-append (zeros s) (digit (suc y) ∷ columns_text 0 ys) in
    omega arith

same_joined : (f g : ℕ → List ℕ) (n : ℕ) → ((k : ℕ) → k < n → length (f k) ≡ length (g k)) → length (joined f n) ≡ length (joined g n)
same_joined f g zero each = refl
same_joined f g (suc n) each =
    let before = same_joined f g n (λ k h. each k (omega arith)) in
    let last = each n (omega arith) in
    let one = joined_more f n _ _ (length (strip_mark n)) refl refl refl in
    let two = joined_more g n _ _ (length (strip_mark n)) refl refl refl in
    let at : n + 1 ≡ suc n = omega arith in
    let f_more = one ∙ ap (λ k. length (joined f k)) at in
    let g_more = two ∙ ap (λ k. length (joined g k)) at in
    omega arith

-- the marks between strips, but for the last
mark_more : (k : ℕ) → length (strip_mark k) + (k - 1) ≡ k
mark_more zero = refl
mark_more (suc k) =
    let some : length (strip_mark (suc k)) ≡ 1 = ap (λ b. length {A = ℕ} (if b then [] else 122 ∷ [])) (ne_eqb (suc k) 0 (λ h. omega arith)) in
    omega arith

-- one strip more, with the marks between strips counted apart
pub joined_marks : (text : ℕ → List ℕ) (strip last : ℕ) → last ≡ length (text strip) → length (joined text strip) + last + strip ≡ length (joined text (strip + 1)) + (strip - 1)
joined_marks text strip last e =
    let all = joined_more text strip _ _ (length (strip_mark strip)) refl e refl in
    let mark = mark_more strip in
    omega arith

pub same_texts_length : (f g : ℕ → List ℕ) (n : ℕ) → 0 < n → ((k : ℕ) → k < n → length (f k) ≡ length (g k)) → length (strips_text f n) ≡ length (strips_text g n)
same_texts_length f g n some each =
    ap length (sym (strips_text_is f n some)) ∙ same_joined f g n each ∙ ap length (strips_text_is g n some)

-- ---- the columns of a word

pub length-word_columns : (wide word : ℕ) → length (word_columns wide word) ≡ wide
length-word_columns wide word = length-map-range_with_len (bit_at word) 0 wide

pub column_at : (wide word i : ℕ) → i < wide → get_or (word_columns wide word) i 0 ≡ bit_at word i
column_at wide word i h = get_or-map-range_with_len (bit_at word) 0 wide i i 0 h (omega arith)

-- After `gap` columns of 0 comes one that isn't.
pub record IsNext (xs : List ℕ) (place gap : ℕ) : Type 0 where
  pub inside : place + gap < length xs
  pub none : (i : ℕ) → i < gap → get_or xs (place + i) 0 ≡ 0
  pub live : 0 < get_or xs (place + gap) 0

rest_bit : (word rest place i : ℕ) → rest ≡ word / 2 ^ place → bit_at rest i ≡ bit_at word (place + i)
rest_bit word rest place i e = ap (λ n. bit_at n i) e ∙ ap (λ n. n % 2) (shr-shr word place i)

pub rest_more : (word rest more place gap : ℕ) → rest ≡ word / 2 ^ place → more ≡ rest / 2 ^ (gap + 1) → more ≡ word / 2 ^ (place + (gap + 1))
rest_more word rest more place gap e f = f ∙ ap (λ n. n / 2 ^ (gap + 1)) e ∙ shr-shr word place (gap + 1)

module _ (word wide : ℕ) (beyond : (i : ℕ) → wide ≤ i → bit_at word i ≡ 0) where
  pub next_column : (rest place gap : ℕ) → rest ≡ word / 2 ^ place → bit_at rest gap ≡ 1 → ((i : ℕ) → i < gap → bit_at rest i ≡ 0) → IsNext (word_columns wide word) place gap
  next_column rest place gap e live none =
      let one = sym (rest_bit word rest place gap e) ∙ live in
      let long = length-word_columns wide word in
      let inside : place + gap < wide = elim (cases_lt (place + gap) wide) [ inl h ↦ h | inr h ↦ absurd (let no = beyond (place + gap) h in omega arith) ] in
      record {
        inside = omega arith;
        none = λ i h. column_at wide word (place + i) (omega arith) ∙ sym (rest_bit word rest place i e) ∙ none i h;
        live = let here = column_at wide word (place + gap) inside in omega arith;
      }

  pub no_more : (rest place i : ℕ) → rest ≡ word / 2 ^ place → rest ≡ 0 → place + i < wide → get_or (word_columns wide word) (place + i) 0 ≡ 0
  no_more rest place i e none h =
      column_at wide word (place + i) h ∙ sym (rest_bit word rest place i e) ∙ ap (λ n. bit_at n i) none ∙ bit_at-zero i

-- ---- one gap after another

none_more : (n : ℕ) → 0 + n ≡ n
none_more n = omega arith

pub next_forward : (n run place gap : ℕ) (xs : List ℕ) → IsNext xs place gap → run ≡ length (zeros gap) → n + length (columns_text 0 (drop place xs)) ≡ length (columns_text 0 xs) → n + (run + 1) + length (columns_text 0 (drop (place + (gap + 1)) xs)) ≡ length (columns_text 0 xs)
next_forward n run place gap xs h is e =
    let inside = h.inside in
    let at : place + (gap + 1) ≡ place + gap + 1 = omega arith in
    let gone : gap ≡ 0 + gap = omega arith in
    ap (λ p. n + (run + 1) + length (columns_text 0 (drop p xs))) at
    ∙ forward_value n (0 + gap) run (place + gap) xs inside h.live (is ∙ ap (λ k. length (zeros k)) gone)
    (forward_skips gap n 0 place xs (omega arith) h.none e)

pub next_backward : (bytes run place gap : ℕ) (xs : List ℕ) → IsNext xs place gap → 0 < place → run ≡ length (zeros gap) → Counted (reverse (take place xs)) place 0 bytes → Counted (reverse (take (place + (gap + 1)) xs)) (place + (gap + 1)) 0 (bytes + (run + 1))
next_backward bytes run place gap xs h some is c =
    let inside = h.inside in
    let at : place + gap + 1 ≡ place + (gap + 1) = omega arith in
    let gone : gap ≡ 0 + gap = omega arith in
    subst (λ p. Counted (reverse (take p xs)) p 0 (bytes + (run + 1))) at
    (counted_value xs (place + gap) (0 + gap) bytes run (run + 1) inside h.live (omega arith) (is ∙ ap (λ k. length (zeros k)) gone) (λ l. refl) (λ l. absurd (omega arith))
    (counted_skips gap xs place 0 bytes (omega arith) h.none c))

pub first_forward : (run first : ℕ) (xs : List ℕ) → IsNext xs 0 first → run ≡ length (zeros first) → run + 1 + length (columns_text 0 (drop (first + 1) xs)) ≡ length (columns_text 0 xs)
first_forward run first xs h is =
    let at : first + 1 ≡ 0 + (first + 1) = omega arith in
    let all : run + 1 ≡ 0 + (run + 1) = omega arith in
    (λ i. all i + length (columns_text 0 (drop (at i) xs))) ∙ next_forward 0 run 0 first xs h is (none_more (length (columns_text 0 xs)))

pub first_backward : (run first : ℕ) (xs : List ℕ) → IsNext xs 0 first → run ≡ length (zeros first) → Counted (reverse (take (first + 1) xs)) (first + 1) 0 1
first_backward run first xs h is =
    let inside = h.inside in
    let at : 0 + first + 1 ≡ first + 1 = omega arith in
    let gone : first ≡ 0 + first = omega arith in
    subst (λ p. Counted (reverse (take p xs)) p 0 1) at
    (counted_value xs (0 + first) (0 + first) 0 run 1 inside h.live (omega arith) (is ∙ ap (λ k. length (zeros k)) gone) (λ l. absurd (omega arith)) (λ l. refl)
    (counted_skips first xs 0 0 0 (omega arith) h.none counted_nothing))

-- ---- when nothing is left

pub done_forward : (n place : ℕ) (xs : List ℕ) → place ≤ length xs → ((i : ℕ) → place + i < length xs → get_or xs (place + i) 0 ≡ 0) → n + length (columns_text 0 (drop place xs)) ≡ length (columns_text 0 xs) → n ≡ length (columns_text 0 xs)
done_forward n place xs within none e =
    let left = length xs - place in
    let all = forward_skips left n 0 place xs (omega arith) (λ i h. none i (omega arith)) e in
    let end = ap (λ ys. length (columns_text (0 + left) ys)) (drop_all (place + left) xs (omega arith)) in
    omega arith

pub done_backward : (bytes run place : ℕ) (xs : List ℕ) → 0 < place → place ≤ length xs → ((i : ℕ) → place + i < length xs → get_or xs (place + i) 0 ≡ 0) → run ≡ length (zeros (length xs - place)) → Counted (reverse (take place xs)) place 0 bytes → bytes + run ≡ length (columns_text 0 (reverse xs))
done_backward bytes run place xs some within none is c =
    let left = length xs - place in
    let all = (counted_skips left xs place 0 bytes (omega arith) (λ i h. none i (omega arith)) c).some (omega arith) 0 in
    let whole = ap (λ ys. length (columns_text 0 (reverse ys))) (take_all (place + left) xs (omega arith)) in
    let at : left ≡ 0 + (0 + left) = omega arith in
    let same = ap (λ k. length (zeros k)) at in
    omega arith

-- a strip without a cell
pub nothing_forward : (xs : List ℕ) → ((i : ℕ) → i < length xs → get_or xs i 0 ≡ 0) → 0 ≡ length (columns_text 0 xs)
nothing_forward xs none = done_forward 0 0 xs (omega arith) (λ i h. let at : i ≡ 0 + i = omega arith in ap (λ k. get_or xs k 0) (sym at) ∙ none i (omega arith)) (none_more (length (columns_text 0 xs)))

pub nothing_backward : (xs : List ℕ) → ((i : ℕ) → i < length xs → get_or xs i 0 ≡ 0) → 0 ≡ length (columns_text 0 (reverse xs))
nothing_backward xs none =
    let long = length-reverse xs in
    nothing_forward (reverse xs) (λ i h. get_or-reverse xs i 0 (omega arith) ∙ none (length xs - 1 - i) (omega arith))
