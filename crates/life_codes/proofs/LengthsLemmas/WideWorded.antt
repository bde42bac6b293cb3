-- The columns of strips of any width, as loops count them word by word and bit by bit.
use Rattle.std.proofs.Common.{◌≡◌, ℕ, zero, suc, ◌+◌, ◌-◌, ◌*◌, ◌/◌, ◌%◌, ◌^◌, ◌<◌, ◌≤◌, List, length, get_or, take, drop, reverse, inl, inr, subst, sym, ap, ◌∙◌, arith}
use Rattle.std.specs.Int.{bit_at}
use Rattle.std.proofs.Math.Nat.{div-le_self, mul-le-mul_right}
use Rattle.std.proofs.lemmas.Bool.{cases_lt}
use Rattle.std.proofs.lemmas.Int.{ints}
use Rattle.std.proofs.lemmas.List.FromFn.{get_or-map-range_with_len, length-map-range_with_len}
use Rattle.std.proofs.lemmas.Nat.{shr-shr}
use Rattle.std.proofs.lemmas.Nat.Bits.{bit_at_above}
use Rattle.life_cells.specs.Wechsler.{zeros, columns_text}
use Rattle.life_codes.specs.declared.lengths.frame.Frame.{Frame}
use Rattle.life_codes.specs.Lengths.Frames.{IsBounded, strips_of, wide_of}
use Rattle.life_codes.specs.Lengths.WideWords.{IsMarkedWithin, wide_bit, wide_columns, words_in}
use Rattle.life_codes.proofs.LengthsLemmas.Measured.{Counted, counted_nothing, counted_skips, counted_value}
use Rattle.life_codes.proofs.LengthsLemmas.Worded.{IsNext, next_forward, done_forward, done_backward, nothing_backward, rest_more}

-- ---- columns and words

pub length-wide_columns : (words : List ℕ) (first wide : ℕ) → length (wide_columns words first wide) ≡ wide
length-wide_columns words first wide = length-map-range_with_len (wide_bit words first) 0 wide

pub wide_column_at : (words : List ℕ) (first wide x : ℕ) → x < wide → get_or (wide_columns words first wide) x 0 ≡ wide_bit words first x
wide_column_at words first wide x h = get_or-map-range_with_len (wide_bit words first) 0 wide x x 0 h (omega arith)

-- what is left of a word gives the columns from there on
pub rest_at : (words : List ℕ) (first index rest o i : ℕ) → rest ≡ get_or words (first + index) 0 / 2 ^ o → o + i < 64 → wide_bit words first (64 * index + (o + i)) ≡ bit_at rest i
rest_at words first index rest o i e h =
    let word : (64 * index + (o + i)) / 64 ≡ index = omega arith in
    let bit : (64 * index + (o + i)) % 64 ≡ o + i = omega arith in
    (λ t. bit_at (get_or words (first + word t) 0) (bit t))
    ∙ sym (ap (λ n. bit_at n i) e ∙ ap (λ n. n % 2) (shr-shr (get_or words (first + index) 0) o i))

-- a bit that is set stands within its word
pub bit_within : (word rest o i : ℕ) → word < 2 ^ 64 → rest ≡ word / 2 ^ o → bit_at rest i ≡ 1 → o + i < 64
bit_within word rest o i fits e one =
    elim (cases_lt (o + i) 64) [
      | inl h ↦ h
      | inr h ↦
          let none = bit_at_above word 64 (o + i) fits h in
          let same = ap (λ n. bit_at n i) e ∙ ap (λ n. n % 2) (shr-shr word o i) in
          absurd (omega arith)
    ]

-- a bit of what is left of a word from a column on
module _ (words : List ℕ) (first index wide rest column c : ℕ) (fits : get_or words (first + index) 0 < 2 ^ 64) (start : 64 * index ≤ column) (is : rest ≡ get_or words (first + index) 0 / 2 ^ (column - 64 * index)) (live : bit_at rest c ≡ 1) where
  pub in_word : column + c < 64 * index + 64
  in_word = let all = bit_within (get_or words (first + index) 0) rest (column - 64 * index) c fits is live in omega arith

  pub bit_there : (i : ℕ) → i ≤ c → wide_bit words first (column + i) ≡ bit_at rest i
  bit_there i h =
      let all = in_word in
      let at : column + i ≡ 64 * index + (column - 64 * index + i) = omega arith in
      ap (wide_bit words first) at ∙ rest_at words first index rest (column - 64 * index) i is (omega arith)

  pub in_strip : index < words_in wide → IsMarkedWithin words first wide → column + c < wide
  in_strip inside beyond =
      elim (cases_lt (column + c) wide) [
        | inl h ↦ h
        | inr h ↦
            let all = in_word in
            let none = beyond (column + c) h (omega arith) in
            let one = bit_there c (omega arith) ∙ live in
            absurd (omega arith)
      ]

-- bits that are set from the lowest on
module _ (words : List ℕ) (first index wide rest column : ℕ) (fits : get_or words (first + index) 0 < 2 ^ 64) (start : 64 * index ≤ column) (is : rest ≡ get_or words (first + index) 0 / 2 ^ (column - 64 * index)) where
  pub ones_there : (t : ℕ) → ((i : ℕ) → i < t → bit_at rest i ≡ 1) → (i : ℕ) → i < t → wide_bit words first (column + i) ≡ 1
  ones_there t ones i h = bit_there words first index wide rest column i fits start is (ones i h) i (omega arith) ∙ ones i h

  pub ones_within : (t : ℕ) → ((i : ℕ) → i < t → bit_at rest i ≡ 1) → index < words_in wide → IsMarkedWithin words first wide → column ≤ wide → column ≤ 64 * index + 64 → (column + t ≤ wide) × (column + t ≤ 64 * index + 64)
  ones_within zero ones inside beyond a b = (omega arith, omega arith)
  ones_within (suc t) ones inside beyond a b =
      let last = ones t (omega arith) in
      let h = in_strip words first index wide rest column t fits start is last inside beyond in
      let k = in_word words first index wide rest column t fits start is last in
      (omega arith, omega arith)

-- what is left of a word after a gap and a column that is not 0
pub after_column : (words : List ℕ) (first index rest column c after : ℕ) → 64 * index ≤ column → rest ≡ get_or words (first + index) 0 / 2 ^ (column - 64 * index) → after ≡ rest / 2 ^ (c + 1) → after ≡ get_or words (first + index) 0 / 2 ^ (column + (c + 1) - 64 * index)
after_column words first index rest column c after start is next =
    let on : column - 64 * index + (c + 1) ≡ column + (c + 1) - 64 * index = omega arith in
    rest_more (get_or words (first + index) 0) rest after (column - 64 * index) c is next ∙ ap (λ n. get_or words (first + index) 0 / 2 ^ n) on

pub halved : (rest after c : ℕ) → rest < 2 ^ 64 → after ≡ rest / 2 ^ (c + 1) → after < 2 ^ 63
halved rest after c fits e =
    let at : c + 1 ≡ 1 + c = omega arith in
    let same = e ∙ ap (λ n. rest / 2 ^ n) at ∙ sym (shr-shr rest 1 c) in
    let less = div-le_self (rest / 2 ^ 1) (2 ^ c) in
    omega arith

-- A gap, a column that is not 0 and those right after it stand within the strip and the word.
pub run_within : (words : List ℕ) (first index wide rest column c after t : ℕ) → get_or words (first + index) 0 < 2 ^ 64 → 64 * index ≤ column → rest ≡ get_or words (first + index) 0 / 2 ^ (column - 64 * index) → bit_at rest c ≡ 1 → after ≡ rest / 2 ^ (c + 1) → ((i : ℕ) → i < t → bit_at after i ≡ 1) → index < words_in wide → IsMarkedWithin words first wide → (column + (c + 1) + t ≤ wide) × (column + (c + 1) + t ≤ 64 * index + 64)
run_within words first index wide rest column c after t fits start is live next ones inside beyond =
    let a = in_strip words first index wide rest column c fits start is live inside beyond in
    let b = in_word words first index wide rest column c fits start is live in
    ones_within words first index wide after (column + (c + 1)) fits (omega arith) (after_column words first index rest column c after start is next) t ones inside beyond (omega arith) (omega arith)

-- the lengths of strips fit
pub few_bytes : (f : Frame) → IsBounded f → (k n more : ℕ) → k < strips_of f → n ≤ k * (wide_of f + 1) → more ≤ wide_of f + 1 → n + more < 2 ^ 64
few_bytes f b k n more hk hn hm =
    let wide : wide_of f ≤ 33554433 = omega (arith, ints) in
    let few : k ≤ 6710887 = omega (arith, ints) in
    let all = mul-le-mul_right (wide_of f + 1) few in
    omega arith

-- ---- columns as they are counted

-- The columns before a place are counted, the last of them is not 0, and those from there to another are.
pub record Seen (words : List ℕ) (first wide place column n b : ℕ) : Type 0 where
  pub within : place ≤ wide
  pub before : place ≤ column
  pub dark : (x : ℕ) → place ≤ x → x < column → wide_bit words first x ≡ 0
  pub forward : n + length (columns_text 0 (drop place (wide_columns words first wide))) ≡ length (columns_text 0 (wide_columns words first wide))
  pub backward : Counted (reverse (take place (wide_columns words first wide))) place 0 b
  pub small_forward : n ≤ place
  pub small_backward : b ≤ place

none_more : (n : ℕ) → 0 + n ≡ n
none_more n = omega arith

module _ (words : List ℕ) (first wide : ℕ) where
  pub seen_nothing : Seen words first wide 0 0 0 0
  seen_nothing = record {
    within = omega arith;
    before = omega arith;
    dark = λ x h l. absurd (omega arith);
    forward = none_more (length (columns_text 0 (wide_columns words first wide)));
    backward = counted_nothing;
    small_forward = omega arith;
    small_backward = omega arith;
  }

  pub seen_dark : (place column end n b : ℕ) → column ≤ end → ((x : ℕ) → column ≤ x → x < end → wide_bit words first x ≡ 0) → Seen words first wide place column n b → Seen words first wide place end n b
  seen_dark place column end n b more none s =
      let before = s.before in
      record {
        within = s.within;
        before = omega arith;
        dark = λ x h l. elim (cases_lt x column) [ inl m ↦ s.dark x h m | inr m ↦ none x m l ];
        forward = s.forward;
        backward = s.backward;
        small_forward = s.small_forward;
        small_backward = s.small_backward;
      }

  module _ (place column c n b : ℕ) (s : Seen words first wide place column n b) (inside : column + c < wide) (none : (i : ℕ) → i < c → wide_bit words first (column + i) ≡ 0) (live : wide_bit words first (column + c) ≡ 1) where
    -- the next column that is not 0, after `column + c - place` columns of 0
    pub seen_next : IsNext (wide_columns words first wide) place (column + c - place)
    seen_next =
        let before = s.before in
        let long = length-wide_columns words first wide in
        let at : place + (column + c - place) ≡ column + c = omega arith in
        record {
          inside = omega arith;
          none = λ i h.
              wide_column_at words first wide (place + i) (omega arith)
              ∙ elim (cases_lt (place + i) column) [
                | inl m ↦ s.dark (place + i) (omega arith) m
                | inr m ↦
                    let there : place + i ≡ column + (place + i - column) = omega arith in
                    ap (wide_bit words first) there ∙ none (place + i - column) (omega arith)
              ];
          live = let here = wide_column_at words first wide (place + (column + c - place)) (omega arith) ∙ ap (wide_bit words first) at ∙ live in omega arith;
        }

    pub seen_live : (run back : ℕ) → run ≡ length (zeros (column + c - place)) → run ≤ column + c - place → (0 < place → back ≡ length (zeros (column + c - place))) → (place ≤ 0 → back ≡ 0) → Seen words first wide (column + (c + 1)) (column + (c + 1)) (n + (run + 1)) (b + (back + 1))
    seen_live run back is small later start =
        let xs = wide_columns words first wide in
        let gap = column + c - place in
        let before = s.before in
        let next = seen_next in
        let in_list = next.inside in
        let small_n = s.small_forward in
        let small_b = s.small_backward in
        let at : place + (gap + 1) ≡ column + (c + 1) = omega arith in
        let at_too : place + gap + 1 ≡ column + (c + 1) = omega arith in
        let gone : gap ≡ 0 + gap = omega arith in
        record {
          within = omega arith;
          before = omega arith;
          dark = λ x h l. absurd (omega arith);
          forward = ap (λ p. n + (run + 1) + length (columns_text 0 (drop p xs))) (sym at) ∙ next_forward n run place gap xs next is s.forward;
          backward = subst (λ p. Counted (reverse (take p xs)) p 0 (b + (back + 1))) at_too
              (counted_value xs (place + gap) (0 + gap) b run (back + 1) in_list next.live (omega arith) (is ∙ ap (λ k. length (zeros k)) gone) (λ l. let e = later (omega arith) in omega arith) (λ l. let e = start (omega arith) in omega arith)
              (counted_skips gap xs place 0 b (omega arith) next.none s.backward));
          small_forward = omega arith;
          small_backward = elim (cases_lt 0 place) [
            | inl l ↦ let e = later l in omega arith
            | inr l ↦ let e = start l in omega arith
          ];
        }

  pub seen_same : (p q n m b d : ℕ) → p ≡ q → n ≡ m → b ≡ d → Seen words first wide p p n b → Seen words first wide q q m d
  seen_same p q n m b d e f g s = subst (λ x. Seen words first wide q q m x) g (subst (λ x. Seen words first wide q q x b) f (subst (λ x. Seen words first wide x x n b) e s))

  -- columns that are not 0, one right after another
  pub seen_ones : (t place n b : ℕ) → 0 < place → place + t ≤ wide → ((i : ℕ) → i < t → wide_bit words first (place + i) ≡ 1) → Seen words first wide place place n b → Seen words first wide (place + t) (place + t) (n + t) (b + t)
  seen_ones zero place n b some within ones s = seen_same place (place + 0) n (n + 0) b (b + 0) (omega arith) (omega arith) (omega arith) s
  seen_ones (suc t) place n b some within ones s =
      let before = seen_ones t place n b some (omega arith) (λ i h. ones i (omega arith)) s in
      let here : wide_bit words first (place + t + 0) ≡ 1 = ap (wide_bit words first) (let at : place + t + 0 ≡ place + t = omega arith in at) ∙ ones t (omega arith) in
      let none : place + t + 0 - (place + t) ≡ 0 = omega arith in
      let no_gap : 0 ≡ length (zeros (place + t + 0 - (place + t))) = ap (λ k. length (zeros k)) (sym none) in
      seen_same (place + t + (0 + 1)) (place + suc t) (n + t + (0 + 1)) (n + suc t) (b + t + (0 + 1)) (b + suc t) (omega arith) (omega arith) (omega arith)
      (seen_live (place + t) (place + t) 0 (n + t) (b + t) before (omega arith) (λ i h. absurd (omega arith)) here 0 0 no_gap (omega arith) (λ l. no_gap) (λ l. absurd (omega arith)))

  module _ (place column n b : ℕ) (s : Seen words first wide place column n b) (all : wide ≤ column) where
    dark_after : (i : ℕ) → place + i < length (wide_columns words first wide) → get_or (wide_columns words first wide) (place + i) 0 ≡ 0
    dark_after i h =
        let long = length-wide_columns words first wide in
        wide_column_at words first wide (place + i) (omega arith) ∙ s.dark (place + i) (omega arith) (omega arith)

    pub all_forward : n ≡ length (columns_text 0 (wide_columns words first wide))
    all_forward =
        let long = length-wide_columns words first wide in
        let within = s.within in
        done_forward n place (wide_columns words first wide) (omega arith) dark_after s.forward

    pub all_backward : (run : ℕ) → 0 < place → run ≡ length (zeros (wide - place)) → b + run ≡ length (columns_text 0 (reverse (wide_columns words first wide)))
    all_backward run some is =
        let long = length-wide_columns words first wide in
        let within = s.within in
        let at : wide - place ≡ length (wide_columns words first wide) - place = omega arith in
        done_backward b run place (wide_columns words first wide) some (omega arith) dark_after (is ∙ ap (λ k. length (zeros k)) at) s.backward

    pub none_backward : place ≤ 0 → b ≡ length (columns_text 0 (reverse (wide_columns words first wide)))
    none_backward none =
        let empty = s.backward.nothing none in
        let length_too = nothing_backward (wide_columns words first wide)
        (λ i h. let at : i ≡ place + i = omega arith in ap (λ k. get_or (wide_columns words first wide) k 0) at ∙ dark_after i (omega arith)) in
        empty ∙ length_too
