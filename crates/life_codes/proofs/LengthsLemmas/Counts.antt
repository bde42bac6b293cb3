-- The lengths of texts of few columns, from counts of bits.
use Rattle.std.proofs.Common.{◌≡◌, ℕ, zero, suc, ◌+◌, ◌-◌, ◌*◌, ◌/◌, ◌%◌, ◌^◌, ◌<◌, ◌≤◌, min, max, List, length, get_or, drop, reverse, inl, inr, subst, sym, refl, ap, ◌∙◌, arith, add-zero, mod-lt}
use Rattle.std.specs.Int.{bit_at}
use Rattle.std.specs.Int.Bits.{bit_and, bit_or}
use Rattle.std.specs.Int.RustNames.{count_ones}
use Rattle.std.proofs.Math.Nat.{div-eq_of_lt, mod-eq_of_lt}
use Rattle.std.proofs.lemmas.Bool.{cases_lt}
use Rattle.std.proofs.lemmas.Bool.Decides.{eqb_tells}
use Rattle.std.proofs.lemmas.List.{drop_all, get_or-reverse, length-reverse}
use Rattle.std.proofs.lemmas.Nat.{and_le_l, mod-pow-add, ones_cat, pow_pos, shr-shr, shr_split}
use Rattle.std.proofs.lemmas.Nat.Bits.{bit_at-lt, bit_at-zero, bit_at_above, bit_at_and, bit_at_or, bit_at_cat_low, bit_at_cat_high, bit_at_mask_below, bit_at_mask_inside, bit_at-pow_other, bit_at-pow_same, ones_shl, same_from_bits}
use Rattle.life_cells.specs.Wechsler.{columns_text, short_zeros, zeros}
use Rattle.life_codes.specs.Lengths.Words.{AreNearMarks, word_columns, zeros_after, zeros_before}
use Rattle.life_codes.proofs.LengthsLemmas.Measured.{forward_skip, forward_value, length-zeros}
use Rattle.life_codes.proofs.LengthsLemmas.Worded.{column_at, length-word_columns}
use lib.Count.{ones-ones, ones_step}

-- ---- zeros before a column

pub record Zeros (ys : List ℕ) (i z : ℕ) : Type 0 where
  pub few : z ≤ i
  pub none : (j : ℕ) → j < z → get_or ys (i - 1 - j) 0 ≡ 0
  pub live : z < i → 0 < get_or ys (i - 1 - z) 0

zeros_step : (ys : List ℕ) (i z v : ℕ) → v ≡ get_or ys i 0 → Zeros ys i z → Zeros ys (suc i) (zeros_after v z)
zeros_step ys i z zero is h =
    let few = h.few in
    record {
      few = omega arith;
      none = λ j l. elim (eqb_tells j 0) [
        | inl e ↦ let at : suc i - 1 - j ≡ i = let first = e.1 in omega arith in ap (λ n. get_or ys n 0) at ∙ sym is
        | inr e ↦ let later = e.1 in let at : suc i - 1 - j ≡ i - 1 - (j - 1) = omega arith in ap (λ n. get_or ys n 0) at ∙ h.none (j - 1) (omega arith)
      ];
      live = λ l. let at : i - 1 - z ≡ suc i - 1 - (z + 1) = omega arith in subst (λ n. 0 < get_or ys n 0) at (h.live (omega arith));
    }
zeros_step ys i z (suc v) is h = record {
  few = omega arith;
  none = λ j l. absurd (omega arith);
  live = λ l. let at : i ≡ suc i - 1 - 0 = omega arith in subst (λ n. 0 < get_or ys n 0) at (omega arith);
}

pub zeros_known : (ys : List ℕ) (i : ℕ) → Zeros ys i (zeros_before ys i)
zeros_known ys zero = record { few = omega arith; none = λ j h. absurd (omega arith); live = λ h. absurd (omega arith) }
zeros_known ys (suc i) = zeros_step ys i (zeros_before ys i) (get_or ys i 0) refl (zeros_known ys i)

-- ---- what a gap takes

short_none : length (short_zeros 0) ≡ 0
short_none = refl

short_one : (m : ℕ) → 0 < m → m < 4 → length (short_zeros m) ≡ 1
short_one zero h l = absurd (omega arith)
short_one (suc zero) h l = refl
short_one (suc (suc zero)) h l = refl
short_one (suc (suc (suc zero))) h l = refl
short_one (suc (suc (suc (suc m)))) h l = absurd (omega arith)

short_two : (m : ℕ) → 4 ≤ m → length (short_zeros m) ≡ 2
short_two zero h = absurd (omega arith)
short_two (suc zero) h = absurd (omega arith)
short_two (suc (suc zero)) h = absurd (omega arith)
short_two (suc (suc (suc zero))) h = absurd (omega arith)
short_two (suc (suc (suc (suc m)))) h = refl

-- a gap of zeros takes two bytes, but one less where it is none, and one less where it is less than four
record Gap (z x q : ℕ) : Type 0 where
  bytes : length (zeros z) + x + q ≡ 2
  small : length (zeros z) ≤ z
  next : x ≤ 1
  near : q ≤ 1

gap : (z x q : ℕ) → z ≤ 39 → (z ≡ 0 → x ≡ 1) → (0 < z → x ≡ 0) → (z < 4 → q ≡ 1) → (4 ≤ z → q ≡ 0) → Gap z x q
gap z x q few next apart near far =
    let all = length-zeros z (length (short_zeros (z % 39))) refl in
    elim (cases_lt z 4) [
      | inl l ↦
          let low : z % 39 ≡ z = omega arith in
          let n = near l in
          elim (eqb_tells z 0) [
            | inl e ↦
                let none = e.1 in
                let x = next none in
                let short : length (short_zeros (z % 39)) ≡ 0 = ap (λ m. length (short_zeros m)) (low ∙ none) in
                record { bytes = omega arith; small = omega arith; next = omega arith; near = omega arith }
            | inr e ↦
                let some : 0 < z = let other = e.1 in omega arith in
                let x = apart some in
                let short : length (short_zeros (z % 39)) ≡ 1 = short_one (z % 39) (omega arith) (omega arith) in
                record { bytes = omega arith; small = omega arith; next = omega arith; near = omega arith }
          ]
      | inr l ↦
          let x = apart (omega arith) in
          let n = far l in
          elim (cases_lt z 39) [
            | inl k ↦
                let short : length (short_zeros (z % 39)) ≡ 2 = short_two (z % 39) (omega arith) in
                record { bytes = omega arith; small = omega arith; next = omega arith; near = omega arith }
            | inr k ↦
                let full : z % 39 ≡ 0 = omega arith in
                let short : length (short_zeros (z % 39)) ≡ 0 = ap (λ m. length (short_zeros m)) full in
                record { bytes = omega arith; small = omega arith; next = omega arith; near = omega arith }
          ]
    ]

-- ---- one column after another

-- the counts of the columns before i
record Told (ys : List ℕ) (all next near : ℕ → ℕ) (i z : ℕ) : Type 0 where
  bytes : ℕ
  told : bytes + next i + near i ≡ 3 * all i
  text : bytes + length (columns_text z (drop i ys)) ≡ length (columns_text 0 ys)
  small : bytes + z ≤ i

module _ (ys : List ℕ) (all next near x q : ℕ → ℕ) (few : length ys ≤ 40) (bits : (i : ℕ) → i < length ys → get_or ys i 0 < 2) (tells : AreNearMarks ys x q) (first : (all 0 ≡ 0) × (next 0 ≡ 0) × (near 0 ≡ 0)) (more : (i : ℕ) → i < length ys → (all (i + 1) ≡ all i + get_or ys i 0) × (next (i + 1) ≡ next i + min (get_or ys i 0) (x i)) × (near (i + 1) ≡ near i + min (get_or ys i 0) (q i))) where
  told_more : (i v : ℕ) → v ≡ get_or ys i 0 → i < length ys → Told ys all next near i (zeros_before ys i) → Told ys all next near (i + 1) (zeros_after v (zeros_before ys i))
  told_more i zero is h so =
      let step = more i h in
      let a = step.0 in
      let b = step.1 in
      let c = step.2 in
      let t = so.told in
      let s = so.small in
      record {
        bytes = so.bytes;
        told = omega arith;
        text = forward_skip so.bytes (zeros_before ys i) i ys h (sym is) so.text;
        small = omega arith;
      }
  told_more i (suc v) is h so =
      let step = more i h in
      let a = step.0 in
      let b = step.1 in
      let c = step.2 in
      let t = so.told in
      let s = so.small in
      let bit = bits i h in
      let z = zeros_before ys i in
      let within = (zeros_known ys i).few in
      let g = gap z (x i) (q i) (omega arith) (tells.beside i h) (tells.apart i h) (tells.close i h) (tells.far i h) in
      let bytes = g.bytes in
      let short = g.small in
      let one = g.next in
      let other = g.near in
      record {
        bytes = so.bytes + (length (zeros z) + 1);
        told = omega arith;
        text = forward_value so.bytes z (length (zeros z)) i ys h (omega arith) refl so.text;
        small = omega arith;
      }

  told_all : (i : ℕ) → i ≤ length ys → Told ys all next near i (zeros_before ys i)
  told_all zero h =
      let a = first.0 in
      let b = first.1 in
      let c = first.2 in
      record { bytes = 0; told = omega arith; text = omega arith; small = omega arith }
  told_all (suc i) h =
      let at : i + 1 ≡ suc i = omega arith in
      subst (λ n. Told ys all next near n (zeros_before ys (suc i))) at (told_more i (get_or ys i 0) refl (omega arith) (told_all i (omega arith)))

  pub counted_length : (length (columns_text 0 ys) + next (length ys) + near (length ys) ≡ 3 * all (length ys)) × (length (columns_text 0 ys) ≤ length ys)
  counted_length =
      let so = told_all (length ys) (omega arith) in
      let end = ap (λ l. length (columns_text (zeros_before ys (length ys)) l)) (drop_all (length ys) ys (omega arith)) in
      let t = so.told in
      let s = so.small in
      let e = so.text in
      (omega arith, omega arith)

-- ---- counts of bits, from the lowest and from the highest

ones_bit : (b : ℕ) → b < 2 → count_ones b ≡ b
ones_bit zero h = ones-ones 0
ones_bit (suc zero) h = ones-ones 1
ones_bit (suc (suc b)) h = absurd (omega arith)

-- the bits below bit i
abbrev low_ones : ℕ → ℕ → ℕ
low_ones n i = count_ones (n % 2 ^ i)

ones_low_none : (n : ℕ) → low_ones n 0 ≡ 0
ones_low_none n = ap count_ones (let none : n % 2 ^ 0 ≡ 0 = omega arith in none) ∙ ones-ones 0

low_more : (n i : ℕ) → low_ones n (i + 1) ≡ low_ones n i + bit_at n i
low_more n i =
    let at : i + 1 ≡ 1 + i = omega arith in
    let bit : n / 2 ^ i % 2 ^ 1 ≡ bit_at n i = refl in
    let one = ones_bit (bit_at n i) (bit_at-lt n i) in
    let cat = ap (λ k. count_ones (n % 2 ^ k)) at ∙ ap count_ones (mod-pow-add n 1 i) ∙ ones_cat i (n / 2 ^ i % 2 ^ 1) (n % 2 ^ i) (mod-lt n (pow_pos i)) in
    cat ∙ ap (λ b. b + low_ones n i) one ∙ (let turn : bit_at n i + low_ones n i ≡ low_ones n i + bit_at n i = omega arith in turn)

low_all : (n k : ℕ) → n < 2 ^ k → low_ones n k ≡ count_ones n
low_all n k h = ap count_ones (mod-eq_of_lt h)

-- the bits from bit i on
abbrev high_ones : ℕ → ℕ → ℕ
high_ones n i = count_ones (n / 2 ^ i)

high_more : (n i : ℕ) → high_ones n i ≡ high_ones n (i + 1) + bit_at n i
high_more n i = ones_step (n / 2 ^ i) ∙ ap (λ m. bit_at n i + count_ones m) (shr-shr n i 1) ∙ (let turn : bit_at n i + high_ones n (i + 1) ≡ high_ones n (i + 1) + bit_at n i = omega arith in turn)

high_none : (n k : ℕ) → n < 2 ^ k → high_ones n k ≡ 0
high_none n k h = ap count_ones (div-eq_of_lt h) ∙ ones-ones 0

high_all : (n : ℕ) → high_ones n 0 ≡ count_ones n
high_all n = ap count_ones (let whole : n / 2 ^ 0 ≡ n = omega arith in whole)

-- a word whose bits are all within `wide` columns
narrow_word : (word wide : ℕ) → word < 2 ^ 64 → wide ≤ 64 → ((i : ℕ) → wide ≤ i → bit_at word i ≡ 0) → word < 2 ^ wide
narrow_word word wide fits h beyond =
    let less = mod-lt word (pow_pos wide) in
    subst (λ n. n < 2 ^ wide)
    (same_from_bits (word % 2 ^ wide) word (λ i. elim (cases_lt i wide) [
      | inl l ↦ sym (bit_at_cat_low (word / 2 ^ wide) wide (word % 2 ^ wide) i l) ∙ ap (λ n. bit_at n i) (shr_split word wide)
      | inr l ↦ bit_at_above (word % 2 ^ wide) wide i less l ∙ sym (beyond i l)
    ]))
    less

module _ (word wide p q : ℕ) (fits : word < 2 ^ 64) (few : wide ≤ 40) (beyond : (i : ℕ) → wide ≤ i → bit_at word i ≡ 0) where
  xs : List ℕ
  xs = word_columns wide word

  small : word < 2 ^ wide
  small = narrow_word word wide fits (omega arith) beyond

  small_and : (m : ℕ) → bit_and word m < 2 ^ wide
  small_and m = let less = and_le_l word m in let all = small in omega arith

  and_bit : (m i : ℕ) → i < wide → bit_at (bit_and word m) i ≡ min (get_or (word_columns wide word) i 0) (bit_at m i)
  and_bit m i h = bit_at_and word m i ∙ ap (λ b. min b (bit_at m i)) (sym (column_at wide word i h))

  column_bit : (i : ℕ) → i < wide → get_or (word_columns wide word) i 0 < 2
  column_bit i h = let e = column_at wide word i h in let b = bit_at-lt word i in omega arith

  pub forward_count : AreNearMarks (word_columns wide word) (bit_at p) (bit_at q) → (length (columns_text 0 (word_columns wide word)) + count_ones (bit_and word p) + count_ones (bit_and word q) ≡ 3 * count_ones word) × (length (columns_text 0 (word_columns wide word)) ≤ wide)
  forward_count tells =
      let ys = word_columns wide word in
      let long = length-word_columns wide word in
      let counted = counted_length ys (low_ones word) (low_ones (bit_and word p)) (low_ones (bit_and word q)) (bit_at p) (bit_at q) (omega arith) (λ i h. column_bit i (omega arith)) tells (ones_low_none word, ones_low_none (bit_and word p), ones_low_none (bit_and word q))
      (λ i h. (low_more word i ∙ ap (λ b. low_ones word i + b) (sym (column_at wide word i (omega arith))), low_more (bit_and word p) i ∙ ap (λ b. low_ones (bit_and word p) i + b) (and_bit p i (omega arith)), low_more (bit_and word q) i ∙ ap (λ b. low_ones (bit_and word q) i + b) (and_bit q i (omega arith)))) in
      let a = ap (low_ones word) long ∙ low_all word wide small in
      let b = ap (low_ones (bit_and word p)) long ∙ low_all (bit_and word p) wide (small_and p) in
      let c = ap (low_ones (bit_and word q)) long ∙ low_all (bit_and word q) wide (small_and q) in
      let all = counted.0 in
      let few = counted.1 in
      (omega arith, omega arith)

  mirror_at : (i : ℕ) → i < wide → get_or (reverse (word_columns wide word)) i 0 ≡ bit_at word (wide - 1 - i)
  mirror_at i h =
      let long = length-word_columns wide word in
      let at : length (word_columns wide word) - 1 - i ≡ wide - 1 - i = omega arith in
      get_or-reverse (word_columns wide word) i 0 (omega arith) ∙ ap (λ n. get_or (word_columns wide word) n 0) at ∙ column_at wide word (wide - 1 - i) (omega arith)

  top_more : (n i : ℕ) → i < wide → high_ones n (wide - (i + 1)) ≡ high_ones n (wide - i) + bit_at n (wide - 1 - i)
  top_more n i h =
      let at : wide - (i + 1) ≡ wide - 1 - i = omega arith in
      let next : wide - 1 - i + 1 ≡ wide - i = omega arith in
      ap (high_ones n) at ∙ high_more n (wide - 1 - i) ∙ ap (λ k. high_ones n k + bit_at n (wide - 1 - i)) next

  top_and : (m i : ℕ) → i < wide → bit_at (bit_and word m) (wide - 1 - i) ≡ min (get_or (reverse (word_columns wide word)) i 0) (bit_at m (wide - 1 - i))
  top_and m i h = bit_at_and word m (wide - 1 - i) ∙ ap (λ b. min b (bit_at m (wide - 1 - i))) (sym (mirror_at i h))

  top_none : (n : ℕ) → n < 2 ^ wide → high_ones n (wide - 0) ≡ 0
  top_none n h = let at : wide - 0 ≡ wide = omega arith in ap (high_ones n) at ∙ high_none n wide h

  top_all : (n k : ℕ) → k ≡ wide → high_ones n (wide - k) ≡ count_ones n
  top_all n k e = let at : wide - k ≡ 0 = omega arith in ap (high_ones n) at ∙ high_all n

  pub backward_count : AreNearMarks (reverse (word_columns wide word)) (λ i. bit_at p (wide - 1 - i)) (λ i. bit_at q (wide - 1 - i)) → (length (columns_text 0 (reverse (word_columns wide word))) + count_ones (bit_and word p) + count_ones (bit_and word q) ≡ 3 * count_ones word) × (length (columns_text 0 (reverse (word_columns wide word))) ≤ wide)
  backward_count tells =
      let ys = reverse (word_columns wide word) in
      let long : length (reverse (word_columns wide word)) ≡ wide = length-reverse (word_columns wide word) ∙ length-word_columns wide word in
      let counted = counted_length ys (λ i. high_ones word (wide - i)) (λ i. high_ones (bit_and word p) (wide - i)) (λ i. high_ones (bit_and word q) (wide - i)) (λ i. bit_at p (wide - 1 - i)) (λ i. bit_at q (wide - 1 - i)) (omega arith)
      (λ i h. let e = mirror_at i (omega arith) in let b = bit_at-lt word (wide - 1 - i) in omega arith) tells
      (top_none word small, top_none (bit_and word p) (small_and p), top_none (bit_and word q) (small_and q))
      (λ i h. (top_more word i (omega arith) ∙ ap (λ b. high_ones word (wide - i) + b) (sym (mirror_at i (omega arith))), top_more (bit_and word p) i (omega arith) ∙ ap (λ b. high_ones (bit_and word p) (wide - i) + b) (top_and p i (omega arith)), top_more (bit_and word q) i (omega arith) ∙ ap (λ b. high_ones (bit_and word q) (wide - i) + b) (top_and q i (omega arith)))) in
      let a = top_all word (length ys) long in
      let b = top_all (bit_and word p) (length ys) long in
      let c = top_all (bit_and word q) (length ys) long in
      let all = counted.0 in
      let few = counted.1 in
      (omega arith, omega arith)

-- ---- which columns are near one that is marked

module _ (ys : List ℕ) (o two z : ℕ → ℕ) (first : o 0 ≡ 1) (after : (k : ℕ) → k + 1 < length ys → o (k + 1) ≡ get_or ys k 0) (bits : (i : ℕ) → i < length ys → get_or ys i 0 < 2) (bit : (i : ℕ) → z i < 2) (two_low : (i : ℕ) → o i ≤ two i) (two_step : (i : ℕ) → i < length ys → 1 ≤ i → two i ≡ max (o i) (o (i - 1))) (near_low : (i : ℕ) → two i ≤ z i) (near_step : (i : ℕ) → i < length ys → 2 ≤ i → z i ≡ max (two i) (two (i - 2))) where
  before_at : (i d : ℕ) → i < length ys → d < i → o (i - d) ≡ get_or ys (i - 1 - d) 0
  before_at i d h l = let at : i - d ≡ i - 1 - d + 1 = omega arith in ap o at ∙ after (i - 1 - d) (omega arith)

  last_one : (i : ℕ) → i < length ys → o (i - zeros_before ys i) ≡ 1
  last_one i h =
      let known = zeros_known ys i in
      let few = known.few in
      elim (cases_lt (zeros_before ys i) i) [
        | inl l ↦
            let at = before_at i (zeros_before ys i) h l in
            let live = known.live l in
            let small = bits (i - 1 - zeros_before ys i) (omega arith) in
            omega arith
        | inr l ↦ let at : i - zeros_before ys i ≡ 0 = omega arith in ap o at ∙ first
      ]

  at_most : (i d : ℕ) → i < length ys → d < 4 → d ≤ i → o (i - d) ≤ z i
  at_most i zero h l k = let at : i - 0 ≡ i = omega arith in let e = ap o at in let a = two_low i in let b = near_low i in omega arith
  at_most i (suc zero) h l k = let a = two_step i h (omega arith) in let b = near_low i in omega arith
  at_most i (suc (suc zero)) h l k = let a = two_low (i - 2) in let b = near_step i h (omega arith) in omega arith
  at_most i (suc (suc (suc zero))) h l k =
      let at : i - 3 ≡ i - 2 - 1 = omega arith in
      let e = ap o at in
      let a = two_step (i - 2) (omega arith) (omega arith) in
      let b = near_step i h (omega arith) in
      omega arith
  at_most i (suc (suc (suc (suc d)))) h l k = absurd (omega arith)

  pub near_tells : AreNearMarks ys o z
  near_tells = record {
    beside = λ i h e. let at : i ≡ i - zeros_before ys i = omega arith in ap o at ∙ last_one i h;
    apart = λ i h l.
        let known = zeros_known ys i in
        let few = known.few in
        let at : i ≡ i - 0 = omega arith in
        ap o at ∙ before_at i 0 h (omega arith) ∙ known.none 0 l;
    close = λ i h l.
        let one = last_one i h in
        let most = at_most i (zeros_before ys i) h l (zeros_known ys i).few in
        let small = bit i in
        omega arith;
    far = λ i h l.
        let known = zeros_known ys i in
        let few = known.few in
        let at : i ≡ i - 0 = omega arith in
        let a = ap o at ∙ before_at i 0 h (omega arith) ∙ known.none 0 (omega arith) in
        let b = before_at i 1 h (omega arith) ∙ known.none 1 (omega arith) in
        let c = before_at i 2 h (omega arith) ∙ known.none 2 (omega arith) in
        let next : i - 3 ≡ i - 2 - 1 = omega arith in
        let d = ap o (sym next) ∙ before_at i 3 h (omega arith) ∙ known.none 3 (omega arith) in
        let one = two_step i h (omega arith) in
        let other = two_step (i - 2) (omega arith) (omega arith) in
        let all = near_step i h (omega arith) in
        omega arith;
  }

-- ---- shifted words

low_word : (n i : ℕ) → i < 64 → bit_at (n % 2 ^ 64) i ≡ bit_at n i
low_word n i h = sym (bit_at_cat_low (n / 2 ^ 64) 64 (n % 2 ^ 64) i h) ∙ ap (λ m. bit_at m i) (shr_split n 64)

shl_low : (a k i : ℕ) → i < k → i < 64 → bit_at (a * 2 ^ k % 2 ^ 64) i ≡ 0
shl_low a k i h l = low_word (a * 2 ^ k) i l ∙ ap (λ n. bit_at n i) (sym (add-zero (a * 2 ^ k))) ∙ bit_at_cat_low a k 0 i h ∙ bit_at-zero i

shl_high : (a k i : ℕ) → k ≤ i → i < 64 → bit_at (a * 2 ^ k % 2 ^ 64) i ≡ bit_at a (i - k)
shl_high a k i h l = low_word (a * 2 ^ k) i l ∙ ap (λ n. bit_at n i) (sym (add-zero (a * 2 ^ k))) ∙ bit_at_cat_high a k 0 i (pow_pos k) h

shr_bit : (a k i : ℕ) → bit_at (a / 2 ^ k) i ≡ bit_at a (k + i)
shr_bit a k i = ap (λ n. n % 2) (shr-shr a k i)

or_left_most : (a b i : ℕ) → bit_at a i ≤ bit_at (bit_or a b) i
or_left_most a b i = let e = bit_at_or a b i in omega arith

module _ (word wide : ℕ) (few : wide ≤ 40) where
  abbrev after_next : ℕ
  after_next = bit_or (word * 2 ^ 1 % 2 ^ 64) 1

  abbrev after_two : ℕ
  after_two = bit_or after_next (after_next * 2 ^ 1 % 2 ^ 64)

  abbrev after_near : ℕ
  after_near = bit_or after_two (after_two * 2 ^ 2 % 2 ^ 64)

  column_small : (i : ℕ) → i < length (word_columns wide word) → get_or (word_columns wide word) i 0 < 2
  column_small i h = let long = length-word_columns wide word in let e = column_at wide word i (omega arith) in let b = bit_at-lt word i in omega arith

  pub near_after : AreNearMarks (word_columns wide word) (bit_at after_next) (bit_at after_near)
  near_after =
      let long = length-word_columns wide word in
      near_tells (word_columns wide word) (bit_at after_next) (bit_at after_two) (bit_at after_near)
      (let e = bit_at_or (word * 2 ^ 1 % 2 ^ 64) 1 0 in let a = shl_low word 1 0 (omega arith) (omega arith) in let b = bit_at-pow_same 0 in omega arith)
      (λ k h.
      let e = bit_at_or (word * 2 ^ 1 % 2 ^ 64) 1 (k + 1) in
      let at : k + 1 - 1 ≡ k = omega arith in
      let a = shl_high word 1 (k + 1) (omega arith) (omega arith) ∙ ap (bit_at word) at in
      let b = bit_at-pow_other 0 (k + 1) (λ l. omega arith) in
      let is = column_at wide word k (omega arith) in
      omega arith)
      column_small
      (bit_at-lt after_near)
      (or_left_most after_next (after_next * 2 ^ 1 % 2 ^ 64))
      (λ i h l. bit_at_or after_next (after_next * 2 ^ 1 % 2 ^ 64) i ∙ ap (λ n. max (bit_at after_next i) n) (shl_high after_next 1 i l (omega arith)))
      (or_left_most after_two (after_two * 2 ^ 2 % 2 ^ 64))
      (λ i h l. bit_at_or after_two (after_two * 2 ^ 2 % 2 ^ 64) i ∙ ap (λ n. max (bit_at after_two i) n) (shl_high after_two 2 i l (omega arith)))

  abbrev filled : ℕ
  filled = bit_or word (18446744073709551615 * 2 ^ wide % 2 ^ 64)

  abbrev before_next : ℕ
  before_next = filled / 2 ^ 1

  abbrev before_two : ℕ
  before_two = bit_or before_next (before_next / 2 ^ 1)

  abbrev before_near : ℕ
  before_near = bit_or before_two (before_two / 2 ^ 2)

  mask_bit : (i : ℕ) → bit_at (18446744073709551615 * 2 ^ wide % 2 ^ 64) i ≡ bit_at (2 ^ 64 - 2 ^ wide) i
  mask_bit i = ap (λ n. bit_at n i) (ones_shl 64 wide (omega arith))

  mirror_bit : (i : ℕ) → i < wide → get_or (reverse (word_columns wide word)) i 0 ≡ bit_at word (wide - 1 - i)
  mirror_bit i h =
      let long = length-word_columns wide word in
      let at : length (word_columns wide word) - 1 - i ≡ wide - 1 - i = omega arith in
      get_or-reverse (word_columns wide word) i 0 (omega arith) ∙ ap (λ n. get_or (word_columns wide word) n 0) at ∙ column_at wide word (wide - 1 - i) (omega arith)

  before_step : (a k i : ℕ) → i < wide → k ≤ i → bit_at (a / 2 ^ k) (wide - 1 - i) ≡ bit_at a (wide - 1 - (i - k))
  before_step a k i h l = let at : k + (wide - 1 - i) ≡ wide - 1 - (i - k) = omega arith in shr_bit a k (wide - 1 - i) ∙ ap (bit_at a) at

  pub near_before : AreNearMarks (reverse (word_columns wide word)) (λ i. bit_at before_next (wide - 1 - i)) (λ i. bit_at before_near (wide - 1 - i))
  near_before =
      let long : length (reverse (word_columns wide word)) ≡ wide = length-reverse (word_columns wide word) ∙ length-word_columns wide word in
      near_tells (reverse (word_columns wide word)) (λ i. bit_at before_next (wide - 1 - i)) (λ i. bit_at before_two (wide - 1 - i)) (λ i. bit_at before_near (wide - 1 - i))
      (let e = shr_bit filled 1 (wide - 1 - 0) ∙ bit_at_or word (18446744073709551615 * 2 ^ wide % 2 ^ 64) (1 + (wide - 1 - 0)) in
      let a = mask_bit (1 + (wide - 1 - 0)) ∙ bit_at_mask_inside wide 64 (1 + (wide - 1 - 0)) (omega arith) (omega arith) in
      let b = bit_at-lt word (1 + (wide - 1 - 0)) in
      omega arith)
      (λ k h.
      let e = shr_bit filled 1 (wide - 1 - (k + 1)) ∙ bit_at_or word (18446744073709551615 * 2 ^ wide % 2 ^ 64) (1 + (wide - 1 - (k + 1))) in
      let a = mask_bit (1 + (wide - 1 - (k + 1))) ∙ bit_at_mask_below wide 64 (1 + (wide - 1 - (k + 1))) (omega arith) in
      let at : 1 + (wide - 1 - (k + 1)) ≡ wide - 1 - k = omega arith in
      let same = ap (bit_at word) at in
      let is = mirror_bit k (omega arith) in
      omega arith)
      (λ i h. let e = mirror_bit i (omega arith) in let b = bit_at-lt word (wide - 1 - i) in omega arith)
      (λ i. bit_at-lt before_near (wide - 1 - i))
      (λ i. or_left_most before_next (before_next / 2 ^ 1) (wide - 1 - i))
      (λ i h l. bit_at_or before_next (before_next / 2 ^ 1) (wide - 1 - i) ∙ ap (λ n. max (bit_at before_next (wide - 1 - i)) n) (before_step before_next 1 i (omega arith) l))
      (λ i. or_left_most before_two (before_two / 2 ^ 2) (wide - 1 - i))
      (λ i h l. bit_at_or before_two (before_two / 2 ^ 2) (wide - 1 - i) ∙ ap (λ n. max (bit_at before_two (wide - 1 - i)) n) (before_step before_two 2 i (omega arith) l))

-- some of the bits of a word are no more than all
pub fewer_ones : (k a b : ℕ) → a < 2 ^ k → count_ones (bit_and a b) ≤ count_ones a
fewer_ones k a b h =
    let both = and_le_l a b in
    let one = low_all a k h in
    let two = low_all (bit_and a b) k (omega arith) in
    let all = low_fewer a b k in
    omega arith
  where
    low_fewer : (a b i : ℕ) → low_ones (bit_and a b) i ≤ low_ones a i
    low_fewer a b zero = let x = ones_low_none (bit_and a b) in omega arith
    low_fewer a b (suc i) =
        let at : suc i ≡ i + 1 = omega arith in
        let x = ap (low_ones (bit_and a b)) at ∙ low_more (bit_and a b) i in
        let y = ap (low_ones a) at ∙ low_more a i in
        let bit = bit_at_and a b i in
        let rest = low_fewer a b i in
        omega arith
