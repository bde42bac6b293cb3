-- Sets of digits and their bits, and the rule that a printed rule means.
use Rattle.std.proofs.Common.{◌≡◌, ◌≢◌, ℕ, zero, suc, ◌+◌, ◌-◌, ◌^◌, ◌<◌, ◌≤◌, ◌%◌, ◌==◌, max, Bool, true, false, cond, ◌||◌, ◌&&◌, List, [], ◌∷◌, ◌++◌, codes, fold, filter, map, nat_eq, Ok, Err, bit_or, sym, ap, ◌∙◌, refl, arith, inl, inr, append_assoc, add-one, if◌then◌else◌}
use Rattle.std.proofs.Math.Pow.{pow-lt}
use Rattle.std.proofs.Math.Bool.{or-false, or_assoc}
use Rattle.std.proofs.lemmas.Nat.{or_lt}
use Rattle.std.proofs.lemmas.Nat.Bits.{bit_at-zero, bit_at-lt, bit_at_or, bit_at-pow_same, bit_at-pow_other, bit_at_lowest, same_from_bits_below}
use Rattle.std.proofs.lemmas.Bool.Decides.{nat_tests}
use Rattle.std.proofs.lemmas.Bool.{and_parts}
use Rattle.std.proofs.lemmas.List.{map-append}
use Rattle.std.proofs.lemmas.List.Elements.{filter-append}
use Rattle.std.specs.Int.{bit_at}
use Rattle.std.specs.List.{list_all, range_with_len}
use Rattle.life_model.specs.Rule.{Rule, has_bit}
use Rattle.life_cells.specs.declared.rule.RuleFault.TheVariants.{HasB0}
use Rattle.texts.specs.Bytes.{is_in}
use Rattle.life_cells.specs.Rules.{is_count, members, set_text, rule_text, rule_of, rule_of_digits}
use Rattle.life_cells.specs.Forms.{IsDigits, HasForm}
use Rattle.life_cells.proofs.RuleLemmas.{count_range}
use Rattle.life_cells.proofs.FormLemmas.{form_is}

-- # A set of digits

-- the set with the number of one more digit
abbrev with : ℕ → ℕ → ℕ
with set c = bit_or set (2 ^ (c - 48))

either_bit : (a b : ℕ) → a < 2 → b < 2 → (max a b == 1) ≡ ((a == 1) || (b == 1))
either_bit a b x y = grind (arith, nat_tests)

place_of : (c n : ℕ) → 48 ≤ c → (bit_at (2 ^ (c - 48)) n == 1) ≡ nat_eq c (48 + n)
place_of c n lo = by_place (nat_eq c (48 + n)) refl
  where
    by_place : (b : Bool) → nat_eq c (48 + n) ≡ b → (bit_at (2 ^ (c - 48)) n == 1) ≡ b
    by_place true e =
        let place : c - 48 ≡ n = grind (arith, nat_tests) in
        ap (λ k. bit_at (2 ^ k) n == 1) place ∙ ap (λ k. k == 1) (bit_at-pow_same n)
    by_place false e =
        let apart : n ≢ c - 48 = λ h. grind (arith, nat_tests) in
        ap (λ k. k == 1) (bit_at-pow_other (c - 48) n apart)

bit_with : (set c n : ℕ) → 48 ≤ c → has_bit (with set c) n ≡ (has_bit set n || nat_eq c (48 + n))
bit_with set c n lo =
    ap (λ k. k == 1) (bit_at_or set (2 ^ (c - 48)) n)
    ∙ either_bit (bit_at set n) (bit_at (2 ^ (c - 48)) n) (bit_at-lt set n) (bit_at-lt (2 ^ (c - 48)) n)
    ∙ ap (λ b. has_bit set n || b) (place_of c n lo)

members_from : (digits : List ℕ) (set n : ℕ) → IsDigits digits → has_bit (fold with set digits) n ≡ (has_bit set n || is_in digits (48 + n))
members_from [] set n h = sym (or-false (has_bit set n))
members_from (c ∷ digits) set n h =
    let lo = (count_range c (and_parts (is_count c) (list_all is_count digits) h).0).0 in
    members_from digits (with set c) n (and_parts (is_count c) (list_all is_count digits) h).1
    ∙ ap (λ b. b || is_in digits (48 + n)) (bit_with set c n lo)
    ∙ or_assoc (has_bit set n) (nat_eq c (48 + n)) (is_in digits (48 + n))

pub members_are : (digits : List ℕ) (n : ℕ) → IsDigits digits → has_bit (members digits) n ≡ is_in digits (48 + n)
members_are digits n h = members_from digits 0 n h ∙ ap (λ k. (k == 1) || is_in digits (48 + n)) (bit_at-zero n)

members_below : (digits : List ℕ) (set : ℕ) → IsDigits digits → set < 512 → fold with set digits < 512
members_below [] set h small = small
members_below (c ∷ digits) set h small =
    let hi = (count_range c (and_parts (is_count c) (list_all is_count digits) h).0).1 in
    let few : c - 48 < 9 = omega arith in
    let below : 2 ^ (c - 48) < 2 ^ 9 = pow-lt few in
    members_below digits (with set c) (and_parts (is_count c) (list_all is_count digits) h).1 (or_lt 9 set (2 ^ (c - 48)) small below)

-- # The printed digits of a set

-- those below a number, from one on
abbrev pub digits_from : ℕ → ℕ → ℕ → List ℕ
digits_from set a n = map (λ k. 48 + k) (filter (λ k. bit_at set k == 1) (range_with_len a n))

digits_step : (set a n : ℕ) (b : Bool) → (bit_at set a == 1) ≡ b → digits_from set a (suc n) ≡ cond b ((48 + a) ∷ digits_from set (a + 1) n) (digits_from set (a + 1) n)
digits_step set a n true e = ap (λ b. map (λ k. 48 + k) (cond b (a ∷ filter (λ k. bit_at set k == 1) (range_with_len (a + 1) n)) (filter (λ k. bit_at set k == 1) (range_with_len (a + 1) n)))) e
digits_step set a n false e = ap (λ b. map (λ k. 48 + k) (cond b (a ∷ filter (λ k. bit_at set k == 1) (range_with_len (a + 1) n)) (filter (λ k. bit_at set k == 1) (range_with_len (a + 1) n)))) e

digits_are : (set n a : ℕ) → a + n ≤ 9 → IsDigits (digits_from set a n)
digits_are set zero a h = refl
digits_are set (suc n) a h = by_bit (digits_are set n (a + 1) (omega arith)) (bit_at set a == 1) refl
  where
    digit : (k : ℕ) → k ≤ 8 → is_count (48 + k) ≡ true
    digit k small = grind (arith, nat_tests)

    by_bit : IsDigits (digits_from set (a + 1) n) → (b : Bool) → (bit_at set a == 1) ≡ b → IsDigits (digits_from set a (suc n))
    by_bit rest true e = ap (list_all is_count) (digits_step set a n true e) ∙ ap (λ b. b && list_all is_count (digits_from set (a + 1) n)) (digit a (omega arith)) ∙ rest
    by_bit rest false e = ap (list_all is_count) (digits_step set a n false e) ∙ rest

-- a digit before those from a number on is not one of them
digit_before : (set n a m : ℕ) → m < a → is_in (digits_from set a n) (48 + m) ≡ false
digit_before set zero a m h = refl
digit_before set (suc n) a m h = by_bit (digit_before set n (a + 1) m (omega arith)) (bit_at set a == 1) refl
  where
    apart : (k l : ℕ) → l < k → nat_eq (48 + k) (48 + l) ≡ false
    apart k l less = grind (arith, nat_tests)

    by_bit : is_in (digits_from set (a + 1) n) (48 + m) ≡ false → (b : Bool) → (bit_at set a == 1) ≡ b → is_in (digits_from set a (suc n)) (48 + m) ≡ false
    by_bit rest true e = ap (λ ds. is_in ds (48 + m)) (digits_step set a n true e) ∙ ap (λ b. b || is_in (digits_from set (a + 1) n) (48 + m)) (apart a m h) ∙ rest
    by_bit rest false e = ap (λ ds. is_in ds (48 + m)) (digits_step set a n false e) ∙ rest

digit_in : (set n a m : ℕ) → a ≤ m → m < a + n → is_in (digits_from set a n) (48 + m) ≡ (bit_at set m == 1)
digit_in set zero a m lo hi = absurd (omega arith)
digit_in set (suc n) a m lo hi = by_place (λ more. digit_in set n (a + 1) m more (omega arith)) (nat_eq a m) refl (bit_at set a == 1) refl
  where
    same : (k l : ℕ) → k ≡ l → nat_eq (48 + k) (48 + l) ≡ true
    same k l h = grind (arith, nat_tests)

    other : (k l : ℕ) → nat_eq k l ≡ false → nat_eq (48 + k) (48 + l) ≡ false
    other k l h = grind (arith, nat_tests)

    by_place : (a + 1 ≤ m → is_in (digits_from set (a + 1) n) (48 + m) ≡ (bit_at set m == 1)) → (p : Bool) → nat_eq a m ≡ p → (b : Bool) → (bit_at set a == 1) ≡ b → is_in (digits_from set a (suc n)) (48 + m) ≡ (bit_at set m == 1)
    by_place rest true p true e =
        let here : a ≡ m = grind (arith, nat_tests) in
        ap (λ ds. is_in ds (48 + m)) (digits_step set a n true e) ∙ ap (λ b. b || is_in (digits_from set (a + 1) n) (48 + m)) (same a m here) ∙ sym e ∙ ap (λ k. bit_at set k == 1) here
    by_place rest true p false e =
        let here : a ≡ m = grind (arith, nat_tests) in
        ap (λ ds. is_in ds (48 + m)) (digits_step set a n false e) ∙ digit_before set n (a + 1) m (omega arith) ∙ sym e ∙ ap (λ k. bit_at set k == 1) here
    by_place rest false p true e =
        let more : a + 1 ≤ m = grind (arith, nat_tests) in
        ap (λ ds. is_in ds (48 + m)) (digits_step set a n true e) ∙ ap (λ b. b || is_in (digits_from set (a + 1) n) (48 + m)) (other a m p) ∙ rest more
    by_place rest false p false e =
        let more : a + 1 ≤ m = grind (arith, nat_tests) in
        ap (λ ds. is_in ds (48 + m)) (digits_step set a n false e) ∙ rest more

-- one more number
pub range_more : (a n : ℕ) → range_with_len a (suc n) ≡ range_with_len a n ++ (a + n) ∷ []
range_more a zero = let same : a ≡ a + 0 = omega arith in ap (λ k. k ∷ []) same
range_more a (suc n) = let same : a + 1 + n ≡ a + suc n = omega arith in ap (λ ks. a ∷ ks) (range_more (a + 1) n ∙ ap (λ k. range_with_len (a + 1) n ++ k ∷ []) same)

pub range_one_more : (n : ℕ) → range_with_len 0 (n + 1) ≡ range_with_len 0 n ++ n ∷ []
range_one_more n = let same : 0 + n ≡ n = omega arith in rw add-one (range_more 0 n ∙ ap (λ k. range_with_len 0 n ++ k ∷ []) same)

pub digits_more : (set n : ℕ) → digits_from set 0 (n + 1) ≡ digits_from set 0 n ++ cond (bit_at set n == 1) ((48 + n) ∷ []) []
digits_more set n =
    ap (λ ks. map (λ k. 48 + k) (filter (λ k. bit_at set k == 1) ks)) (range_one_more n)
    ∙ ap (map (λ k. 48 + k)) (filter-append (λ k. bit_at set k == 1) (range_with_len 0 n) (n ∷ []))
    ∙ map-append (λ k. 48 + k) (filter (λ k. bit_at set k == 1) (range_with_len 0 n)) (filter (λ k. bit_at set k == 1) (n ∷ []))
    ∙ ap (λ ds. digits_from set 0 n ++ ds) (by_bit (bit_at set n == 1))
  where
    by_bit : (b : Bool) → map (λ k. 48 + k) (cond b (n ∷ []) []) ≡ cond b ((48 + n) ∷ []) []
    by_bit true = refl
    by_bit false = refl

-- # The printed rule

pub printed_set : (set : ℕ) → IsDigits (set_text set)
printed_set set = digits_are set 9 0 (omega arith)

pub read_set : (set : ℕ) → set < 512 → members (set_text set) ≡ set
read_set set small = same_from_bits_below 9 (members (set_text set)) set (members_below (set_text set) 0 (printed_set set) (omega arith)) small same
  where
    tell : (a b : ℕ) → a < 2 → b < 2 → (a == 1) ≡ (b == 1) → a ≡ b
    tell a b x y e = grind (arith, nat_tests)

    same : (i : ℕ) → i < 9 → bit_at (members (set_text set)) i ≡ bit_at set i
    same i h = tell _ _ (bit_at-lt (members (set_text set)) i) (bit_at-lt set i) (members_are (set_text set) i (printed_set set) ∙ digit_in set 9 0 i (omega arith) (omega arith))

no_zero : (set : ℕ) → set % 2 ≡ 0 → is_in (set_text set) 48 ≡ false
no_zero set even = digit_in set 9 0 0 (omega arith) (omega arith) ∙ ap (λ k. k == 1) (bit_at_lowest set ∙ even)

form : (r : Rule) → HasForm (rule_text r) (set_text r.birth) (set_text r.survival)
form r = inl (record {
  letter = 66;
  slash = codes "/";
  next = 83;
  first_is = refl;
  second_is = refl;
  slash_is = inr refl;
  whole = ap (λ text. 66 ∷ text) (append_assoc (set_text r.birth) (codes "/S") (set_text r.survival));
  digits = printed_set r.birth;
  others = printed_set r.survival;
})

pub printed_rule : (r : Rule) → r.birth < 512 → r.survival < 512 → r.birth % 2 ≡ 0 → rule_of (rule_text r) ≡ Ok r
printed_rule r birth survival even =
    ap rule_of_digits (form_is (rule_text r) (set_text r.birth) (set_text r.survival) (form r))
    ∙ ap (λ b. if b then Err HasB0 else Ok (record { birth = members (set_text r.birth); survival = members (set_text r.survival) })) (no_zero r.birth even)
    ∙ (λ i. Ok (record { birth = read_set r.birth birth i; survival = read_set r.survival survival i }))
