-- What one byte of a text is among its tokens.
use Rattle.std.proofs.Common.{◌≡◌, ℕ, suc, ◌+◌, ◌-◌, ◌*◌, ◌<◌, ◌≤◌, min, Bool, true, false, not, cond, ◌&&◌, ◌||◌, List, [], ◌∷◌, ◌++◌, length, get_or, drop, take, if◌then◌else◌, ◌==◌, sym, ap, ◌∙◌, refl, arith, add-one}
use Rattle.std.specs.List.{prefix_len, take_while}
use Rattle.std.specs.Str.Parse.{digits_value_after, digits_value}
use Rattle.std.specs.Char.{digit_value}
use Rattle.std.proofs.Math.Seq.{drop-cons}
use Rattle.std.proofs.lemmas.Bool.Decides.{nat_tests}
use Rattle.std.proofs.lemmas.List.{drop_all}
use Rattle.std.proofs.Math.Bool.{true≢false, or-true}
use Rattle.texts.specs.Bytes.{is_digit, is_space, is_blank, without_front}
use Rattle.life_text.specs.Rle.{Count, Tag, comments_as_blanks, lexemes}
use Rattle.life_text.specs.Reader.{byte_before, plain_at, count_cap, is_in_comment}

pub previous_more : (text : List ℕ) (at : ℕ) → byte_before text (at + 1) ≡ get_or text at 0
previous_more text at = rw add-one refl

-- the text from a place on begins with the byte there
from_place : (text : List ℕ) (at : ℕ) → at < length text → drop at text ≡ get_or text at 0 ∷ drop (at + 1) text
from_place text at lt = rw add-one (drop-cons text at 0 lt)

-- the byte at a place, and what follows it
pub blanked_more : (comment : Bool) (text : List ℕ) (at : ℕ) → at < length text →
    comments_as_blanks comment (byte_before text at) (drop at text)
    ≡ (if is_in_comment comment (byte_before text at) (get_or text at 0) && not (get_or text at 0 == 10) then 32 else get_or text at 0)
    ∷ comments_as_blanks (is_in_comment comment (byte_before text at) (get_or text at 0)) (byte_before text (at + 1)) (drop (at + 1) text)
blanked_more comment text at lt =
    ap (comments_as_blanks comment (byte_before text at)) (from_place text at lt)
    ∙ ap (λ n. (if is_in_comment comment (byte_before text at) (get_or text at 0) && not (get_or text at 0 == 10) then 32 else get_or text at 0)
    ∷ comments_as_blanks (is_in_comment comment (byte_before text at) (get_or text at 0)) n (drop (at + 1) text)) (sym (previous_more text at))

-- a byte that is blanked or a blank or LF itself
blank_yes : (b : Bool) (c : ℕ) → (not b && not (is_space c)) ≡ false → is_space (if b && not (c == 10) then 32 else c) ≡ true
blank_yes true c h = by_lf (c == 10) refl
  where
    by_lf : (e : Bool) → (c == 10) ≡ e → is_space (if not e then 32 else c) ≡ true
    by_lf true e = ap (λ b. is_blank c || b) e ∙ or-true (is_blank c)
    by_lf false e = refl
blank_yes false c h = by_space (is_space c) h
  where
    by_space : (b : Bool) → (not b) ≡ false → b ≡ true
    by_space true h = refl
    by_space false h = absurd (true≢false h)

front_more : (test : ℕ → Bool) (c : ℕ) (rest : List ℕ) → test c ≡ true → (prefix_len test (c ∷ rest) ≡ 1 + prefix_len test rest) × (without_front test (c ∷ rest) ≡ without_front test rest)
front_more test c rest h =
    let n : prefix_len test (c ∷ rest) ≡ 1 + prefix_len test rest = ap (λ b. cond b (1 + prefix_len test rest) 0) h in
    let m : 1 + prefix_len test rest ≡ suc (prefix_len test rest) = omega arith in
    (n, ap (λ k. drop k (c ∷ rest)) (n ∙ m))

front_none : (test : ℕ → Bool) (c : ℕ) (rest : List ℕ) → test c ≡ false → (prefix_len test (c ∷ rest) ≡ 0) × (without_front test (c ∷ rest) ≡ c ∷ rest)
front_none test c rest h =
    let n : prefix_len test (c ∷ rest) ≡ 0 = ap (λ b. cond b (1 + prefix_len test rest) 0) h in
    (n, ap (λ k. drop k (c ∷ rest)) n)

-- a byte that is passed over
pub pass_over : (comment : Bool) (text : List ℕ) (at : ℕ) → at < length text → (not (is_in_comment comment (byte_before text at) (get_or text at 0)) && not (is_space (get_or text at 0))) ≡ false →
    (prefix_len is_space (comments_as_blanks comment (byte_before text at) (drop at text)) ≡ 1 + prefix_len is_space (comments_as_blanks (is_in_comment comment (byte_before text at) (get_or text at 0)) (byte_before text (at + 1)) (drop (at + 1) text)))
    × (without_front is_space (comments_as_blanks comment (byte_before text at) (drop at text)) ≡ without_front is_space (comments_as_blanks (is_in_comment comment (byte_before text at) (get_or text at 0)) (byte_before text (at + 1)) (drop (at + 1) text)))
pass_over comment text at lt h =
    let more = blanked_more comment text at lt in
    let yes = blank_yes (is_in_comment comment (byte_before text at) (get_or text at 0)) (get_or text at 0) h in
    let front = front_more is_space (if is_in_comment comment (byte_before text at) (get_or text at 0) && not (get_or text at 0 == 10) then 32 else get_or text at 0) (comments_as_blanks (is_in_comment comment (byte_before text at) (get_or text at 0)) (byte_before text (at + 1)) (drop (at + 1) text)) yes in
    (ap (prefix_len is_space) more ∙ front.0, ap (without_front is_space) more ∙ front.1)

-- a byte that is in no comment line
pub blanked_plain : (comment : Bool) (text : List ℕ) (at : ℕ) → at < length text → is_in_comment comment (byte_before text at) (get_or text at 0) ≡ false →
    comments_as_blanks comment (byte_before text at) (drop at text) ≡ get_or text at 0 ∷ plain_at text (at + 1)
blanked_plain comment text at lt h =
    blanked_more comment text at lt
    ∙ ap (λ b. (if b && not (get_or text at 0 == 10) then 32 else get_or text at 0) ∷ comments_as_blanks b (byte_before text (at + 1)) (drop (at + 1) text)) h

inside_none : (comment : Bool) (before c : ℕ) → is_in_comment comment before c ≡ false → is_in_comment false before c ≡ false
inside_none comment before c h = by_line (before == 10) h
  where
    by_line : (b : Bool) → (if b then c == 35 else comment) ≡ false → (if b then c == 35 else false) ≡ false
    by_line true h = h
    by_line false h = refl

-- the first byte that is not passed over
pub stop_at : (comment : Bool) (text : List ℕ) (at : ℕ) → at < length text → is_in_comment comment (byte_before text at) (get_or text at 0) ≡ false → is_space (get_or text at 0) ≡ false →
    (prefix_len is_space (comments_as_blanks comment (byte_before text at) (drop at text)) ≡ 0) × (without_front is_space (comments_as_blanks comment (byte_before text at) (drop at text)) ≡ plain_at text at)
    × (plain_at text at ≡ get_or text at 0 ∷ plain_at text (at + 1))
stop_at comment text at lt out h =
    let first = blanked_plain comment text at lt out in
    let plain = blanked_plain false text at lt (inside_none comment (byte_before text at) (get_or text at 0) out) in
    let none = front_none is_space (get_or text at 0) (plain_at text (at + 1)) h in
    (ap (prefix_len is_space) first ∙ none.0, ap (without_front is_space) first ∙ none.1 ∙ sym plain, plain)

-- the end of the text
pub stop_end : (comment : Bool) (before : ℕ) (text : List ℕ) (at : ℕ) → length text ≤ at → comments_as_blanks comment before (drop at text) ≡ []
stop_end comment before text at h = ap (comments_as_blanks comment before) (drop_all at text h)

-- # Lexemes

space_no_digit : (c : ℕ) → is_space c ≡ true → is_digit c ≡ false
space_no_digit c h = grind (arith, nat_tests)

-- blanks in front don't change the lexemes
pub lexemes-spaces : (s : List ℕ) (at : ℕ) → lexemes false at s ≡ lexemes false (at + prefix_len is_space s) (without_front is_space s)
lexemes-spaces [] at = refl
lexemes-spaces (c ∷ s) at = by_space (lexemes-spaces s (at + 1)) (is_space c) refl
  where
    by_space : lexemes false (at + 1) s ≡ lexemes false (at + 1 + prefix_len is_space s) (without_front is_space s) → (b : Bool) → is_space c ≡ b → lexemes false at (c ∷ s) ≡ lexemes false (at + prefix_len is_space (c ∷ s)) (without_front is_space (c ∷ s))
    by_space ih true h =
        let front = front_more is_space c s h in
        let place : at + 1 + prefix_len is_space s ≡ at + prefix_len is_space (c ∷ s) = omega (arith, front.0) in
        ap (λ b. (if b then [] else (if not (is_digit c) then Tag at c ∷ [] else Count at (digits_value 10 (take_while is_digit (c ∷ s))) ∷ [])) ++ lexemes (is_digit c) (at + 1) s) h
        ∙ ap (λ b. lexemes b (at + 1) s) (space_no_digit c h)
        ∙ ih
        ∙ ap (λ n. lexemes false n (without_front is_space s)) place
        ∙ ap (lexemes false (at + prefix_len is_space (c ∷ s))) (sym front.1)
    by_space ih false h =
        let none = front_none is_space c s h in
        let place : at ≡ at + prefix_len is_space (c ∷ s) = omega (arith, none.0) in
        ap (λ n. lexemes false n (c ∷ s)) place ∙ ap (lexemes false (at + prefix_len is_space (c ∷ s))) (sym none.1)

-- a digit is in no comment line, if none before it is
pub digit_plain : (text : List ℕ) (at : ℕ) → at < length text → is_digit (get_or text at 0) ≡ true → plain_at text at ≡ get_or text at 0 ∷ plain_at text (at + 1)
digit_plain text at lt h = blanked_plain false text at lt (by_line (byte_before text at == 10))
  where
    no_sign : (c : ℕ) → is_digit c ≡ true → (c == 35) ≡ false
    no_sign c h = grind (arith, nat_tests)

    by_line : (b : Bool) → (if b then get_or text at 0 == 35 else false) ≡ false
    by_line true = no_sign (get_or text at 0) h
    by_line false = refl

-- a byte that is no digit stays so, blanked or not
no_digit : (b : Bool) (c : ℕ) → is_digit c ≡ false → is_digit (if b && not (c == 10) then 32 else c) ≡ false
no_digit true c h = by_lf (c == 10)
  where
    by_lf : (e : Bool) → is_digit (if not e then 32 else c) ≡ false
    by_lf true = h
    by_lf false = refl
no_digit false c h = h

pub digit_no_space : (c : ℕ) → is_digit c ≡ true → is_space c ≡ false
digit_no_space c h = grind (arith, nat_tests)

-- # Counts

-- within a count a digit is passed over
pub within_digit : (text : List ℕ) (at : ℕ) → at < length text → is_digit (get_or text at 0) ≡ true → lexemes true at (plain_at text at) ≡ lexemes true (at + 1) (plain_at text (at + 1))
within_digit text at lt h =
    let c = get_or text at 0 in
    let rest = plain_at text (at + 1) in
    ap (lexemes true at) (digit_plain text at lt h)
    ∙ ap (λ b. (if b then [] else (if not (is_digit c) then Tag at c ∷ [] else [])) ++ lexemes (is_digit c) (at + 1) rest) (digit_no_space c h)
    ∙ ap (λ b. (if not b then Tag at c ∷ [] else []) ++ lexemes b (at + 1) rest) h

-- the front of a text whose first byte is no digit
heads_same : (at : ℕ) (c : ℕ) (rest : List ℕ) → is_digit c ≡ false → lexemes true at (c ∷ rest) ≡ lexemes false at (c ∷ rest)
heads_same at c rest h =
    ap (λ b. (if is_space c then [] else (if not b then Tag at c ∷ [] else [])) ++ lexemes (is_digit c) (at + 1) rest) h
    ∙ sym (ap (λ b. (if is_space c then [] else (if not b then Tag at c ∷ [] else Count at (digits_value 10 (take_while is_digit (c ∷ rest))) ∷ [])) ++ lexemes (is_digit c) (at + 1) rest) h)

-- a count ends before a byte that is no digit
pub behind_digits : (text : List ℕ) (at : ℕ) → at < length text → is_digit (get_or text at 0) ≡ false → (lexemes true at (plain_at text at) ≡ lexemes false at (plain_at text at)) × (take_while is_digit (plain_at text at) ≡ [])
behind_digits text at lt h =
    let c = get_or text at 0 in
    let b = is_in_comment false (byte_before text at) c in
    let rest = comments_as_blanks b (byte_before text (at + 1)) (drop (at + 1) text) in
    let more = blanked_more false text at lt in
    let none = no_digit b c h in
    let e = heads_same at (if b && not (c == 10) then 32 else c) rest none in (
      ap (lexemes true at) more ∙ e ∙ sym (ap (lexemes false at) more),
      ap (take_while is_digit) more ∙ ap (λ n. take n ((if b && not (c == 10) then 32 else c) ∷ rest)) (front_none is_digit (if b && not (c == 10) then 32 else c) rest none).0,
    )

pub behind_end : (text : List ℕ) (at : ℕ) → length text ≤ at → (lexemes true at (plain_at text at) ≡ lexemes false at (plain_at text at)) × (take_while is_digit (plain_at text at) ≡ [])
behind_end text at h =
    let none = stop_end false (byte_before text at) text at h in
    (ap (lexemes true at) none ∙ sym (ap (lexemes false at) none), ap (take_while is_digit) none)

-- the first digit of a count
pub first_digit : (text : List ℕ) (at : ℕ) → at < length text → is_digit (get_or text at 0) ≡ true → lexemes false at (plain_at text at) ≡ Count at (digits_value 10 (take_while is_digit (plain_at text at))) ∷ lexemes true (at + 1) (plain_at text (at + 1))
first_digit text at lt h =
    let c = get_or text at 0 in
    let rest = plain_at text (at + 1) in
    let plain = digit_plain text at lt h in
    ap (lexemes false at) plain
    ∙ ap (λ b. (if b then [] else (if not (is_digit c) then Tag at c ∷ [] else Count at (digits_value 10 (take_while is_digit (c ∷ rest))) ∷ [])) ++ lexemes (is_digit c) (at + 1) rest) (digit_no_space c h)
    ∙ ap (λ b. (if not b then Tag at c ∷ [] else Count at (digits_value 10 (take_while is_digit (c ∷ rest))) ∷ []) ++ lexemes b (at + 1) rest) h
    ∙ ap (λ s. Count at (digits_value 10 (take_while is_digit s)) ∷ lexemes true (at + 1) rest) (sym plain)

-- a byte that is neither blank nor digit
pub tag_first : (text : List ℕ) (at : ℕ) (c : ℕ) (rest : List ℕ) → is_space c ≡ false → is_digit c ≡ false → lexemes false at (c ∷ rest) ≡ Tag at c ∷ lexemes false (at + 1) rest
tag_first text at c rest s h =
    ap (λ b. (if b then [] else (if not (is_digit c) then Tag at c ∷ [] else Count at (digits_value 10 (take_while is_digit (c ∷ rest))) ∷ [])) ++ lexemes (is_digit c) (at + 1) rest) s
    ∙ ap (λ b. (if not b then Tag at c ∷ [] else Count at (digits_value 10 (take_while is_digit (c ∷ rest))) ∷ []) ++ lexemes b (at + 1) rest) h

-- the digits of a text, from one on
take_more : (c : ℕ) (rest : List ℕ) → is_digit c ≡ true → take_while is_digit (c ∷ rest) ≡ c ∷ take_while is_digit rest
take_more c rest h =
    let m : prefix_len is_digit (c ∷ rest) ≡ suc (prefix_len is_digit rest) = (front_more is_digit c rest h).0 ∙ omega arith in
    ap (λ k. take k (c ∷ rest)) m

digit_value_is : (c : ℕ) → is_digit c ≡ true → digit_value c ≡ c - 48
digit_value_is c h = grind (arith, nat_tests)

-- values that agree up to the cap still do after more digits
capped_digits : (digits : List ℕ) (m n : ℕ) → min m count_cap ≡ min n count_cap → min (digits_value_after 10 m digits) count_cap ≡ min (digits_value_after 10 n digits) count_cap
capped_digits [] m n e = e
capped_digits (c ∷ digits) m n e = capped_digits digits (m * 10 + digit_value c) (n * 10 + digit_value c) (omega arith)

-- one digit of a capped value
pub value_more : (text : List ℕ) (at value : ℕ) → at < length text → is_digit (get_or text at 0) ≡ true →
    min (digits_value_after 10 value (take_while is_digit (plain_at text at))) count_cap
    ≡ min (digits_value_after 10 (min (value * 10 + (get_or text at 0 - 48)) count_cap) (take_while is_digit (plain_at text (at + 1)))) count_cap
value_more text at value lt h =
    let c = get_or text at 0 in
    let rest = plain_at text (at + 1) in
    let digits = ap (take_while is_digit) (digit_plain text at lt h) ∙ take_more c rest h in
    let d = digit_value_is c h in
    let e : min (value * 10 + digit_value c) count_cap ≡ min (min (value * 10 + (c - 48)) count_cap) count_cap = omega arith in
    ap (λ s. min (digits_value_after 10 value s) count_cap) digits
    ∙ capped_digits (take_while is_digit rest) (value * 10 + digit_value c) (min (value * 10 + (c - 48)) count_cap) e

pub neither : (a b : Bool) → (not a && not b) ≡ true → (a ≡ false) × (b ≡ false)
neither true b h = absurd (true≢false (sym h))
neither false true h = absurd (true≢false (sym h))
neither false false h = (refl, refl)
