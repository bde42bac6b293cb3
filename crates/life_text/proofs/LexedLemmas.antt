-- A token that was written, as the reader's lexemes and tokens see it.
use Rattle.std.proofs.Common.{◌≡◌, ℕ, suc, ◌+◌, ◌^◌, ◌<◌, Bool, true, false, not, cond, ◌&&◌, ◌==◌, nat_le, if◌then◌else◌, List, [], ◌∷◌, ◌++◌, codes, length, take, decimal, Option, Some, None, unwrap_or, sym, refl, ap, ◌∙◌, arith, append_assoc}
use Rattle.std.specs.List.{list_all, prefix_len, take_while}
use Rattle.std.specs.Str.Parse.{digits_value, AllDigits, IsNumeral}
use Rattle.std.proofs.lemmas.Str.Parse.{tells_digits}
use Rattle.std.proofs.lemmas.Fmt.{decimal_is_IsNumeral}
use Rattle.std.proofs.lemmas.Bool.{false≢true, and_parts}
use Rattle.std.proofs.lemmas.Bool.Decides.{nat_tests}
use Rattle.texts.specs.Bytes.{is_digit, is_space}
use Rattle.life_text.specs.Filled.{filled_lines}
use Rattle.life_text.specs.Rle.{Lexeme, Count, Tag, Token, lexemes, tokens}
use Rattle.life_text.specs.RleText.{token_text}
use Rattle.life_text.proofs.LexLemmas.{digit_no_space}

-- # Digits

one_digit : (c : ℕ) (cs : List ℕ) → AllDigits 10 (c ∷ cs) → is_digit c ≡ true
one_digit c cs h = let range = tells_digits.parts c cs h in grind (arith, nat_tests)

all_digits : (cs : List ℕ) → AllDigits 10 cs → list_all is_digit cs ≡ true
all_digits [] h = refl
all_digits (c ∷ cs) h = ap (λ b. b && list_all is_digit cs) (one_digit c cs h) ∙ all_digits cs h.1

-- a number that was written: a digit, and more digits
pub record Written (text : List ℕ) (n : ℕ) : Type 0 where
  pub first : ℕ
  pub others : List ℕ
  pub whole : text ≡ first ∷ others
  pub digits : list_all is_digit (first ∷ others) ≡ true
  pub value : digits_value 10 (first ∷ others) ≡ n

pub written_number : (n : ℕ) → n < 2 ^ 64 → Written (decimal n) n
written_number n h = let d = decimal_is_IsNumeral n h in by_digits (decimal n) d.0 d.1
  where
    by_digits : (ds : List ℕ) → IsNumeral 10 ds → digits_value 10 ds ≡ n → Written ds n
    by_digits [] d e = absurd (omega (arith, d.0))
    by_digits (c ∷ cs) d e = record { first = c; others = cs; whole = refl; digits = all_digits (c ∷ cs) d.1; value = e }

-- digits before a byte that is no digit
front_digits : (ds : List ℕ) (c : ℕ) (rest : List ℕ) → list_all is_digit ds ≡ true → is_digit c ≡ false → take_while is_digit (ds ++ c ∷ rest) ≡ ds
front_digits [] c rest h stop = ap (λ b. take (cond b (1 + prefix_len is_digit rest) 0) (c ∷ rest)) stop
front_digits (d ∷ ds) c rest h stop =
    let more : prefix_len is_digit (d ∷ (ds ++ c ∷ rest)) ≡ suc (prefix_len is_digit (ds ++ c ∷ rest)) =
    ap (λ b. cond b (1 + prefix_len is_digit (ds ++ c ∷ rest)) 0) (and_parts (is_digit d) (list_all is_digit ds) h).0 ∙ omega arith in
    ap (λ k. take k (d ∷ (ds ++ c ∷ rest))) more ∙ ap (λ t. d ∷ t) (front_digits ds c rest (and_parts (is_digit d) (list_all is_digit ds) h).1 stop)

-- # Lexemes

tag_found : (within : Bool) (at c : ℕ) (rest : List ℕ) → is_space c ≡ false → is_digit c ≡ false → lexemes within at (c ∷ rest) ≡ Tag at c ∷ lexemes false (at + 1) rest
tag_found within at c rest space digit =
    ap (λ b. (if b then [] else (if not (is_digit c) then Tag at c ∷ [] else (if within then [] else Count at (digits_value 10 (take_while is_digit (c ∷ rest))) ∷ []))) ++ lexemes (is_digit c) (at + 1) rest) space
    ∙ ap (λ b. (if not b then Tag at c ∷ [] else (if within then [] else Count at (digits_value 10 (take_while is_digit (c ∷ rest))) ∷ [])) ++ lexemes b (at + 1) rest) digit

-- a tag, and the lexemes after it
record Tagged (ls : List Lexeme) (c : ℕ) (rest : List ℕ) : Type 0 where
  place : ℕ
  same : ls ≡ Tag place c ∷ lexemes false (place + 1) rest

digits_found : (ds : List ℕ) (at c : ℕ) (rest : List ℕ) → list_all is_digit ds ≡ true → is_space c ≡ false → is_digit c ≡ false → Tagged (lexemes true at (ds ++ c ∷ rest)) c rest
digits_found [] at c rest h space digit = record { place = at; same = tag_found true at c rest space digit }
digits_found (d ∷ ds) at c rest h space digit =
    let is = (and_parts (is_digit d) (list_all is_digit ds) h).0 in
    let f = digits_found ds (at + 1) c rest (and_parts (is_digit d) (list_all is_digit ds) h).1 space digit in
    record {
      place = f.place;
      same = ap (λ b. (if b then [] else (if not (is_digit d) then Tag at d ∷ [] else [])) ++ lexemes (is_digit d) (at + 1) (ds ++ c ∷ rest)) (digit_no_space d is)
          ∙ ap (λ b. (if not b then Tag at d ∷ [] else []) ++ lexemes b (at + 1) (ds ++ c ∷ rest)) is ∙ f.same;
    }

count_found : (d : ℕ) (ds : List ℕ) (at c : ℕ) (rest : List ℕ) → list_all is_digit (d ∷ ds) ≡ true → is_digit c ≡ false
    → lexemes false at (d ∷ (ds ++ c ∷ rest)) ≡ Count at (digits_value 10 (d ∷ ds)) ∷ lexemes true (at + 1) (ds ++ c ∷ rest)
count_found d ds at c rest h digit =
    let is = (and_parts (is_digit d) (list_all is_digit ds) h).0 in
    ap (λ b. (if b then [] else (if not (is_digit d) then Tag at d ∷ [] else Count at (digits_value 10 (take_while is_digit (d ∷ (ds ++ c ∷ rest)))) ∷ [])) ++ lexemes (is_digit d) (at + 1) (ds ++ c ∷ rest)) (digit_no_space d is)
    ∙ ap (λ b. (if not b then Tag at d ∷ [] else Count at (digits_value 10 (take_while is_digit (d ∷ (ds ++ c ∷ rest)))) ∷ []) ++ lexemes b (at + 1) (ds ++ c ∷ rest)) is
    ∙ ap (λ s. Count at (digits_value 10 s) ∷ lexemes true (at + 1) (ds ++ c ∷ rest)) (front_digits (d ∷ ds) c rest h digit)

-- # Tokens

abbrev pub token : ℕ → Option ℕ → ℕ → ℕ → Token
token at count next tag = record { at = at; count = count; tag_at = next; tag = Some tag }

-- the first token of a text, and those of the rest of it
pub record Lexed (n tag : ℕ) (ls : List Lexeme) (rest : List ℕ) : Type 0 where
  pub at : ℕ
  pub next : ℕ
  pub behind : ℕ
  pub count : Option ℕ
  pub times : unwrap_or count 1 ≡ n
  pub single : n ≡ 1 → count ≡ None
  pub same : tokens ls ≡ token at count next tag ∷ (if tag == 33 then [] else tokens (lexemes false behind rest))

lexed : (n tag at : ℕ) (rest : List ℕ) → is_space tag ≡ false → is_digit tag ≡ false → n < 2 ^ 64 → Lexed n tag (lexemes false at (token_text (n, tag) ++ rest)) rest
lexed n tag at rest space digit small = by_count (n == 1) refl
  where
    by_count : (b : Bool) → (n == 1) ≡ b → Lexed n tag (lexemes false at (((if b then [] else decimal n) ++ tag ∷ []) ++ rest)) rest
    by_count true e = record { at = at; next = at; behind = at + 1; count = None; times = grind (arith, nat_tests); single = λ _. refl; same = ap tokens (tag_found false at tag rest space digit) }
    by_count false e =
        let d = written_number n small in
        let t = digits_found d.others (at + 1) tag rest (and_parts (is_digit d.first) (list_all is_digit d.others) d.digits).1 space digit in
        record {
          at = at;
          next = t.place;
          behind = t.place + 1;
          count = Some n;
          times = refl;
          single = λ one. let other : (n == 1) ≡ true = grind (arith, nat_tests) in absurd (false≢true (sym e ∙ other));
          same = ap (λ s. tokens (lexemes false at s)) (append_assoc (decimal n) (tag ∷ []) rest ∙ ap (λ s. s ++ tag ∷ rest) d.whole)
              ∙ ap tokens (count_found d.first d.others at tag rest d.digits digit ∙ ap (λ ls. Count at (digits_value 10 (d.first ∷ d.others)) ∷ ls) t.same)
              ∙ ap (λ k. token at (Some k) t.place tag ∷ (if tag == 33 then [] else tokens (lexemes false (t.place + 1) rest))) d.value;
        }

-- the first token of lines that were filled
pub record First (n tag : ℕ) (text : List ℕ) (at : ℕ) (pieces : List (List ℕ)) : Type 0 where
  pub used : ℕ
  pub first : Lexed n tag (lexemes false at text) (filled_lines used pieces)

-- the piece on its line, or on a new one
abbrev placed : Bool → ℕ → List ℕ → List (List ℕ) → List ℕ
placed b used piece pieces = elim b [ true ↦ piece ++ filled_lines (used + length piece) pieces | false ↦ codes "\n" ++ (piece ++ filled_lines (length piece) pieces) ]

pub filled_first : (n tag used at : ℕ) (pieces : List (List ℕ)) → is_space tag ≡ false → is_digit tag ≡ false → n < 2 ^ 64 → First n tag (filled_lines used (token_text (n, tag) ∷ pieces)) at pieces
filled_first n tag used at pieces space digit small = by_room (nat_le (used + length (token_text (n, tag))) 70)
  where
    by_room : (b : Bool) → First n tag (placed b used (token_text (n, tag)) pieces) at pieces
    by_room true = record { used = used + length (token_text (n, tag)); first = lexed n tag at (filled_lines (used + length (token_text (n, tag))) pieces) space digit small }
    by_room false = record { used = length (token_text (n, tag)); first = lexed n tag (at + 1) (filled_lines (length (token_text (n, tag))) pieces) space digit small }
