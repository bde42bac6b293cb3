-- The header of a written text, as the reader sees it.
use Rattle.std.proofs.Common.{◌≡◌, ℕ, zero, suc, ◌+◌, ◌-◌, ◌^◌, ◌<◌, ◌≤◌, ◌/◌, ◌%◌, Bool, true, false, not, cond, ◌&&◌, ◌==◌, nat_le, if◌then◌else◌, List, [], ◌∷◌, ◌++◌, codes, length, get_or, drop, decimal, map, Some, None, Ok, refl, ap, ◌∙◌, arith}
use Rattle.std.specs.Fmt.{digits, digits_onto, digit_glyph}
use Rattle.std.specs.List.{list_all, prefix_len, suffix_len, before_first, after_first}
use Rattle.std.proofs.lemmas.List.{take_all}
use Rattle.std.proofs.lemmas.List.Folds.{list_all-append}
use Rattle.std.proofs.lemmas.List.Sums.{suffix_len_is, AllPass-from_list_all}
use Rattle.std.proofs.lemmas.Bool.Decides.{nat_tests}
use Rattle.std.proofs.lemmas.Bool.{and_parts}
use Rattle.life_model.specs.Rule.{Rule}
use Rattle.texts.specs.Bytes.{is_blank, is_digit, is_space, without_front, without_ends, ◌>>=◌}
use Rattle.life_cells.specs.Rules.{is_count, set_text, rule_text, rule_of}
use Rattle.life_cells.proofs.PrintLemmas.{printed_set, printed_rule}
use Rattle.life_text.specs.Filled.{filled_lines}
use Rattle.life_text.specs.Rle.{comments_as_blanks, from_header, header_rule, body, part, after_size, after_sizes, rule_or_fault, rule_behind, line_rule}
use Rattle.life_text.specs.Sizes.{after_number}
use Rattle.life_text.specs.Reader.{is_line_feed}
use Rattle.life_text.specs.RleText.{token_text}
use Rattle.life_text.specs.Writer.{with_token, onto_run, tokens_from}
use Rattle.life_text.proofs.HeaderLemmas.{line_more, line_ends}
use Rattle.life_text.proofs.LexedLemmas.{Written, written_number}

-- # Texts of some bytes

all_more : (p q : ℕ → Bool) → ((c : ℕ) → p c ≡ true → q c ≡ true) → (s : List ℕ) → list_all p s ≡ true → list_all q s ≡ true
all_more p q f [] h = refl
all_more p q f (c ∷ s) h = ap (λ b. b && list_all q s) (f c (and_parts (p c) (list_all p s) h).0) ∙ all_more p q f s (and_parts (p c) (list_all p s) h).1

all_joined : (p : ℕ → Bool) (s t : List ℕ) → list_all p s ≡ true → list_all p t ≡ true → list_all p (s ++ t) ≡ true
all_joined p s t h k = list_all-append p s t ∙ ap (λ b. b && list_all p t) h ∙ k

-- no sign of a comment
abbrev is_clean : ℕ → Bool
is_clean c = not (c == 35)

-- neither blank nor LF nor such a sign
abbrev is_word : ℕ → Bool
is_word c = not (is_space c) && not (c == 35)

-- no LF
abbrev is_inline : ℕ → Bool
is_inline c = not (is_line_feed c)

digit_clean : (c : ℕ) → is_digit c ≡ true → is_clean c ≡ true
digit_clean c h = grind (arith, nat_tests)

digit_inline : (c : ℕ) → is_digit c ≡ true → is_inline c ≡ true
digit_inline c h = grind (arith, nat_tests)

word_clean : (c : ℕ) → is_word c ≡ true → is_clean c ≡ true
word_clean c h = (and_parts (not (is_space c)) (is_clean c) h).1

word_inline : (c : ℕ) → is_word c ≡ true → is_inline c ≡ true
word_inline c h = grind (arith, nat_tests)

word_no_blank : (c : ℕ) → is_word c ≡ true → is_blank c ≡ false
word_no_blank c h = grind (arith, nat_tests)

count_word : (c : ℕ) → is_count c ≡ true → is_word c ≡ true
count_word c h = grind (arith, nat_tests)

-- # The printed rule

rule_words : (R : Rule) → list_all is_word (rule_text R) ≡ true
rule_words R =
    all_joined is_word (codes "B" ++ set_text R.birth ++ codes "/S") (set_text R.survival)
    (all_joined is_word (codes "B" ++ set_text R.birth) (codes "/S") (all_more is_count is_word count_word (set_text R.birth) (printed_set R.birth)) refl)
    (all_more is_count is_word count_word (set_text R.survival) (printed_set R.survival))

-- a word that begins with `B`, with a blank before it
trimmed_word : (s : List ℕ) → list_all is_word (66 ∷ s) ≡ true → without_ends is_blank (32 ∷ 66 ∷ s) ≡ 66 ∷ s
trimmed_word s h =
    let last : suffix_len is_blank (66 ∷ s) ≡ length (66 ∷ s) - length (66 ∷ s) =
    suffix_len_is is_blank (66 ∷ s) (length (66 ∷ s)) 0 (omega arith) (λ k lo hi. absurd (omega arith)) (λ some. word_no_blank (get_or (66 ∷ s) (length (66 ∷ s) - 1) 0) (AllPass-from_list_all is_word (66 ∷ s) h (length (66 ∷ s) - 1) 0 (omega arith))) in
    let all : length (66 ∷ s) ≤ length (66 ∷ s) - suffix_len is_blank (66 ∷ s) = omega arith in
    take_all (length (66 ∷ s) - suffix_len is_blank (66 ∷ s)) (66 ∷ s) all

-- # Numbers

digit_of : (n : ℕ) → is_digit (digit_glyph false (n % 10)) ≡ true
digit_of n = by_size (n % 10) (omega arith)
  where
    by_size : (d : ℕ) → d < 10 → is_digit (digit_glyph false d) ≡ true
    by_size d h = grind (arith, nat_tests)

onto_digits : (k n : ℕ) (acc : List ℕ) → list_all is_digit acc ≡ true → list_all is_digit (digits_onto k 10 false n acc) ≡ true
onto_digits zero n acc h = h
onto_digits (suc k) n acc h = by_rest (n / 10 == 0) (onto_digits k (n / 10) (digit_glyph false (n % 10) ∷ acc) more)
  where
    more : list_all is_digit (digit_glyph false (n % 10) ∷ acc) ≡ true
    more = ap (λ b. b && list_all is_digit acc) (digit_of n) ∙ h

    by_rest : (b : Bool) → list_all is_digit (digits_onto k 10 false (n / 10) (digit_glyph false (n % 10) ∷ acc)) ≡ true
        → list_all is_digit (if b then digit_glyph false (n % 10) ∷ acc else digits_onto k 10 false (n / 10) (digit_glyph false (n % 10) ∷ acc)) ≡ true
    by_rest true rest = more
    by_rest false rest = rest

pub decimal_digits : (n : ℕ) → list_all is_digit (decimal n) ≡ true
unfolding digits
decimal_digits n = onto_digits 64 n [] refl

blank_front : (d : ℕ) (s : List ℕ) → is_blank d ≡ false → without_front is_blank (32 ∷ d ∷ s) ≡ d ∷ s
blank_front d s h = ap (λ b. drop (1 + cond b (1 + prefix_len is_blank s) 0) (32 ∷ d ∷ s)) h

behind_digits : (ds : List ℕ) (c : ℕ) (rest : List ℕ) → list_all is_digit ds ≡ true → is_digit c ≡ false → without_front is_digit (ds ++ c ∷ rest) ≡ c ∷ rest
behind_digits [] c rest h stop = ap (λ b. drop (cond b (1 + prefix_len is_digit rest) 0) (c ∷ rest)) stop
behind_digits (d ∷ ds) c rest h stop =
    let more : prefix_len is_digit (d ∷ (ds ++ c ∷ rest)) ≡ suc (prefix_len is_digit (ds ++ c ∷ rest)) =
    ap (λ b. cond b (1 + prefix_len is_digit (ds ++ c ∷ rest)) 0) (and_parts (is_digit d) (list_all is_digit ds) h).0 ∙ omega arith in
    ap (λ k. drop k (d ∷ (ds ++ c ∷ rest))) more ∙ behind_digits ds c rest (and_parts (is_digit d) (list_all is_digit ds) h).1 stop

digit_no_blank : (c : ℕ) → is_digit c ≡ true → is_blank c ≡ false
digit_no_blank c h = grind (arith, nat_tests)

-- a size, and what follows it
size_found : (ds : List ℕ) (n c : ℕ) (rest : List ℕ) → Written ds n → is_digit c ≡ false → after_size (32 ∷ (ds ++ c ∷ rest)) ≡ Some (c ∷ rest)
size_found ds n c rest w stop =
    let is = (and_parts (is_digit w.first) (list_all is_digit w.others) w.digits).0 in
    let some : (prefix_len is_digit (w.first ∷ (w.others ++ c ∷ rest)) == 0) ≡ false =
    ap (λ b. cond b (1 + prefix_len is_digit (w.others ++ c ∷ rest)) 0 == 0) is ∙ no_zero (prefix_len is_digit (w.others ++ c ∷ rest)) in
    ap (λ s. after_size (32 ∷ (s ++ c ∷ rest))) w.whole
    ∙ ap (λ s. if prefix_len is_digit s == 0 then None else Some (without_front is_digit s)) (blank_front w.first (w.others ++ c ∷ rest) (digit_no_blank w.first is))
    ∙ ap (λ b. if b then None else Some (without_front is_digit (w.first ∷ (w.others ++ c ∷ rest)))) some
    ∙ ap (λ s. Some s) (behind_digits (w.first ∷ w.others) c rest w.digits stop)
  where
    no_zero : (k : ℕ) → (1 + k == 0) ≡ false
    no_zero k = grind (arith, nat_tests)

-- a blank before a number
pub number_behind : (s rest : List ℕ) → after_number s ≡ Some rest → after_size (32 ∷ s) ≡ Some rest
number_behind [] rest h = cc
number_behind (d ∷ s) rest h = by_digit (is_digit d) refl
  where
    by_digit : (b : Bool) → is_digit d ≡ b → after_size (32 ∷ d ∷ s) ≡ Some rest
    by_digit true is = ap after_number (blank_front d s (digit_no_blank d is)) ∙ h
    by_digit false is =
        let none : after_number (d ∷ s) ≡ None = ap (λ b. if cond b (1 + prefix_len is_digit s) 0 == 0 then None else Some (without_front is_digit (d ∷ s))) is in
        cc

-- # The header line

abbrev pub line_of : List ℕ → List ℕ → List ℕ → List ℕ
line_of a b rule = codes "x = " ++ (a ++ (codes ", y = " ++ (b ++ (codes ", rule = " ++ rule))))

sizes_found : (a b rest : List ℕ) (w h : ℕ) → Written a w → Written b h → after_sizes (codes "x = " ++ (a ++ (codes ", y = " ++ (b ++ 44 ∷ rest)))) ≡ Some (44 ∷ rest)
sizes_found a b rest w h one two =
    ap (λ o. o >>= λ width. part (codes ",") width >>= λ comma. part (codes "yY") comma >>= λ name. part (codes "=") name >>= after_size)
    (size_found a w 44 (32 ∷ 121 ∷ 32 ∷ 61 ∷ 32 ∷ (b ++ 44 ∷ rest)) one refl)
    ∙ size_found b h 44 rest two refl

line_is : (a b : List ℕ) (w h : ℕ) (R : Rule) → Written a w → Written b h → R.birth < 512 → R.survival < 512 → R.birth % 2 ≡ 0 → line_rule (line_of a b (rule_text R)) ≡ Ok R
line_is a b w h R one two birth survival even =
    ap rule_behind (sizes_found a b (codes " rule = " ++ rule_text R) w h one two)
    ∙ ap (λ s. rule_or_fault (rule_of s)) (trimmed_word (set_text R.birth ++ codes "/S" ++ set_text R.survival) (rule_words R))
    ∙ ap rule_or_fault (printed_rule R birth survival even)

-- # The whole text

blanked_clean : (s : List ℕ) (before : ℕ) → list_all is_clean s ≡ true → comments_as_blanks false before s ≡ s
blanked_clean [] before h = refl
blanked_clean (c ∷ s) before h =
    let clean = (and_parts (is_clean c) (list_all is_clean s) h).0 in
    ap (λ b. (if b && not (c == 10) then 32 else c) ∷ comments_as_blanks b c s) (outside (before == 10) clean)
    ∙ ap (λ t. c ∷ t) (blanked_clean s c (and_parts (is_clean c) (list_all is_clean s) h).1)
  where
    outside : (b : Bool) → is_clean c ≡ true → (if b then c == 35 else false) ≡ false
    outside true clean = grind (arith, nat_tests)
    outside false clean = refl

-- the first line, and the text after it
line_split : (line rest : List ℕ) → list_all is_inline line ≡ true → (before_first is_line_feed (line ++ 10 ∷ rest) ≡ line) × (after_first is_line_feed (line ++ 10 ∷ rest) ≡ rest)
line_split [] rest h = line_ends 10 rest refl
line_split (c ∷ line) rest h =
    let no = no_feed c (and_parts (is_inline c) (list_all is_inline line) h).0 in
    let more = line_more c (line ++ 10 ∷ rest) no in
    let ih = line_split line rest (and_parts (is_inline c) (list_all is_inline line) h).1 in
    (more.0 ∙ ap (λ s. c ∷ s) ih.0, more.1 ∙ ih.1)
  where
    no_feed : (d : ℕ) → is_inline d ≡ true → (d == 10) ≡ false
    no_feed d h = grind (arith, nat_tests)

-- # The body

abbrev AreClean : List (ℕ × ℕ) → Type 0
AreClean [] = Unit {0}
AreClean (u ∷ us) = (is_clean u.1 ≡ true) × AreClean us

counted_clean : (n tag : ℕ) (us : List (ℕ × ℕ)) → is_clean tag ≡ true → AreClean us → AreClean (with_token n tag us)
counted_clean n tag us h k = by_count (n == 0)
  where
    by_count : (b : Bool) → AreClean (if b then us else (n, tag) ∷ us)
    by_count true = k
    by_count false = (h, k)

onto_clean : (us : List (ℕ × ℕ)) → AreClean us → AreClean (onto_run 1 us)
onto_clean [] h = (refl, tt)
onto_clean ((m, tag) ∷ us) h = by_tag (tag == 111)
  where
    by_tag : (b : Bool) → AreClean (if b then (1 + m, tag) ∷ us else (1, 111) ∷ (m, tag) ∷ us)
    by_tag true = h
    by_tag false = (refl, h)

tokens_clean : (ps : List (ℕ × ℕ)) (y x : ℕ) → AreClean (tokens_from y x ps)
tokens_clean [] y x = (refl, tt)
tokens_clean (c ∷ cs) y x =
    counted_clean (c.1 - y) 36 (with_token (c.0 - (if c.1 == y then x else 0)) 98 (onto_run 1 (tokens_from c.1 (c.0 + 1) cs))) refl
    (counted_clean (c.0 - (if c.1 == y then x else 0)) 98 (onto_run 1 (tokens_from c.1 (c.0 + 1) cs)) refl
    (onto_clean (tokens_from c.1 (c.0 + 1) cs) (tokens_clean cs c.1 (c.0 + 1))))

token_clean : (n tag : ℕ) → is_clean tag ≡ true → list_all is_clean (token_text (n, tag)) ≡ true
token_clean n tag h = by_count (n == 1)
  where
    by_count : (b : Bool) → list_all is_clean ((if b then [] else decimal n) ++ tag ∷ []) ≡ true
    by_count true = ap (λ b. b && true) h
    by_count false = all_joined is_clean (decimal n) (tag ∷ []) (all_more is_digit is_clean digit_clean (decimal n) (decimal_digits n)) (ap (λ b. b && true) h)

filled_clean : (us : List (ℕ × ℕ)) (used : ℕ) → AreClean us → list_all is_clean (filled_lines used (map token_text us)) ≡ true
filled_clean [] used h = refl
filled_clean (u ∷ us) used h = by_room (λ now. filled_clean us now h.1) (nat_le (used + length (token_text u)) 70)
  where
    by_room : ((now : ℕ) → list_all is_clean (filled_lines now (map token_text us)) ≡ true) → (b : Bool)
        → list_all is_clean (elim b [ true ↦ token_text u ++ filled_lines (used + length (token_text u)) (map token_text us) | false ↦ codes "\n" ++ (token_text u ++ filled_lines (length (token_text u)) (map token_text us)) ]) ≡ true
    by_room rest true = all_joined is_clean (token_text u) (filled_lines (used + length (token_text u)) (map token_text us)) (token_clean u.0 u.1 h.0) (rest (used + length (token_text u)))
    by_room rest false = all_joined is_clean (token_text u) (filled_lines (length (token_text u)) (map token_text us)) (token_clean u.0 u.1 h.0) (rest (length (token_text u)))

-- # The parts

pub record Parts (text : List ℕ) (R : Rule) (rest : List ℕ) : Type 0 where
  pub rule : header_rule text ≡ Ok R
  pub body_is : body text ≡ rest

line_clean : (p : ℕ → Bool) → ((c : ℕ) → is_digit c ≡ true → p c ≡ true) → ((c : ℕ) → is_word c ≡ true → p c ≡ true) → list_all p (codes "x = ") ≡ true → list_all p (codes ", y = ") ≡ true → list_all p (codes ", rule = ") ≡ true
    → (w h : ℕ) (R : Rule) → list_all p (line_of (decimal w) (decimal h) (rule_text R)) ≡ true
line_clean p digit word x y rule w h R =
    all_joined p (codes "x = ") (decimal w ++ (codes ", y = " ++ (decimal h ++ (codes ", rule = " ++ rule_text R)))) x
    (all_joined p (decimal w) (codes ", y = " ++ (decimal h ++ (codes ", rule = " ++ rule_text R))) (all_more is_digit p digit (decimal w) (decimal_digits w))
    (all_joined p (codes ", y = ") (decimal h ++ (codes ", rule = " ++ rule_text R)) y
    (all_joined p (decimal h) (codes ", rule = " ++ rule_text R) (all_more is_digit p digit (decimal h) (decimal_digits h))
    (all_joined p (codes ", rule = ") (rule_text R) rule (all_more is_word p word (rule_text R) (rule_words R))))))

-- a header line, LF and lines that were filled
pub parts : (w h : ℕ) (R : Rule) (ps : List (ℕ × ℕ)) → w < 2 ^ 64 → h < 2 ^ 64 → R.birth < 512 → R.survival < 512 → R.birth % 2 ≡ 0
    → Parts (line_of (decimal w) (decimal h) (rule_text R) ++ 10 ∷ filled_lines 0 (map token_text (tokens_from 0 0 ps))) R (filled_lines 0 (map token_text (tokens_from 0 0 ps)))
parts w h R ps wide high birth survival even =
    let line = line_of (decimal w) (decimal h) (rule_text R) in
    let rest = filled_lines 0 (map token_text (tokens_from 0 0 ps)) in
    let clean : list_all is_clean (line ++ 10 ∷ rest) ≡ true = all_joined is_clean line (10 ∷ rest) (line_clean is_clean digit_clean word_clean refl refl refl w h R) (filled_clean (tokens_from 0 0 ps) 0 (tokens_clean ps 0 0)) in
    let split = line_split line rest (line_clean is_inline digit_inline word_inline refl refl refl w h R) in
    let head : from_header (line ++ 10 ∷ rest) ≡ line ++ 10 ∷ rest = ap (without_front is_space) (blanked_clean (line ++ 10 ∷ rest) 10 clean) in
    record {
      rule = ap (λ s. line_rule (before_first is_line_feed s)) head ∙ ap line_rule split.0 ∙ line_is (decimal w) (decimal h) w h R (written_number w wide) (written_number h high) birth survival even;
      body_is = ap (after_first is_line_feed) head ∙ split.1;
    }
