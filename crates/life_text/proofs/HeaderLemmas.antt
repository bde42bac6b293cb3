-- The header line of a text, and the body after it.
use Rattle.std.proofs.Common.{◌≡◌, ℕ, zero, suc, ◌+◌, ◌-◌, ◌<◌, ◌≤◌, Bool, true, false, not, cond, List, [], ◌∷◌, ◌++◌, length, get_or, drop, take, if◌then◌else◌, ◌==◌, subst, sym, ap, ◌∙◌, refl, arith, append_assoc, append-nil, Option, Some, None, Result, Ok, Err, ℤ}
use Rattle.std.specs.List.{prefix_len, before_first, after_first}
use Rattle.std.proofs.lemmas.List.{take_all, take_more, get_or-drop, length-drop}
use Rattle.std.proofs.lemmas.Bool.{false_from_ne_true}
use Rattle.memchr.specs.Find.{IsFirstByte, is_byte}
use Rattle.texts.specs.Bytes.{is_space, without_front}
use Rattle.life_text.specs.Rle.{comments_as_blanks, from_header, body, body_place, body_tokens, lexemes, tokens}
use Rattle.life_text.specs.Reader.{byte_before, plain_at, tokens_at, is_in_comment, is_line_feed}
use Rattle.life_text.specs.Rle.{Token, with_body, header_rule, reading, first_fault, cells_after, unless_fault}
use Rattle.life_text.specs.Reader.{cells_drawn, placed_all, first_pen}
use Rattle.life_text.specs.Drawing.{drawing_of, drawing_with}
use Rattle.life_model.specs.Rule.{Rule}
use Rattle.life_cells.specs.Readings.{unless_refused}
use Rattle.life_text.specs.declared.rle.RleFault.{RleFault}
use Rattle.life_text.proofs.PenLemmas.{drawn_is}
use Rattle.life_text.proofs.LexLemmas.{previous_more, blanked_plain, stop_end}

-- a byte that ends no line
pub line_more : (c : ℕ) (rest : List ℕ) → (c == 10) ≡ false → (before_first is_line_feed (c ∷ rest) ≡ c ∷ before_first is_line_feed rest) × (after_first is_line_feed (c ∷ rest) ≡ after_first is_line_feed rest)
line_more c rest h =
    let n = prefix_len (λ b. not (is_line_feed b)) rest in
    let first : prefix_len (λ b. not (is_line_feed b)) (c ∷ rest) ≡ suc n = ap (λ b. cond (not b) (1 + n) 0) h ∙ omega arith in
    let behind : prefix_len (λ b. not (is_line_feed b)) (c ∷ rest) + 1 ≡ suc (n + 1) = omega arith in
    (ap (λ k. take k (c ∷ rest)) first, ap (λ k. drop k (c ∷ rest)) behind)

-- the byte that ends a line
pub line_ends : (c : ℕ) (rest : List ℕ) → (c == 10) ≡ true → (before_first is_line_feed (c ∷ rest) ≡ []) × (after_first is_line_feed (c ∷ rest) ≡ rest)
line_ends c rest h =
    let none : prefix_len (λ b. not (is_line_feed b)) (c ∷ rest) ≡ 0 = ap (λ b. cond (not b) (1 + prefix_len (λ b. not (is_line_feed b)) rest) 0) h in
    let behind : prefix_len (λ b. not (is_line_feed b)) (c ∷ rest) + 1 ≡ suc 0 = omega arith in
    (ap (λ k. take k (c ∷ rest)) none, ap (λ k. drop k (c ∷ rest)) behind)

-- no comment follows a byte that ends no line
pub plain_behind : (text : List ℕ) (at : ℕ) → (get_or text at 0 == 10) ≡ false → at + 1 < length text → plain_at text (at + 1) ≡ get_or text (at + 1) 0 ∷ plain_at text (at + 1 + 1)
plain_behind text at h lt = blanked_plain false text (at + 1) lt (ap (λ n. is_in_comment false n (get_or text (at + 1) 0)) (previous_more text at) ∙ ap (λ b. if b then get_or text (at + 1) 0 == 35 else false) h)

-- a part of a text, with one more byte
pub part_more : (text : List ℕ) (from at : ℕ) → from ≤ at → at < length text → take (at + 1 - from) (drop from text) ≡ take (at - from) (drop from text) ++ get_or text at 0 ∷ []
part_more text from at le lt =
    let n : at + 1 - from ≡ at - from + 1 = omega arith in
    let few : at - from < length (drop from text) = omega (arith, length-drop from text) in
    let place : from + (at - from) ≡ at = omega arith in
    ap (λ k. take k (drop from text)) n ∙ take_more (drop from text) (at - from) 0 few
    ∙ ap (λ b. take (at - from) (drop from text) ++ b ∷ []) (get_or-drop from text (at - from) 0 ∙ ap (λ k. get_or text k 0) place)

-- a line goes on from one place to another
pub record GoesOn (text : List ℕ) (start next : ℕ) : Type 0 where
  pub line : before_first is_line_feed (plain_at text start) ≡ take (next - start) (drop start text) ++ before_first is_line_feed (plain_at text next)
  pub rest : after_first is_line_feed (plain_at text start) ≡ after_first is_line_feed (plain_at text next)
  pub plain : next < length text → plain_at text next ≡ get_or text next 0 ∷ plain_at text (next + 1)

-- it goes on over a byte that is no LF
one_more : (text : List ℕ) (start next : ℕ) → start ≤ next → next < length text → (get_or text next 0 == 10) ≡ false → GoesOn text start next → GoesOn text start (next + 1)
one_more text start next le lt on g =
    let byte : ℕ = get_or text next 0 in
    let more = line_more byte (plain_at text (next + 1)) on in
    let front : List ℕ = take (next - start) (drop start text) in
    record {
      line = g.line ∙ ap (λ (s : List ℕ). front ++ before_first is_line_feed s) (g.plain lt) ∙ ap (λ (s : List ℕ). front ++ s) more.0
          ∙ sym (append_assoc front (byte ∷ []) (before_first is_line_feed (plain_at text (next + 1))))
          ∙ ap (λ (s : List ℕ). s ++ before_first is_line_feed (plain_at text (next + 1))) (sym (part_more text start next le lt));
      rest = g.rest ∙ ap (after_first is_line_feed) (g.plain lt) ∙ more.1;
      plain = λ below. plain_behind text next on below;
    }

-- it goes on as long as no LF comes
pub goes_on : (text : List ℕ) (start : ℕ) → (start < length text → plain_at text start ≡ get_or text start 0 ∷ plain_at text (start + 1))
    → (n : ℕ) → start + n ≤ length text → ((k : ℕ) → k < n → (get_or text (start + k) 0 == 10) ≡ false) → GoesOn text start (start + n)
goes_on text start plain zero le none =
    let here : start ≡ start + 0 = omega arith in
    let nothing : start - start ≡ 0 = omega arith in
    subst (λ (k : ℕ). GoesOn text start k) here
    (record {
      line = ap (λ k. take k (drop start text) ++ before_first is_line_feed (plain_at text start)) (sym nothing);
      rest = refl;
      plain = plain;
    })
goes_on text start plain (suc n) le none =
    let place : start + n + 1 ≡ start + suc n = omega arith in
    subst (λ (k : ℕ). GoesOn text start k) place
    (one_more text start (start + n) (omega arith) (omega arith) (none n (omega arith)) (goes_on text start plain n (omega arith) (λ k lt. none k (omega arith))))

-- as long as there is no LF in what follows a place
pub goes_without : (text : List ℕ) (start : ℕ) → (start < length text → plain_at text start ≡ get_or text start 0 ∷ plain_at text (start + 1))
    → (n : ℕ) → start + n ≤ length text → ((k : ℕ) → k < n → (get_or (drop start text) k 0 == 10) ≡ true → ⊥) → GoesOn text start (start + n)
goes_without text start plain n le none =
    goes_on text start plain n le (λ k lt. ap (λ b. b == 10) (sym (get_or-drop start text k 0)) ∙ false_from_ne_true (get_or (drop start text) k 0 == 10) (none k lt))

-- it ends at LF
pub ends_at : (text : List ℕ) (start next : ℕ) → next < length text → (get_or text next 0 == 10) ≡ true → GoesOn text start next
    → (before_first is_line_feed (plain_at text start) ≡ take (next - start) (drop start text)) × (after_first is_line_feed (plain_at text start) ≡ plain_at text (next + 1))
ends_at text start next lt end g =
    let ends = line_ends (get_or text next 0) (plain_at text (next + 1)) end in
    let front : List ℕ = take (next - start) (drop start text) in (
      g.line ∙ ap (λ (s : List ℕ). front ++ before_first is_line_feed s) (g.plain lt) ∙ ap (λ (s : List ℕ). front ++ s) ends.0 ∙ append-nil front,
      g.rest ∙ ap (after_first is_line_feed) (g.plain lt) ∙ ends.1,
    )

-- or at the end of the text
pub ends_last : (text : List ℕ) (start next : ℕ) → length text ≤ next → GoesOn text start next
    → (before_first is_line_feed (plain_at text start) ≡ take (next - start) (drop start text)) × (after_first is_line_feed (plain_at text start) ≡ plain_at text next)
ends_last text start next le g =
    let none : plain_at text next ≡ [] = stop_end false (byte_before text next) text next le in
    let front : List ℕ = take (next - start) (drop start text) in (
      g.line ∙ ap (λ (s : List ℕ). front ++ before_first is_line_feed s) none ∙ append-nil front,
      g.rest ∙ ap (after_first is_line_feed) none ∙ sym none,
    )

module _ (text : List ℕ) (start : ℕ) (within : start ≤ length text) (plain : start < length text → plain_at text start ≡ get_or text start 0 ∷ plain_at text (start + 1)) where
  all_behind : take (length text - start) (drop start text) ≡ drop start text
  all_behind = take_all (length text - start) (drop start text) (omega (arith, length-drop start text))

  -- the first LF from a place on
  pub line_found : (len : ℕ) → IsFirstByte (is_byte 10) (take (length text - start) (drop start text)) (Some len)
      → (start + len < length text) × (before_first is_line_feed (plain_at text start) ≡ take (start + len - start) (drop start text)) × (after_first is_line_feed (plain_at text start) ≡ plain_at text (start + len + 1))
  line_found len h =
      let found : IsFirstByte (is_byte 10) (drop start text) (Some len) = subst (λ (s : List ℕ). IsFirstByte (is_byte 10) s (Some len)) all_behind h in
      let lt : start + len < length text = omega (arith, length-drop start text, found.0.high) in
      let end : (get_or text (start + len) 0 == 10) ≡ true = ap (λ b. b == 10) (sym (get_or-drop start text len 0)) ∙ found.1 in
      let ends = ends_at text start (start + len) lt end (goes_without text start plain len (omega arith) (λ k below. found.0.before k (omega arith) below)) in
      (lt, ends.0, ends.1)

  -- and there is none
  pub line_unfound : IsFirstByte (is_byte 10) (take (length text - start) (drop start text)) None
      → (before_first is_line_feed (plain_at text start) ≡ take (length text - start) (drop start text)) × (after_first is_line_feed (plain_at text start) ≡ plain_at text (length text))
  line_unfound h =
      let none : IsFirstByte (is_byte 10) (drop start text) None = subst (λ (s : List ℕ). IsFirstByte (is_byte 10) s None) all_behind h in
      let all : start + (length text - start) ≡ length text = omega arith in
      let long = length-drop start text in
      let on : GoesOn text start (length text) = rw all at (goes_without text start plain (length text - start) (omega arith) (λ k below. none k (omega arith) (omega (arith, long)))) in
      ends_last text start (length text) (omega arith) on

length-blanked : (comment : Bool) (before : ℕ) (s : List ℕ) → length (comments_as_blanks comment before s) ≡ length s
length-blanked comment before [] = refl
length-blanked comment before (c ∷ s) = ap suc (length-blanked (if before == 10 then c == 35 else comment) c s)

pub length-plain_at : (text : List ℕ) (at : ℕ) → length (plain_at text at) ≡ length text - at
length-plain_at text at = length-blanked false (byte_before text at) (drop at text) ∙ length-drop at text

-- # The parts of a text by the places where the reader finds them

-- where the header begins
pub from_header_is : (text : List ℕ) (start : ℕ) → without_front is_space (plain_at text 0) ≡ plain_at text start → from_header text ≡ plain_at text start
from_header_is text start rest = rest

pub body_is : (text : List ℕ) (start from : ℕ) → from_header text ≡ plain_at text start → from ≤ length text → after_first is_line_feed (plain_at text start) ≡ plain_at text from → body_tokens text ≡ tokens_at text from
body_is text start from head within rest =
    let is : body text ≡ plain_at text from = ap (after_first is_line_feed) head ∙ rest in
    let long = length-plain_at text from in
    let place : body_place text ≡ from = ap (λ (s : List ℕ). length text - length s) is ∙ omega arith in
    ap (λ (s : List ℕ). tokens (lexemes false (body_place text) s)) is ∙ ap (λ n. tokens (lexemes false n (plain_at text from))) place

first_of_is : (ts : List Token) → cells_drawn first_pen ts ≡ unless_refused (first_fault [] ts) (cells_after [] ts)
first_of_is ts = drawn_is ts []

-- the drawing that a text means, given the rule of its header and what its tokens draw
pub drawing_is : (text : List ℕ) (r : Result Rule RleFault) (cells : Result (List (ℤ × ℤ)) RleFault) → header_rule text ≡ r → placed_all (cells_drawn first_pen (body_tokens text)) ≡ cells → drawing_of (reading text) ≡ drawing_with r cells
drawing_is text r cells rule body =
    ap (λ o. drawing_of (with_body o (body_tokens text))) rule ∙ by_rule r ∙ ap (drawing_with r) body
  where
    by_fault : (s : Rule) (o : Option RleFault) (cs : List (ℕ × ℕ)) → drawing_of (unless_fault o (record { rule = s; cells = cs })) ≡ drawing_with (Ok s) (placed_all (unless_refused o cs))
    by_fault s None cs = refl
    by_fault s (Some fault) cs = refl

    by_rule : (r : Result Rule RleFault) → drawing_of (with_body r (body_tokens text)) ≡ drawing_with r (placed_all (cells_drawn first_pen (body_tokens text)))
    by_rule (Err fault) = refl
    by_rule (Ok s) = by_fault s (first_fault [] (body_tokens text)) (cells_after [] (body_tokens text)) ∙ ap (λ c. drawing_with (Ok s) (placed_all c)) (sym (first_of_is (body_tokens text)))
