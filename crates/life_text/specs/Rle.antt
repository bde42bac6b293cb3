-- Reading RLE texts: the header, the tokens of the body, their meaning, and the first fault.
use Rattle.std.specs.Prelude.{ℕ, ◌+◌, ◌-◌, Bool, false, not, ◌&&◌, ◌||◌, List, [], ◌∷◌, ◌++◌, length, Option, Some, None, Result, Ok, Err, codes, map, sum_by, nat_lt, ◌==◌, if◌then◌else◌, is_some, is_none, unwrap_or}
use Rattle.std.specs.List.{list_all, prefix_len, take_while, before_first, after_first, after_last, range_with_len}
use Rattle.std.specs.Option.{option_or, option_map_or}
use Rattle.std.specs.Str.Parse.{digits_value}
use Rattle.texts.specs.Faults.{fault_if}
use Rattle.texts.specs.Bytes.{is_in, is_digit, is_letter, is_blank, is_space, without_front, without_ends, after_one_of, ◌>>=◌}
use Rattle.life_cells.specs.declared.rule.RuleFault.{RuleFault}
use Rattle.life_text.specs.declared.rle.RleFault.{RleFault}
use Rattle.life_text.specs.declared.rle.RleFault.TheVariants.{NoHeader, BadHeader, Rule as OfRule, ManyStates, BadChar, BadRun, TooFar, TooMany, NoEnd}
use Rattle.life_model.specs.Rule.{Rule}
use Rattle.life_cells.specs.Rules.{rule_of, life}
use Rattle.life_cells.specs.Limits.{place_limit}

-- the greatest number of live cells
abbrev pub cell_limit : ℕ
cell_limit = 1048576

-- # Comment lines

-- the text with blanks for the bytes of each line whose first byte is `#`, so that no byte moves. `previous` is the byte before,
-- and `comment` says whether it is in such a line
abbrev pub comments_as_blanks : Bool → ℕ → List ℕ → List ℕ
comments_as_blanks comment previous [] = []
comments_as_blanks comment previous (c ∷ rest) =
    let inside = if previous == 10 then c == 35 else comment in
    (if inside && not (c == 10) then 32 else c) ∷ comments_as_blanks inside c rest

abbrev pub without_comments : List ℕ → List ℕ
without_comments text = comments_as_blanks false 10 text

-- # The header

-- the text from the header line on: from the first byte that is no blank or LF
abbrev pub from_header : List ℕ → List ℕ
from_header text = without_front is_space (without_comments text)

abbrev pub header_line : List ℕ → List ℕ
header_line text = before_first (λ c. c == 10) (from_header text)

-- the text after one of these bytes, which may have blanks before it
abbrev pub part : List ℕ → List ℕ → Option (List ℕ)
part bytes text = after_one_of bytes (without_front is_blank text)

-- the text after one or more digits, which may have blanks before them
abbrev pub after_size : List ℕ → Option (List ℕ)
after_size text = let digits = without_front is_blank text in if prefix_len is_digit digits == 0 then None else Some (without_front is_digit digits)

-- the text after `x = W, y = H` at the start of a line
abbrev pub after_sizes : List ℕ → Option (List ℕ)
after_sizes line = do
  width_name ← part (codes "xX") line
  width_equals ← part (codes "=") width_name
  width ← after_size width_equals
  comma ← part (codes ",") width
  height_name ← part (codes "yY") comma
  height_equals ← part (codes "=") height_name
  after_size height_equals

-- the text after `, rule =`
abbrev pub after_rule_name : List ℕ → Option (List ℕ)
after_rule_name text = do
  comma ← part (codes ",") text
  r ← part (codes "rR") comma
  u ← after_one_of (codes "uU") r
  l ← after_one_of (codes "lL") u
  e ← after_one_of (codes "eE") l
  part (codes "=") e

abbrev pub rule_or_fault : Result Rule RuleFault → Result Rule RleFault
rule_or_fault (Ok r) = Ok r
rule_or_fault (Err fault) = Err (OfRule fault)

-- the rule of the text after `rule =`, without the blanks at its ends
abbrev pub named_rule : Option (List ℕ) → Result Rule RleFault
named_rule None = Err BadHeader
named_rule (Some text) = rule_or_fault (rule_of (without_ends is_blank text))

-- the rule, given the text after the sizes: if that is only blanks, it is Life
abbrev pub rule_behind : Option (List ℕ) → Result Rule RleFault
rule_behind None = Err BadHeader
rule_behind (Some text) = if list_all is_blank text then Ok life else named_rule (after_rule_name text)

-- the rule of a header line, or its fault
abbrev pub line_rule : List ℕ → Result Rule RleFault
line_rule line = if is_some (after_one_of (codes "xX") line) then rule_behind (after_sizes line) else Err NoHeader

-- the rule of the header, or the header's fault
abbrev pub header_rule : List ℕ → Result Rule RleFault
header_rule text = line_rule (header_line text)

-- # The tokens of the body

-- the text after the header line, and the place of its first byte
abbrev pub body : List ℕ → List ℕ
body text = after_first (λ c. c == 10) (from_header text)

abbrev pub body_place : List ℕ → ℕ
body_place text = length text - length (body text)

-- a count or a byte of the body that is neither blank nor digit, each with its place
pub data Lexeme : Type 0 where
  Count : (at value : ℕ) → Lexeme
  Tag : (at byte : ℕ) → Lexeme

-- the lexeme that begins at the start of the text: none at a blank or within a count
abbrev pub lexeme_at : Bool → ℕ → ℕ → List ℕ → List Lexeme
lexeme_at within_count at c rest =
    if is_space c then [] else
    (if not (is_digit c) then Tag at c ∷ [] else
    (if within_count then [] else Count at (digits_value 10 (take_while is_digit (c ∷ rest))) ∷ []))

-- the counts, which are longest runs of digits, and the other bytes of a text that begins at this place
abbrev pub lexemes : Bool → ℕ → List ℕ → List Lexeme
lexemes within_count at [] = []
lexemes within_count at (c ∷ rest) = lexeme_at within_count at c rest ++ lexemes (is_digit c) (at + 1) rest

-- A count, if there is one, and the byte in the place of the tag, if there is one. After a count there may be another count or
-- the end of the text, and the text may end where a token should begin.
pub record Token : Type 0 where
  pub at : ℕ
  pub count : Option ℕ
  pub tag_at : ℕ
  pub tag : Option ℕ

-- the tokens, up to the first `!`
abbrev pub tokens : List Lexeme → List Token
tokens [] = record { at = 0; count = None; tag_at = 0; tag = None } ∷ []
tokens (Tag at c ∷ rest) = record { at = at; count = None; tag_at = at; tag = Some c } ∷ (if c == 33 then [] else tokens rest)
tokens (Count at n ∷ []) = record { at = at; count = Some n; tag_at = at; tag = None } ∷ []
tokens (Count at n ∷ Count next m ∷ rest) = record { at = at; count = Some n; tag_at = at; tag = None } ∷ tokens (Count next m ∷ rest)
tokens (Count at n ∷ Tag next c ∷ rest) = record { at = at; count = Some n; tag_at = next; tag = Some c } ∷ (if c == 33 then [] else tokens rest)

abbrev pub body_tokens : List ℕ → List Token
body_tokens text = tokens (lexemes false (body_place text) (body text))

-- # The meaning of the tokens

abbrev pub has_tag : List ℕ → Token → Bool
has_tag bytes t = option_map_or (is_in bytes) t.tag false

-- the number of cells or row ends that a token has
abbrev pub run_length : Token → ℕ
run_length t = unwrap_or t.count 1

abbrev pub is_live : Token → Bool
is_live t = has_tag (codes "oA") t

abbrev pub is_cells : Token → Bool
is_cells t = has_tag (codes "b.oA") t

abbrev pub is_row_end : Token → Bool
is_row_end t = has_tag (codes "$") t

-- the counts of those that pass the test
abbrev pub times_of : (Token → Bool) → List Token → ℕ
times_of test ts = sum_by (λ t. if test t then run_length t else 0) ts

-- the row and the column of a token that comes after these, and the number of live cells that these have
abbrev pub row : List Token → ℕ
row before = times_of is_row_end before

abbrev pub column : List Token → ℕ
column before = times_of is_cells (after_last is_row_end before)

abbrev pub live_cells : List Token → ℕ
live_cells before = times_of is_live before

-- the cells of a token at this row and column: (x, y), from the column on
abbrev pub run_cells : ℕ → ℕ → Token → List (ℕ × ℕ)
run_cells y x t = if is_live t then map (λ x. (x, y)) (range_with_len x (run_length t)) else []

-- the cells of tokens that come after these
abbrev pub cells_after : List Token → List Token → List (ℕ × ℕ)
cells_after before [] = []
cells_after before (t ∷ ts) = run_cells (row before) (column before) t ++ cells_after (before ++ t ∷ []) ts

-- # The first fault

-- true for a letter in the place of the tag that names a third state
abbrev pub is_other_state : Token → Bool
is_other_state t = option_map_or is_letter t.tag false && not (is_cells t)

-- true for a byte in the place of the tag that is no tag
abbrev pub is_no_tag : Token → Bool
is_no_tag t = is_some t.tag && not (has_tag (codes "b.oA$!") t)

-- true for a count of 0, or one before `!`, another count or the end of the text
abbrev pub is_bad_run : Token → Bool
is_bad_run t = is_some t.count && ((run_length t == 0) || (is_none t.tag || has_tag (codes "!") t))

-- true for a live cell beyond the limit of places
abbrev pub is_too_far : ℕ → ℕ → Token → Bool
is_too_far y x t = is_live t && (nat_lt place_limit (y + 1) || nat_lt place_limit (x + run_length t))

-- true for more live cells than the limit allows, counting this token's
abbrev pub is_too_many : ℕ → Token → Bool
is_too_many live t = is_live t && nat_lt cell_limit (live + run_length t)

-- true for the end of the text, where a token would begin
abbrev pub is_missing : Token → Bool
is_missing t = is_none t.count && is_none t.tag

-- the fault of a token at this row and column, with `live` live cells before it: the first that there is
abbrev pub token_fault : ℕ → ℕ → ℕ → Token → Option RleFault
token_fault y x live t =
    fault_if (is_other_state t) (ManyStates t.tag_at)
    (fault_if (is_no_tag t) (BadChar t.tag_at)
    (fault_if (is_bad_run t) (BadRun t.at)
    (fault_if (is_too_far y x t) (TooFar t.at)
    (fault_if (is_too_many live t) (TooMany t.at)
    (fault_if (is_missing t) NoEnd None)))))

-- the first fault of tokens that come after these
abbrev pub first_fault : List Token → List Token → Option RleFault
first_fault before [] = None
first_fault before (t ∷ ts) = option_or (token_fault (row before) (column before) (live_cells before) t) (first_fault (before ++ t ∷ []) ts)

-- # The whole text

pub record Meaning : Type 0 where
  pub rule : Rule
  pub cells : List (ℕ × ℕ)

abbrev pub unless_fault : Option RleFault → Meaning → Result Meaning RleFault
unless_fault None meaning = Ok meaning
unless_fault (Some fault) meaning = Err fault

abbrev pub with_body : Result Rule RleFault → List Token → Result Meaning RleFault
with_body (Err fault) ts = Err fault
with_body (Ok r) ts = unless_fault (first_fault [] ts) (record { rule = r; cells = cells_after [] ts })

-- the rule and the cells that a text means, or its fault: the header's, or else that of the first token that has one
abbrev pub reading : List ℕ → Result Meaning RleFault
reading text = with_body (header_rule text) (body_tokens text)

-- the fault of a reading
abbrev pub fault_of : Result Meaning RleFault → Option RleFault
fault_of (Ok meaning) = None
fault_of (Err fault) = Some fault

-- the fault of a text
abbrev pub refusal : List ℕ → Option RleFault
refusal text = fault_of (reading text)
