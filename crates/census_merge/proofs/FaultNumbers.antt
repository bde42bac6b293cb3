-- The faults of texts have the numbers 1 to 10.
use Rattle.std.proofs.Common.{◌≤◌, ℕ, Bool, true, false, if◌then◌else◌, is_some, codes, List, [], ◌∷◌, ◌++◌, Option, Some, None, Result, Ok, Err, arith}
use Rattle.std.specs.Prelude.{⊤}
use Rattle.std.specs.List.{list_all}
use Rattle.std.specs.Option.{option_or}
use Rattle.texts.specs.Bytes.{after_one_of, is_blank, without_ends}
use Rattle.texts.specs.Faults.{fault_if}
use Rattle.census_readback.specs.Limits.{fault_limit}
use Rattle.life_cells.specs.Rules.{life, rule_of}
use Rattle.life_cells.specs.declared.rule.RuleFault.{RuleFault}
use Rattle.life_cells.specs.declared.rule.RuleFault.TheVariants.{HasB0, NotLifeLike}
use Rattle.life_model.specs.Rule.{Rule}
use Rattle.life_text.specs.Faults.{fault_number}
use Rattle.life_text.specs.Picture.{picture_of}
use Rattle.life_text.specs.Rle.{Meaning, Token, after_rule_name, after_sizes, body_tokens, cells_after, column, first_fault, header_line, header_rule, is_bad_run, is_missing, is_no_tag, is_other_state, is_too_far, is_too_many, line_rule, live_cells, named_rule, reading, row, rule_behind, rule_or_fault, token_fault, unless_fault, with_body}
use Rattle.life_text.specs.declared.rle.RleFault.{RleFault}
use Rattle.life_text.specs.declared.rle.RleFault.TheVariants.{BadChar, BadRun, ManyStates, NoEnd, NoHeader, TooFar, TooMany}

abbrev pub IsNumbered : {X : Type 0} → Result X RleFault → Type 0
IsNumbered (Ok x) = ⊤
IsNumbered (Err fault) = fault_number fault ≤ fault_limit

-- ---- the header

either : (b : Bool) (r s : Result Rule RleFault) → IsNumbered r → IsNumbered s → IsNumbered (if b then r else s)
either true r s h k = h
either false r s h k = k

rule-numbered : (r : Result Rule RuleFault) → IsNumbered (rule_or_fault r)
rule-numbered (Ok rule) = tt
rule-numbered (Err NotLifeLike) = omega arith
rule-numbered (Err HasB0) = omega arith

named-numbered : (text : Option (List ℕ)) → IsNumbered (named_rule text)
named-numbered None = omega arith
named-numbered (Some text) = rule-numbered (rule_of (without_ends is_blank text))

behind-numbered : (rest : Option (List ℕ)) → IsNumbered (rule_behind rest)
behind-numbered None = omega arith
behind-numbered (Some text) = either (list_all is_blank text) (Ok life) (named_rule (after_rule_name text)) tt (named-numbered (after_rule_name text))

line-numbered : (line : List ℕ) → IsNumbered (line_rule line)
line-numbered line =
    either (is_some (after_one_of (codes "xX") line)) (rule_behind (after_sizes line)) (Err NoHeader) (behind-numbered (after_sizes line)) (omega arith)

-- ---- the body

abbrev IsNumberedIfSome : Option RleFault → Type 0
IsNumberedIfSome None = ⊤
IsNumberedIfSome (Some fault) = fault_number fault ≤ fault_limit

first-of : (test : Bool) (fault : RleFault) (others : Option RleFault) → fault_number fault ≤ fault_limit → IsNumberedIfSome others → IsNumberedIfSome (fault_if test fault others)
first-of true fault others h k = h
first-of false fault others h k = k

token-numbered : (y x live : ℕ) (t : Token) → IsNumberedIfSome (token_fault y x live t)
token-numbered y x live t =
    let missing = fault_if (is_missing t) NoEnd None in
    let many = fault_if (is_too_many live t) (TooMany t.at) missing in
    let far = fault_if (is_too_far y x t) (TooFar t.at) many in
    let run = fault_if (is_bad_run t) (BadRun t.at) far in
    let char = fault_if (is_no_tag t) (BadChar t.tag_at) run in
    first-of (is_other_state t) (ManyStates t.tag_at) char (omega arith)
    (first-of (is_no_tag t) (BadChar t.tag_at) run (omega arith)
    (first-of (is_bad_run t) (BadRun t.at) far (omega arith)
    (first-of (is_too_far y x t) (TooFar t.at) many (omega arith)
    (first-of (is_too_many live t) (TooMany t.at) missing (omega arith)
    (first-of (is_missing t) NoEnd None (omega arith) tt)))))

one-or : (fault others : Option RleFault) → IsNumberedIfSome fault → IsNumberedIfSome others → IsNumberedIfSome (option_or fault others)
one-or None others h k = k
one-or (Some fault) others h k = h

tokens-numbered : (before ts : List Token) → IsNumberedIfSome (first_fault before ts)
tokens-numbered before [] = tt
tokens-numbered before (t ∷ ts) =
    one-or (token_fault (row before) (column before) (live_cells before) t) (first_fault (before ++ t ∷ []) ts)
    (token-numbered (row before) (column before) (live_cells before) t) (tokens-numbered (before ++ t ∷ []) ts)

-- ---- the whole text

unless-numbered : (fault : Option RleFault) (meaning : Meaning) → IsNumberedIfSome fault → IsNumbered (unless_fault fault meaning)
unless-numbered None meaning h = tt
unless-numbered (Some fault) meaning h = h

with-numbered : (r : Result Rule RleFault) (ts : List Token) → IsNumbered r → IsNumbered (with_body r ts)
with-numbered (Ok r) ts h = unless-numbered (first_fault [] ts) (record { rule = r; cells = cells_after [] ts }) (tokens-numbered [] ts)
with-numbered (Err fault) ts h = h

picture-numbered : (r : Result Meaning RleFault) → IsNumbered r → IsNumbered (picture_of r)
picture-numbered (Ok meaning) h = tt
picture-numbered (Err fault) h = h

pub text-numbered : (text : List ℕ) → IsNumbered (picture_of (reading text))
text-numbered text = picture-numbered (reading text) (with-numbered (header_rule text) (body_tokens text) (line-numbered (header_line text)))
