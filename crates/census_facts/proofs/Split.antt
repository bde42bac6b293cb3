-- Where lines and entries are split.
use Rattle.std.proofs.Common.{◌≡◌, ℕ, zero, suc, ◌+◌, ◌<◌, true, List, [], ◌∷◌, length, take, drop, Bor, Option, Some, None, refl, ap, ◌∙◌, arith}
use Rattle.std.specs.List.{after_first, before_first, onto_first, position_or_len, slice_split}
use Rattle.std.specs.Option.{option_map_or}
use Rattle.std.proofs.lemmas.Bool.{false_from_ne_true}
use Rattle.std.proofs.lemmas.List.{drop_all, take_all}
use Rattle.std.proofs.lemmas.List.Splits.{slice_split-cons_yes, slice_split-cons_no}
use Rattle.std.proofs.lemmas.List.Sums.{position_or_len_is}
use Rattle.memchr.specs.Find.{IsFirstByte, Nowhere, Passes, is_byte}
use Rattle.census_facts.specs.NameLines.{is_line_feed, is_tab}

-- # Lines

-- a text without an LF is one line
pub one_line : (text : List ℕ) → Nowhere (Passes (is_byte 10) text) 0 (length text) → slice_split is_line_feed text ≡ text ∷ []
one_line [] none = refl
one_line (c ∷ rest) none =
    let later = one_line rest (λ k low high. none (suc k) (omega arith) (omega arith)) in
    let first : ¬ (is_line_feed c ≡ true) = none 0 (omega arith) (omega arith) in
    slice_split-cons_no is_line_feed c rest (false_from_ne_true (is_line_feed c) first) ∙ ap (onto_first c) later

-- the first LF ends the first line
line_to : (text : List ℕ) (k : ℕ) → k < length text → Passes (is_byte 10) text k → Nowhere (Passes (is_byte 10) text) 0 k → slice_split is_line_feed text ≡ take k text ∷ slice_split is_line_feed (drop (suc k) text)
line_to [] k within end before = absurd (omega arith)
line_to (c ∷ rest) zero within end before = slice_split-cons_yes is_line_feed c rest end
line_to (c ∷ rest) (suc k) within end before =
    let later = line_to rest k (omega arith) end (λ j low high. before (suc j) (omega arith) (omega arith)) in
    let first : ¬ (is_line_feed c ≡ true) = before 0 (omega arith) (omega arith) in
    slice_split-cons_no is_line_feed c rest (false_from_ne_true (is_line_feed c) first) ∙ ap (onto_first c) later

pub first_line : (text : List ℕ) (k : ℕ) → IsFirstByte (is_byte 10) text (Some k) → slice_split is_line_feed text ≡ take k text ∷ slice_split is_line_feed (drop (k + 1) text)
first_line text k found =
    let next : k + 1 ≡ suc k = omega arith in
    rw next (line_to text k found.0.high found.1 found.0.before)

-- the lines that are left, and how many bytes they take at most
abbrev pub left_lines : Option (Bor (List ℕ)) → List (List ℕ)
left_lines left = option_map_or (λ rest. slice_split is_line_feed rest.now) left []

abbrev pub left_len : Option (Bor (List ℕ)) → ℕ
left_len left = option_map_or (λ rest. 1 + length rest.now) left 0

-- # Entries

-- where the first tab is
pub tab_found : (line : List ℕ) (at : ℕ) → IsFirstByte (is_byte 9) line (Some at) → position_or_len is_tab line ≡ at
tab_found line at found =
    position_or_len_is is_tab line at 0 (omega (arith, found.0.high)) (λ k below. false_from_ne_true _ (found.0.before k (omega arith) below)) (λ within. found.1)

no_tab : (line : List ℕ) → IsFirstByte (is_byte 9) line None → position_or_len is_tab line ≡ length line
no_tab line none =
    position_or_len_is is_tab line (length line) 0 (omega arith) (λ k below. false_from_ne_true _ (none k (omega arith) below)) (λ within. absurd (omega arith))

-- without a tab, everything comes before it
pub all_before : (line : List ℕ) → IsFirstByte (is_byte 9) line None → before_first is_tab line ≡ line
all_before line none = ap (λ k. take k line) (no_tab line none) ∙ take_all (length line) line (omega arith)

pub none_behind : (line : List ℕ) → IsFirstByte (is_byte 9) line None → after_first is_tab line ≡ []
none_behind line none = ap (λ k. drop (k + 1) line) (no_tab line none) ∙ drop_all (length line + 1) line (omega arith)
