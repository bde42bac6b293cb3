-- Codes: the body of a code, and the order of codes, by which the least of several is chosen.
use Rattle.std.specs.Prelude.{ℕ, ◌+◌, List, [], ◌∷◌, Option, Some, None, drop, length, ◌==◌, if◌then◌else◌, position}
use Rattle.std.specs.List.{fold}
use Rattle.std.specs.Ordering.{nat_cmp, ordering_then, is_gt}
use Rattle.std.specs.declared.cmp.Ordering.{Ordering}
use Rattle.std.specs.Cmp.Lexicographic.{slice_cmp}

-- the text after a place, or the whole text if there is none
abbrev pub text_after : Option ℕ → List ℕ → List ℕ
text_after None code = code
text_after (Some at) code = drop (at + 1) code

-- the bytes after the first `_`, or all bytes if there is none
abbrev pub body_of : List ℕ → List ℕ
body_of code = text_after (position (λ c. c == 95) code) code

-- by length, then by bytes
abbrev pub shorter_cmp : List ℕ → List ℕ → Ordering
shorter_cmp a b = ordering_then (nat_cmp (length a) (length b)) (slice_cmp nat_cmp a b)

-- the first of two texts, or the second if that is less
abbrev pub lesser_text : List ℕ → List ℕ → List ℕ
lesser_text a b = if is_gt (shorter_cmp a b) then b else a

-- the least of some texts, by length, then by bytes
abbrev pub least_text : List (List ℕ) → List ℕ
least_text [] = []
least_text (text ∷ others) = fold lesser_text text others
