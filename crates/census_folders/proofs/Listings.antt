-- The names that a folder lists.
use Rattle.std.proofs.Common.{◌≡◌, ℕ, zero, suc, ◌+◌, ◌<◌, true, List, [], ◌∷◌, ◌++◌, length, map, take, drop, Vec, Global, Bor, Option, Some, refl, sym, ap, ◌∙◌, subst, arith, append-nil}
use Rattle.std.specs.declared.cmp.Ordering.{Ordering}
use Rattle.std.specs.List.{slice_split, onto_first}
use Rattle.std.specs.List.Sorted.{IsPermutation, IsSorted, IsSortedByKey}
use Rattle.std.specs.Cmp.Lexicographic.{slice_cmp}
use Rattle.std.specs.Option.{option_map_or}
use Rattle.std.specs.Ordering.{nat_cmp}
use Rattle.std.proofs.lemmas.Bool.{false_from_ne_true}
use Rattle.std.proofs.lemmas.List.{get_or-map, length-map}
use Rattle.std.proofs.lemmas.List.Sorted.{IsPermutation-map}
use Rattle.std.proofs.lemmas.List.Splits.{slice_split-cons_yes, slice_split-cons_no}
use Rattle.memchr.specs.Find.{IsFirstByte, Nowhere, Passes, is_byte}
use Rattle.census_folders.specs.Listings.{IsChosen, is_end, pattern_names_in}

-- # The first name

-- a list without a byte 0 is one name
pub one_name : (text : List ℕ) → Nowhere (Passes (is_byte 0) text) 0 (length text) → slice_split is_end text ≡ text ∷ []
one_name [] none = refl
one_name (c ∷ rest) none =
    let later = one_name rest (λ k low high. none (suc k) (omega arith) (omega arith)) in
    let first : ¬ (is_end c ≡ true) = none 0 (omega arith) (omega arith) in
    slice_split-cons_no is_end c rest (false_from_ne_true (is_end c) first) ∙ ap (onto_first c) later

-- the first byte 0 ends the first name
name_to : (text : List ℕ) (k : ℕ) → k < length text → Passes (is_byte 0) text k → Nowhere (Passes (is_byte 0) text) 0 k → slice_split is_end text ≡ take k text ∷ slice_split is_end (drop (suc k) text)
name_to [] k within end before = absurd (omega arith)
name_to (c ∷ rest) zero within end before = slice_split-cons_yes is_end c rest end
name_to (c ∷ rest) (suc k) within end before =
    let later = name_to rest k (omega arith) end (λ j low high. before (suc j) (omega arith) (omega arith)) in
    let first : ¬ (is_end c ≡ true) = before 0 (omega arith) (omega arith) in
    slice_split-cons_no is_end c rest (false_from_ne_true (is_end c) first) ∙ ap (onto_first c) later

pub first_name : (text : List ℕ) (k : ℕ) → IsFirstByte (is_byte 0) text (Some k) → slice_split is_end text ≡ take k text ∷ slice_split is_end (drop (k + 1) text)
first_name text k found =
    let next : k + 1 ≡ suc k = omega arith in
    rw next (name_to text k found.0.high found.1 found.0.before)

-- # One more name

abbrev pub words_of : List (Bor (List ℕ)) → List (List ℕ)
words_of words = map (λ s. s.now) words

abbrev pub bytes_of : List (Vec ℕ Global) → List (List ℕ)
bytes_of names = map (λ name. name.items) names

abbrev pub left_names : Option (Bor (List ℕ)) → List (List ℕ)
left_names left = option_map_or (λ rest. slice_split is_end rest.now) left []

-- # All the names

-- keys are sorted where a list is sorted by them
pub IsSorted-map : {X K : Type 0} (key : X → K) (cmp : K → K → Ordering) (xs : List X) → IsSortedByKey key cmp xs → IsSorted cmp (map key xs)
IsSorted-map key cmp [] sorted k d low high = absurd (omega arith)
IsSorted-map key cmp (x ∷ xs) sorted k d low high =
    let within : k + 1 < length (x ∷ xs) = omega (arith, length-map (x ∷ xs) key) in
    let next = get_or-map key (x ∷ xs) (k + 1) x d within in
    let here = get_or-map key (x ∷ xs) k x d (omega arith) in
    rw (next, here) (sorted k x low within)

pub all_names : (listing : List ℕ) (old new : List (Vec ℕ Global)) → bytes_of old ++ [] ≡ pattern_names_in listing → IsPermutation old new → IsSorted (λ x y. slice_cmp nat_cmp x.items y.items) new → IsChosen listing (bytes_of new)
all_names listing old new whole moved sorted = record {
  same = subst (λ names. IsPermutation names (bytes_of new)) (sym (append-nil (bytes_of old)) ∙ whole) (IsPermutation-map (λ name. name.items) old new moved);
  order = IsSorted-map (λ name. name.items) (slice_cmp nat_cmp) new sorted;
}
