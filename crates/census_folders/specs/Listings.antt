-- The pattern files that a folder lists.
use Rattle.std.specs.Prelude.{ℕ, Bool, List, codes, nat_eq}
use Rattle.std.specs.List.{ends_with, filter, slice_split}
use Rattle.std.specs.List.Sorted.{IsPermutation, IsSorted}
use Rattle.std.specs.Cmp.Lexicographic.{slice_cmp}
use Rattle.std.specs.Ordering.{nat_cmp}

-- true where the name ends in `.rle`
abbrev pub is_pattern_name : List ℕ → Bool
is_pattern_name name = ends_with nat_eq name (codes ".rle")

-- true for the byte that ends a name
abbrev pub is_end : ℕ → Bool
is_end byte = nat_eq byte 0

-- the names in a list that end in `.rle`
abbrev pub pattern_names_in : List ℕ → List (List ℕ)
pattern_names_in listing = filter is_pattern_name (slice_split is_end listing)

-- the names are in the order of their bytes: none is below the one before it
abbrev pub AreInOrder : List (List ℕ) → Type 0
AreInOrder names = IsSorted (slice_cmp nat_cmp) names

-- these are exactly the names that end in `.rle`, in the order of their bytes
pub record IsChosen (listing : List ℕ) (names : List (List ℕ)) : Type 0 where
  pub same : IsPermutation (pattern_names_in listing) names
  pub order : AreInOrder names
