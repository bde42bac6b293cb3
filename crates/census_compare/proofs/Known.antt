-- Patterns and their names, in any order.
use Rattle.std.proofs.Common.{◌≡◌, ℕ, arith, ◌+◌, Bool, true, false, ◌&&◌, ◌||◌, not, cond, drop, filter, get_or, length, map, refl, sym, ap, ◌∙◌, subst, List, [], ◌∷◌}
use Rattle.std.specs.Prelude.{Option, Some, None as Nowhere}
use Rattle.std.specs.List.{list_all, list_any, All}
use Rattle.std.specs.List.Sorted.{IsPermutation}
use Rattle.std.proofs.lemmas.List.Elements.{All-from_recursion, recursion_from_All}
use Rattle.std.proofs.lemmas.List.Sorted.{length_permutation, list_any-IsPermutation, All-permutation}
use Rattle.census_rows.proofs.Filters.{filter-map}
use Rattle.census_rows.specs.declared.row.Row.{Row}
use Rattle.census_table.proofs.Ties.{filter-permutation}
use Rattle.census_table.specs.declared.entry.Entry.{Entry}
use Rattle.census_compare.specs.Claims.{Claim}
use Rattle.census_compare.specs.Index.{AreOthers, IsFirst, IsIndex, Known, begins_with, entry_at, entry_known, has_names, known_match, names_claimed, names_of, one_match, patterns_in, spot_known}
use Rattle.census_compare.specs.Patterns.{Key, is_claimed, is_of, matched}
use Rattle.census_compare.specs.declared.index.Index.{Index}
use Rattle.census_compare.specs.declared.index.Match.{Match}
use Rattle.census_compare.specs.declared.index.Match.TheVariants.{Nothing, Several}
use Rattle.census_compare.specs.declared.index.Spot.{Spot}
use Rattle.census_compare.proofs.Spotted.{behind-first, begun-some, filter-others, from-first, nobody}

alone : {X : Type 0} (x : X) (ys : List X) → IsPermutation (x ∷ []) ys → ys ≡ x ∷ []
alone x [] moved = absurd (omega (arith, length_permutation (x ∷ []) [] moved))
alone x (y ∷ []) moved =
    ap (λ z. z ∷ []) (recursion_from_All (λ z. z ≡ x) (y ∷ [])
    (All-permutation (λ z. z ≡ x) (x ∷ []) (y ∷ []) moved (All-from_recursion (λ z. z ≡ x) (x ∷ []) (refl, tt)))).0
alone x (y ∷ (z ∷ ys)) moved = absurd (omega (arith, length_permutation (x ∷ []) (y ∷ (z ∷ ys)) moved))

-- how many patterns there are does not depend on their order
match-moved : (xs ys : List Known) → IsPermutation xs ys → known_match xs ≡ known_match ys
match-moved [] [] moved = refl
match-moved [] (y ∷ ys) moved = absurd (omega (arith, length_permutation [] (y ∷ ys) moved))
match-moved (x ∷ []) ys moved = ap known_match (sym (alone x ys moved))
match-moved (x ∷ (z ∷ xs)) [] moved = absurd (omega (arith, length_permutation (x ∷ (z ∷ xs)) [] moved))
match-moved (x ∷ (z ∷ xs)) (y ∷ []) moved = absurd (omega (arith, length_permutation (x ∷ (z ∷ xs)) (y ∷ []) moved))
match-moved (x ∷ (z ∷ xs)) (y ∷ (w ∷ ys)) moved = refl

match-known : (entries : List Entry) → known_match (map entry_known entries) ≡ matched entries
match-known [] = refl
match-known (one ∷ []) = refl
match-known (one ∷ (two ∷ others)) = refl

-- the patterns that a key is about
pub match-spots : (index : Index) → IsIndex index → (key : Key)
    → known_match (map (spot_known index.sections) (filter (λ spot. has_names key (names_of spot)) index.spots.items)) ≡ matched (filter (is_of key) (patterns_in index))
match-spots index is key =
    let test : Known → Bool = λ known. has_names key known.1 in
    let entries = map entry_known (patterns_in index) in
    let spots = map (spot_known index.sections) index.spots.items in
    ap known_match (sym (filter-map test (spot_known index.sections) index.spots.items))
    ∙ sym (match-moved (filter test entries) (filter test spots) (filter-permutation test entries spots is.known))
    ∙ ap known_match (filter-map test entry_known (patterns_in index))
    ∙ match-known (filter (is_of key) (patterns_in index))

all-not : {X : Type 0} (p : X → Bool) (xs : List X) → list_all p xs ≡ not (list_any (λ x. not (p x)) xs)
all-not p [] = refl
all-not p (x ∷ xs) = ap (λ b. p x && b) (all-not p xs) ∙ go (p x) (list_any (λ y. not (p y)) xs)
  where
    go : (a b : Bool) → (a && not b) ≡ not (not a || b)
    go true b = refl
    go false b = refl

all-map : {X Y : Type 0} (p : Y → Bool) (f : X → Y) (xs : List X) → list_all p (map f xs) ≡ list_all (λ x. p (f x)) xs
all-map p f [] = refl
all-map p f (x ∷ xs) = ap (λ b. p (f x) && b) (all-map p f xs)

-- whether claims are about all
pub all-claimed : (index : Index) → IsIndex index → (claims : List Claim)
    → list_all (λ spot. names_claimed claims (names_of spot)) index.spots.items ≡ list_all (is_claimed claims) (patterns_in index)
all-claimed index is claims =
    let test : Known → Bool = λ known. names_claimed claims known.1 in
    let entries = map entry_known (patterns_in index) in
    let spots = map (spot_known index.sections) index.spots.items in
    sym (all-map test (spot_known index.sections) index.spots.items)
    ∙ all-not test spots
    ∙ ap not (sym (list_any-IsPermutation (λ known. not (test known)) entries spots is.known))
    ∙ sym (all-not test entries)
    ∙ all-map test entry_known (patterns_in index)

module _ (index : Index) (is : IsIndex index) (key : Key) where
  abbrev mine : Spot → Bool
  mine spot = has_names key (names_of spot)

  by-spots : (spots : List Spot) → filter mine index.spots.items ≡ spots
      → known_match (map (spot_known index.sections) spots) ≡ matched (filter (is_of key) (patterns_in index))
  by-spots spots e = ap (λ ss. known_match (map (spot_known index.sections) ss)) (sym e) ∙ match-spots index is key

  pub match-nothing : AreOthers key index.spots.items → Nothing ≡ matched (filter (is_of key) (patterns_in index))
  match-nothing others = by-spots [] (filter-others key index.spots.items others)

  pub match-several : (at : ℕ) → IsFirst key index.spots.items at → begins_with key (drop (at + 1) index.spots.items) ≡ true
      → Several ≡ matched (filter (is_of key) (patterns_in index))
  match-several at first e =
      let left = begun-some key (drop (at + 1) index.spots.items) e in
      by-spots (get_or index.spots.items at nobody ∷ (left.0 ∷ left.1))
      (from-first key index.spots.items at first nobody ∙ ap (λ ss. get_or index.spots.items at nobody ∷ ss) left.2)

  pub match-one : (at : ℕ) (spot : Spot) (spots : List Spot) → spots ≡ index.spots.items → IsFirst key index.spots.items at
      → begins_with key (drop (at + 1) index.spots.items) ≡ false
      → one_match (entry_at index.sections (get_or spots at spot).place) ≡ matched (filter (is_of key) (patterns_in index))
  match-one at spot spots same first e =
      ap (λ ss. one_match (entry_at index.sections (get_or ss at spot).place)) same
      ∙ by-spots (get_or index.spots.items at spot ∷ [])
      (from-first key index.spots.items at first spot ∙ ap (λ ss. get_or index.spots.items at spot ∷ ss) (behind-first key index.spots.items at first is.order e))
