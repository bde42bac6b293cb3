-- Patterns in the order of their names, and the first that a key is about.
use Rattle.std.proofs.Common.{◌≡◌, ◌⊎◌, inl, inr, ℕ, zero, suc, arith, ◌+◌, ◌<◌, ◌≤◌, Bool, true, false, ◌&&◌, not, cond, drop, filter, get_or, get_or-drop, length, length-drop, map, refl, sym, ap, ap₂, ◌∙◌, subst, take, List, [], ◌∷◌, ◌++◌, true≢false}
use Rattle.std.specs.Cmp.{IsTotalOrder, on_total}
use Rattle.std.specs.List.Sorted.{IsNonDecreasingBy, IsPartitionedBy, IsPartitionPoint, IsSortedBy}
use Rattle.std.specs.Ordering.{is_eq, is_gt}
use Rattle.std.specs.declared.cmp.Ordering.{Ordering}
use Rattle.std.proofs.lemmas.Bool.{cases_lt}
use Rattle.std.proofs.lemmas.List.{get_or_default, take_more}
use Rattle.std.proofs.lemmas.List.Sorted.{IsNonDecreasingBy-drop, sorted_far}
use Rattle.census_rows.proofs.Filters.{filter-none}
use Rattle.census_table.proofs.Ties.{is-less, less-order}
use Rattle.census_compare.specs.Index.{AreInOrder, AreOthers, IsFirst, are_none, begins_with, has_names, key_order, names_of, rank}
use Rattle.census_compare.specs.KeyLaws.{key_total}
use Rattle.census_compare.specs.Order.{key_cmp}
use Rattle.census_compare.specs.Patterns.{Key}
use Rattle.census_compare.specs.declared.index.Spot.{Spot}
use Rattle.census_compare.proofs.Keys.{before-other, before-rank, level-is, names-tied, not-before, not-level, other-rank, rank-before, rank-rises}

abbrev pub spot_cmp : Spot → Spot → Ordering
spot_cmp one other = key_cmp (names_of one) (names_of other)

pub spot_total : IsTotalOrder spot_cmp
spot_total = on_total names_of key_total

pub in-order : (spots : List Spot) → IsSortedBy (is-less spot_cmp spot_total) spots → AreInOrder spots
in-order spots sorted = λ key i j d le less.
    rank-rises key (names_of (get_or spots i d)) (names_of (get_or spots j d))
    (sorted_far (is-less spot_cmp spot_total) (less-order spot_cmp spot_total) spots sorted i j d le less)

-- what comes before a key is in front
pub before-parted : (key : Key) (spots : List Spot) → AreInOrder spots → IsPartitionedBy (λ spot. is_gt (key_order key (names_of spot))) spots
before-parted key spots order = λ i j d le less e.
    let low = order key i j d le less in
    let high = before-rank (key_order key (names_of (get_or spots j d))) e in
    rank-before (key_order key (names_of (get_or spots i d))) (omega (arith, low, high))

module _ (key : Key) (spots : List Spot) (at : ℕ)
    (point : IsPartitionPoint (λ spot. is_gt (key_order key (names_of spot)) ≡ true) (λ spot. is_gt (key_order key (names_of spot)) ≡ false) spots at) where
  early : at ≤ length spots → (k : ℕ) (d : Spot) → k < at → has_names key (names_of (get_or spots k d)) ≡ false
  early within k d less =
      names-tied key (names_of (get_or spots k d)) ∙ before-other (key_order key (names_of (get_or spots k d))) (point.0 k d (omega arith) less)

  pub first-there : (spot : Spot) → at < length spots → is_eq (key_order key (names_of (get_or spots at spot))) ≡ true → IsFirst key spots at
  first-there spot less e = record {
    within = less;
    is = λ d. ap (λ s. has_names key (names_of s)) (get_or_default spots at d spot less) ∙ names-tied key (names_of (get_or spots at spot)) ∙ e;
    first = λ k d small. early (omega arith) k d small;
  }

  pub none-behind : at ≤ length spots → length spots ≤ at → AreOthers key spots
  none-behind within all = λ k d less. early within k d (omega arith)

  pub none-there : AreInOrder spots → (spot : Spot) → at < length spots → is_eq (key_order key (names_of (get_or spots at spot))) ≡ false → AreOthers key spots
  none-there order spot less e = λ k d small.
      elim (cases_lt k at) [
        | inl before ↦ early (omega arith) k d before
        | inr after ↦
            let there : rank (key_order key (names_of (get_or spots at d))) ≡ rank (key_order key (names_of (get_or spots at spot))) =
            ap (λ s. rank (key_order key (names_of s))) (get_or_default spots at d spot less) in
            let low = not-before (key_order key (names_of (get_or spots at spot))) (point.1 at spot (omega arith) less) in
            let base = other-rank (key_order key (names_of (get_or spots at spot))) e low in
            let up = order key at k d (omega arith) small in
            names-tied key (names_of (get_or spots k d)) ∙ not-level (key_order key (names_of (get_or spots k d))) (omega (arith, base, there, up))
      ]

-- some pattern
abbrev pub nobody : Spot
nobody = record {
  name = record { ref_ptr = (0, 0); now = [] };
  collection = record { ref_ptr = (0, 0); now = [] };
  place = record { collection = 0; under = 0; row = 0 };
}

-- # The patterns that a key is about

-- what a filter keeps begins with the first that passes
filter-first : {X : Type 0} (p : X → Bool) (xs : List X) (at : ℕ) (d : X) → at < length xs → p (get_or xs at d) ≡ true
    → ((k : ℕ) (e : X) → k < at → p (get_or xs k e) ≡ false) → filter p xs ≡ get_or xs at d ∷ filter p (drop (suc at) xs)
filter-first p [] at d less e none = absurd (omega arith)
filter-first p (x ∷ xs) zero d less e none = ap (λ b. cond b (x ∷ filter p xs) (filter p xs)) e
filter-first p (x ∷ xs) (suc at) d less e none =
    ap (λ b. cond b (x ∷ filter p xs) (filter p xs)) (none 0 x (omega arith))
    ∙ filter-first p xs at d (omega arith) e (λ k e small. none (suc k) e (omega arith))

filter-begun : (key : Key) (spot : Spot) (spots : List Spot) → has_names key (names_of spot) ≡ true
    → filter (λ s. has_names key (names_of s)) (spot ∷ spots) ≡ spot ∷ filter (λ s. has_names key (names_of s)) spots
filter-begun key spot spots e = ap (λ b. cond b (spot ∷ filter (λ s. has_names key (names_of s)) spots) (filter (λ s. has_names key (names_of s)) spots)) e

pub filter-others : (key : Key) (spots : List Spot) → AreOthers key spots → filter (λ s. has_names key (names_of s)) spots ≡ []
filter-others key spots others = filter-none (λ s. has_names key (names_of s)) spots others

-- behind the first those that the key is about come at once
left-others : (key : Key) (spots : List Spot) → IsNonDecreasingBy (λ s. rank (key_order key (names_of s))) spots
    → ((k : ℕ) (d : Spot) → k < length spots → 1 ≤ rank (key_order key (names_of (get_or spots k d)))) → begins_with key spots ≡ false → AreOthers key spots
left-others key [] up some e = λ k d less. absurd (omega arith)
left-others key (spot ∷ spots) up some e = λ k d less.
    let base = other-rank (key_order key (names_of spot)) (sym (names-tied key (names_of spot)) ∙ e) (some 0 spot (omega arith)) in
    let high = up 0 k d (omega arith) less in
    names-tied key (names_of (get_or (spot ∷ spots) k d)) ∙ not-level (key_order key (names_of (get_or (spot ∷ spots) k d))) (omega (arith, base, high))

pub begins-at : (key : Key) (spots : List Spot) (d : Spot) → 1 ≤ length spots → begins_with key spots ≡ is_eq (key_order key (names_of (get_or spots 0 d)))
begins-at key [] d some = absurd (omega arith)
begins-at key (spot ∷ spots) d some = names-tied key (names_of spot)

pub begun-some : (key : Key) (spots : List Spot) → begins_with key spots ≡ true
    → (one : Spot) × (others : List Spot) × (filter (λ s. has_names key (names_of s)) spots ≡ one ∷ others)
begun-some key [] e = absurd (true≢false (sym e))
begun-some key (spot ∷ spots) e = (spot, filter (λ s. has_names key (names_of s)) spots, filter-begun key spot spots e)

module _ (key : Key) (spots : List Spot) (at : ℕ) (first : IsFirst key spots at) where
  pub from-first : (d : Spot) → filter (λ s. has_names key (names_of s)) spots ≡ get_or spots at d ∷ filter (λ s. has_names key (names_of s)) (drop (at + 1) spots)
  from-first d =
      filter-first (λ s. has_names key (names_of s)) spots at d first.within (first.is d) first.first
      ∙ ap (λ n. get_or spots at d ∷ filter (λ s. has_names key (names_of s)) (drop n spots)) (let e : suc at ≡ at + 1 = omega arith in e)

  pub behind-first : AreInOrder spots → begins_with key (drop (at + 1) spots) ≡ false → filter (λ s. has_names key (names_of s)) (drop (at + 1) spots) ≡ []
  behind-first order e =
      filter-others key (drop (at + 1) spots)
      (left-others key (drop (at + 1) spots) (IsNonDecreasingBy-drop (λ s. rank (key_order key (names_of s))) (at + 1) spots (order key)) some e)
    where
      some : (k : ℕ) (d : Spot) → k < length (drop (at + 1) spots) → 1 ≤ rank (key_order key (names_of (get_or (drop (at + 1) spots) k d)))
      some k d less =
          let long = length-drop (at + 1) spots in
          let here = level-is (key_order key (names_of (get_or spots at d))) (sym (names-tied key (names_of (get_or spots at d))) ∙ first.is d) in
          let up = order key at (at + 1 + k) d (omega arith) (omega (arith, long, less)) in
          subst (λ s. 1 ≤ rank (key_order key (names_of s))) (sym (get_or-drop (at + 1) spots k d)) (omega (arith, here, up))

  -- there is only one first
  pub first-one : (other : ℕ) → IsFirst key spots other → other ≡ at
  first-one other second =
      elim (cases_lt other at) [
        | inl less ↦ absurd (true≢false (sym (second.is nobody) ∙ first.first other nobody less))
        | inr more ↦ elim (cases_lt at other) [
          | inl less ↦ absurd (true≢false (sym (first.is nobody) ∙ second.first at nobody less))
          | inr same ↦ omega arith
        ]
      ]

-- # Patterns that are left out

pub none-more : (spots : List Spot) (spot : Spot) → are_none (spots ++ spot ∷ []) ≡ false
none-more [] spot = refl
none-more (one ∷ spots) spot = refl

pub none-taken : (spots : List Spot) (i : ℕ) (d : Spot) → i < length spots → are_none (take (i + 1) spots) ≡ false
none-taken spots i d less = ap are_none (take_more spots i d less) ∙ none-more (take i spots) (get_or spots i d)

pub none-moved : (one other : List Spot) → length other ≡ length one → are_none other ≡ are_none one
none-moved [] [] e = refl
none-moved [] (spot ∷ spots) e = absurd (omega (arith, e))
none-moved (spot ∷ spots) [] e = absurd (omega (arith, e))
none-moved (spot ∷ spots) (other ∷ others) e = refl

pub and-false : (a : Bool) → (a && false) ≡ false
and-false true = refl
and-false false = refl
