-- The kinds of objects in reports: each code under a rule is one.
use Rattle.std.specs.Prelude.{◌≡◌, ℕ, ◌+◌, ◌-◌, ◌*◌, ◌/◌, ◌^◌, min, Bool, true, ◌&&◌, ◌==◌, if◌then◌else◌, is_none, nat_eq, Some, List, ◌∷◌, length, filter, map, count_by}
use Rattle.std.specs.Cmp.Lexicographic.{pointwise, slice_cmp}
use Rattle.std.specs.List.{All, dedup, sum_by}
use Rattle.std.specs.List.Sorted.{IsSorted}
use Rattle.std.specs.Ordering.{nat_cmp, ordering_then}
use Rattle.std.specs.declared.cmp.Ordering.{Ordering}
use Rattle.census_facts.specs.Names.{name_in, Entry as Named}
use Rattle.census_table.specs.Called.{Names}
use Rattle.census_table.specs.declared.entry.Entry.{Entry}
use Rattle.census_table.specs.declared.object.Object.{Object}

-- true where two objects have the same code under the same rule
abbrev pub same_kind : Object → Object → Bool
same_kind o p = pointwise nat_eq o.code.now p.code.now && pointwise nat_eq o.rule.now p.rule.now

-- the order of kinds: by the length of the code, then by its bytes, and then by those of the rule
abbrev pub kind_cmp : Object → Object → Ordering
kind_cmp o p =
    ordering_then (nat_cmp (length o.code.now) (length p.code.now)) (ordering_then (slice_cmp nat_cmp o.code.now p.code.now) (slice_cmp nat_cmp o.rule.now p.rule.now))

-- the order of two counts: the greater comes first, or under `rare` the smaller
abbrev pub rank_cmp : Bool → ℕ → ℕ → Ordering
rank_cmp rare m n = if rare then nat_cmp m n else nat_cmp n m

-- by falling count, or under `rare` by rising count, and then in the order of kinds
abbrev pub count_cmp : Bool → Object → Object → Ordering
count_cmp rare o p = ordering_then (rank_cmp rare o.count p.count) (kind_cmp o p)

-- a number, at most 2^64 - 1
abbrev pub capped : ℕ → ℕ
capped n = min n (2 ^ 64 - 1)

abbrev pub same_pattern : Entry → Entry → Bool
same_pattern e f = (e.collection == f.collection) && (e.pattern == f.pattern)

-- the first of these, with their total number and the number of patterns for which they are reported, where objects of one
-- pattern are next to each other
abbrev pub counted : Object → List Object → Object
counted o objects = record o {
  count = capped (sum_by (λ p. p.count) (o ∷ objects));
  patterns = capped (length (dedup same_pattern (map (λ p. p.first) (o ∷ objects))));
}

-- the objects of a kind, counted
pub record IsCounted (objects : List Object) (kind : Object) : Type 0 where
  pub first : Object
  pub others : List Object
  pub told : filter (same_kind kind) objects ≡ first ∷ others
  pub is : kind ≡ counted first others

-- each of these kinds counts the objects of its kind, each object has one kind, and kinds are sorted by falling count, or under
-- `rare` by rising count, and then in the order of kinds
pub record AreKinds (rare : Bool) (objects kinds : List Object) : Type 0 where
  pub each : All (IsCounted objects) kinds
  pub once : All (λ o. count_by (same_kind o) kinds ≡ 1) objects
  pub ordered : IsSorted (count_cmp rare) kinds

-- # Shares of all objects, and codes without a name

-- the number of objects of these kinds together, at most 2^64 - 1
abbrev pub total_of : List Object → ℕ
total_of kinds = capped (sum_by (λ kind. kind.count) kinds)

-- the share of a number in a total, in millionths, rounded to the nearest; a half is rounded up
abbrev pub share_of : ℕ → ℕ → ℕ
share_of count total = min ((2000000 * count + total) / (2 * total)) 1000000

abbrev pub with_share : ℕ → Object → Object
with_share total kind = record kind { share = share_of kind.count total }

abbrev pub has_no_name : List Named → Object → Bool
has_no_name names kind = is_none (name_in names kind.code.now)

-- these kinds, or if they are to be unnamed and there are names, only those without a name
abbrev pub left_in : Names → Bool → List Object → List Object
left_in (Some names) true kinds = filter (has_no_name names) kinds
left_in _ _ kinds = kinds
