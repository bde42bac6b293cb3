-- Codes under rules, in order.
use Rattle.std.specs.Prelude.{◌≡◌, ℕ, Bool, ◌&&◌, List, [], ◌∷◌, ⊤, false, nat_eq}
use Rattle.std.specs.Cmp.Lexicographic.{pointwise, slice_cmp}
use Rattle.std.specs.List.{All}
use Rattle.std.specs.Ordering.{is_eq, is_lt, nat_cmp, ordering_then}
use Rattle.std.specs.declared.cmp.Ordering.{Ordering}
use Rattle.census_compare.specs.declared.told.Told.{Told}

-- a code and a rule
abbrev pub Key : Type 0
Key = List ℕ × List ℕ

-- the order of codes by their bytes, and under one code of rules
abbrev pub key_cmp : Key → Key → Ordering
key_cmp one other = ordering_then (slice_cmp nat_cmp one.0 other.0) (slice_cmp nat_cmp one.1 other.1)

abbrev pub key_of : Told → Key
key_of told = (told.code.now, told.rule.now)

-- whether a pattern has this code under this rule
abbrev pub has_key : Key → Told → Bool
has_key key told = pointwise nat_eq told.code.now key.0 && pointwise nat_eq told.rule.now key.1

-- no pattern follows one of a later key
abbrev pub AreInOrder : List Told → Type 0
AreInOrder [] = ⊤
AreInOrder (told ∷ tolds) = All (λ other. is_lt (key_cmp (key_of other) (key_of told)) ≡ false) tolds × AreInOrder tolds

-- whether two keys are the same
abbrev pub is_key : Key → Key → Bool
is_key one other = is_eq (key_cmp one other)
