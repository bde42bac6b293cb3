-- Codes and their names.
use Rattle.std.specs.Prelude.{ℕ, Bool, true, false, not, ◌&&◌, is_none, if◌then◌else◌, Option, Some, None, List, [], ◌∷◌, ◌++◌, find, nat_eq, option_map}
use Rattle.std.specs.Cmp.Lexicographic.{pointwise}

-- a code with its name
pub record Entry : Type 0 where
  pub code : List ℕ
  pub name : List ℕ

abbrev pub entry : List ℕ → List ℕ → Entry
entry code name = record { code = code; name = name }

-- true for an entry of this code
abbrev pub is_of : List ℕ → Entry → Bool
is_of code entry = pointwise nat_eq code entry.code

-- the name of a code, if it has one
abbrev pub name_in : List Entry → List ℕ → Option (List ℕ)
name_in entries code = option_map (λ entry. entry.name) (find (is_of code) entries)

abbrev pub is_empty : List ℕ → Bool
is_empty [] = true
is_empty (byte ∷ bytes) = false

-- true where an entry has a code and a name that are not empty
abbrev pub is_whole : Entry → Bool
is_whole entry = not (is_empty entry.code) && not (is_empty entry.name)

-- true where an entry is whole, and no other has its code
abbrev pub may_add : List Entry → Entry → Bool
may_add entries entry = is_whole entry && is_none (name_in entries entry.code)

-- the entries with one more, if it may be added
abbrev pub with_entry : List Entry → Entry → Option (List Entry)
with_entry entries entry = if may_add entries entry then Some (entries ++ entry ∷ []) else None
