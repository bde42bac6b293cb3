-- Lawful names.
use Rattle.std.specs.Prelude.{◌≡◌, ℕ, Bool, true, not, ◌&&◌, ◌||◌, List, length, codes, nat_eq, nat_lt, nat_le, ◌==◌}
use Rattle.std.specs.List.{All, list_all, starts_with, ends_with}
use Rattle.census_bundle.specs.declared.bundle.Folder.{Folder}
use Rattle.census_bundle.specs.declared.bundle.Entry.{Entry}
use Rattle.census_bundle.specs.Sizes.{name_limit}

-- true where a byte is not a control character
abbrev pub is_name_byte : ℕ → Bool
is_name_byte c = nat_le 32 c && not (c == 127)

-- true where a name has 1 to 255 such bytes, the first and the last not blank
abbrev pub is_name : List ℕ → Bool
is_name name = nat_lt 0 (length name) && (nat_le (length name) name_limit && (list_all is_name_byte name && not (starts_with nat_eq name (codes " ") || ends_with nat_eq name (codes " "))))

pub record IsNamedEntry (e : Entry) : Type 0 where
  pub name : is_name e.name ≡ true

-- the folder's name and those of its entries are lawful
pub record IsNamedFolder (f : Folder) : Type 0 where
  pub name : is_name f.name ≡ true
  pub entries : All IsNamedEntry f.entries

-- each name of a folder or an entry is lawful
pub record HasLawfulNames (b : List Folder) : Type 0 where
  pub folders : All IsNamedFolder b
