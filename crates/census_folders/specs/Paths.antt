-- Paths of files and folders in a folder.
use Rattle.std.specs.Prelude.{ℕ, Bool, List, ◌++◌, length, nat_eq, nat_le, codes, if◌then◌else◌}
use Rattle.std.specs.List.{ends_with, filter, slice_split}
use Rattle.census_folders.specs.Listings.{is_end}

-- the path of a name in a folder
abbrev pub path_of : List ℕ → List ℕ → List ℕ
path_of folder name = (if ends_with nat_eq folder (codes "/") then folder else folder ++ codes "/") ++ name

-- true where a list is not empty
abbrev pub is_any : {A : Type 0} → List A → Bool
is_any xs = nat_le 1 (length xs)

-- the names separated by a byte 0, without the empty ones
abbrev pub names_in : List ℕ → List (List ℕ)
names_in inner = filter is_any (slice_split is_end inner)
