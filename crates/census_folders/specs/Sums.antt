-- The number of bytes that may be read in all, where there is a limit.
use Rattle.std.specs.Prelude.{ℕ, ◌-◌, ◌≤◌, List, length, Option, IfSome, min}
use Rattle.std.specs.List.{sum_by}
use Rattle.std.specs.Option.{option_map, option_map_or}
use Rattle.census_bundle.specs.declared.bundle.Entry.{Entry}
use Rattle.census_bundle.specs.declared.bundle.Folder.{Folder}
use Rattle.census_bundle.specs.Sizes.{input_limit}

-- the number of bytes of the texts of these entries
abbrev pub bytes_in : List Entry → ℕ
bytes_in entries = sum_by (λ e. length e.text) entries

-- the number of bytes of all texts of these folders
abbrev pub bytes_of_all : List Folder → ℕ
bytes_of_all folders = sum_by (λ f. bytes_in f.entries) folders

-- `count` bytes may still be read
abbrev pub Fits : Option ℕ → ℕ → Type 0
Fits left count = IfSome left (λ left. count ≤ left)

-- the number of bytes that may still be read after `count` bytes
abbrev pub limit_after : Option ℕ → ℕ → Option ℕ
limit_after left count = option_map (λ left. left - count) left

-- the greatest number of bytes of the next file
abbrev pub most_of : Option ℕ → ℕ
most_of left = option_map_or (λ left. min left input_limit) left input_limit
