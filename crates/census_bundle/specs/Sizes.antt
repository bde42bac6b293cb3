-- The limits on the sizes of bundles and of texts that are read.
use Rattle.std.specs.Prelude.{◌≡◌, ℕ, ◌≤◌, List, length, slice_get, Some}
use Rattle.census_bundle.specs.declared.bundle.Folder.{Folder}

-- the greatest number of folders in a bundle, and of entries in a folder
abbrev pub count_limit : ℕ
count_limit = 65535

-- the greatest length of a text that is read from a file or from standard input, in bytes
abbrev pub input_limit : ℕ
input_limit = 67108864

-- the greatest length of a name, in bytes
abbrev pub name_limit : ℕ
name_limit = 255

-- the greatest number of workers of a run
abbrev pub worker_limit : ℕ
worker_limit = 16

-- there are at most 65,535 folders, each with at most 65,535 entries
pub record IsWithinCounts (b : List Folder) : Type 0 where
  pub folders : length b ≤ count_limit
  pub entries : (k : ℕ) (f : Folder) → slice_get b k ≡ Some f → length f.entries ≤ count_limit
