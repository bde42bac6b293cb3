-- The promises of a shelf that folders and files are read from, as one value.
use Rattle.std.specs.Prelude.{ℕ, List}
use Rattle.census_folders.specs.Told.{Told, Untold}

-- the names in each folder, the folders in it, and the content of each file in it, as far as the shelf promises them
pub record Tellings : Type 0 where
  pub listed : List ℕ → Told
  pub inner : List ℕ → Told
  pub held : List ℕ → List ℕ → Told

-- the promises of a disk, of which there are none
abbrev pub tells_nothing : Tellings
tells_nothing = record { listed = λ _. Untold; inner = λ _. Untold; held = λ _ _. Untold }
