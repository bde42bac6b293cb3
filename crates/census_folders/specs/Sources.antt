-- The collections of folders, and of those below them, and the losses.
use Rattle.std.specs.Prelude.{◌≡◌, ◌⊎◌, ℕ, [], Bool, true, false, List, Option, map}
use Rattle.std.specs.List.{FoldsTo}
use Rattle.census_folders.specs.declared.fault.SourceFault.{SourceFault}
use Rattle.census_folders.specs.declared.loss.Loss.{Loss}
use Rattle.census_folders.specs.declared.loss.OnLoss.{OnLoss}
use Rattle.census_folders.specs.declared.reading.Kept.{Kept}
use Rattle.census_folders.specs.declared.source.Source.{Source}
use Rattle.census_folders.specs.Losses.{EndsAmong, StopsAt}
use Rattle.census_folders.specs.Reading.{KeepsFolder, StopsFolder, kept_at_start}
use Rattle.census_folders.specs.Tellings.{Tellings}
use Rattle.census_folders.specs.Trees.{HoldsTrees, LosesInTrees}

-- The folders to be read: their paths; whether those below them are read too; the greatest number of bytes that their files may
-- have in all, where there is a limit; and the reaction to a loss.
pub record Asked : Type 0 where
  pub words : List (List ℕ)
  pub below : Bool
  pub limit : Option ℕ
  pub on_loss : OnLoss

abbrev pub asked_by : Source → Asked
asked_by source = record { words = map (λ s. s.now) source.words.now; below = source.below; limit = source.limit; on_loss = source.on_loss }

-- the folders of the arguments, or those at and below them where these are read too, and the losses on the way
abbrev pub FindsFolders : OnLoss → Tellings → Bool → List (List ℕ) → List (List ℕ) → List Loss → Type 0
FindsFolders on_loss shelf true words folders lost = HoldsTrees on_loss shelf words folders lost
FindsFolders on_loss shelf false words folders lost = (folders ≡ words) × (lost ≡ [])

-- These folders were read with these losses, according to the shelf: first on the way to folders, then in them.
pub record Reads (shelf : Tellings) (asked : Asked) (kept : Kept) : Type 0 where
  pub folders : List (List ℕ)
  pub way : List Loss
  pub found : FindsFolders asked.on_loss shelf asked.below asked.words folders way
  pub reads : FoldsTo (KeepsFolder asked.on_loss shelf) (kept_at_start asked.limit way) folders kept

-- the folders were found, and read up to one that was not
pub record StopsReading (shelf : Tellings) (asked : Asked) (fault : SourceFault) : Type 0 where
  pub folders : List (List ℕ)
  pub way : List Loss
  pub found : FindsFolders asked.on_loss shelf asked.below asked.words folders way
  pub why : EndsAmong (KeepsFolder asked.on_loss shelf) (StopsFolder asked.on_loss shelf) (kept_at_start asked.limit way) folders fault

-- The reasons why the folders were not read. Where reading ends at the first loss, everything before it was read, and it is
-- this loss.
abbrev pub Stops : Tellings → Asked → SourceFault → Type 0
Stops shelf asked fault =
    StopsAt asked.on_loss (λ loss. (asked.below ≡ true) × LosesInTrees asked.on_loss shelf asked.words loss) ⊥ fault
    ⊎ StopsReading shelf asked fault
