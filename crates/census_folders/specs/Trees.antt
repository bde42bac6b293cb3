-- The folders at and below several paths, tree by tree, and the losses on the way to them.
use Rattle.std.specs.Prelude.{◌≡◌, ℕ, [], ◌++◌, List}
use Rattle.std.specs.List.{FoldsTo}
use Rattle.census_folders.specs.declared.loss.Loss.{Loss}
use Rattle.census_folders.specs.declared.loss.OnLoss.{OnLoss}
use Rattle.census_folders.specs.Losses.{EndsAmong}
use Rattle.census_folders.specs.Tellings.{Tellings}
use Rattle.census_folders.specs.Walks.{HoldsTree, LosesInTree}

-- folders that were found, and the losses on the way to them
pub record Planted : Type 0 where
  pub folders : List (List ℕ)
  pub lost : List Loss

-- the folders at and below a path, and the losses on the way to them, come after those of the paths before it
pub record AddsTree (on_loss : OnLoss) (shelf : Tellings) (old : Planted) (word : List ℕ) (new : Planted) : Type 0 where
  pub tree : List (List ℕ)
  pub holds : HoldsTree on_loss shelf word tree old.lost new.lost
  pub added : new.folders ≡ old.folders ++ tree

-- These are the folders at and below each of the paths, in the order of the paths, and the losses on the way to them.
abbrev pub HoldsTrees : OnLoss → Tellings → List (List ℕ) → List (List ℕ) → List Loss → Type 0
HoldsTrees on_loss shelf words folders lost =
    FoldsTo (AddsTree on_loss shelf) (record { folders = []; lost = [] }) words (record { folders = folders; lost = lost })

-- the trees of the paths before this place were found; in that of the path at this place this is the loss
abbrev pub LosesInTrees : OnLoss → Tellings → List (List ℕ) → Loss → Type 0
LosesInTrees on_loss shelf words loss =
    EndsAmong (AddsTree on_loss shelf) (λ found word. LosesInTree on_loss shelf word) (record { folders = []; lost = [] }) words loss
