-- Losses, and the places where reading ends.
use Rattle.std.specs.Prelude.{◌≡◌, ℕ, [], ◌∷◌, ◌++◌, List, length, take, slice_get, None, Some}
use Rattle.std.specs.List.{FoldsTo}
use Rattle.census_bundle.specs.declared.bundle.Folder.{Folder}
use Rattle.census_bundle.specs.declared.ticket.Ticket.{Ticket}
use Rattle.census_bundle.specs.Growing.{last_entries}
use Rattle.census_folders.specs.declared.fault.SourceFault.{SourceFault}
use Rattle.census_folders.specs.declared.fault.SourceFault.TheVariants.{Lost, Unnamed, TooMany, Memory}
use Rattle.census_folders.specs.declared.loss.Cause.{Cause}
use Rattle.census_folders.specs.declared.loss.Loss.{Loss}
use Rattle.census_folders.specs.declared.loss.OnLoss.{OnLoss}
use Rattle.census_folders.specs.declared.loss.OnLoss.TheVariants.{Stop, Keep}

-- a loss without an entry
abbrev pub lost_at : List ℕ → Cause → Loss
lost_at path cause = record { path = path; cause = cause; entry = None }

-- the place of the last entry of the last folder
abbrev pub last_place : List Folder → Ticket
last_place b = record { folder = length b; number = length (last_entries b) }

-- reading continues past one more loss
abbrev pub Loses : OnLoss → Loss → List Loss → List Loss → Type 0
Loses on_loss loss before after = (on_loss ≡ Keep) × (after ≡ before ++ loss ∷ [])

-- this is the first of several losses
abbrev pub IsFirst : List Loss → Loss → Type 0
IsFirst lost loss = (more : List Loss) × (lost ≡ loss ∷ more)

-- A process that goes from item to item ends at this place: the items before it lead from the start to the state that is kept,
-- and at the item at this place the process ends with `end`.
pub record EndsAmong {S A F : Type 0} (Goes : S → A → S → Type 0) (Ends : S → A → F → Type 0) (start : S) (items : List A) (end : F) : Type 0 where
  pub place : ℕ
  pub item : A
  pub is : slice_get items place ≡ Some item
  pub kept : S
  pub before : FoldsTo Goes start (take place items) kept
  pub why : Ends kept item end

-- The reasons why reading stops: a loss of this kind, where it ends at the first loss (without memory for its path, only the
-- cause is reported); too many folders or files, where `many` holds; or out of memory.
abbrev pub StopsAt : OnLoss → (Loss → Type 0) → Type 0 → SourceFault → Type 0
StopsAt on_loss IsAt many (Lost loss) = (on_loss ≡ Stop) × IsAt loss
StopsAt on_loss IsAt many (Unnamed cause) = (on_loss ≡ Stop) × (path : List ℕ) × IsAt (lost_at path cause)
StopsAt on_loss IsAt many TooMany = many
StopsAt on_loss IsAt many Memory = Unit {0}
