-- Folders that were read, and the losses.
use Rattle.std.specs.Prelude.{◌≡◌, ◌⊎◌, ℕ, ◌<◌, ◌≤◌, ◌∷◌, [], ◌++◌, true, false, List, length, Option, Some, None, Result, Ok, Err, IsOk, MatchBool, if◌then◌else◌}
use Rattle.std.specs.List.{FoldsTo}
use Rattle.census_bundle.specs.Entries.{entry_of, lost_entry}
use Rattle.census_bundle.specs.Growing.{last_entries, with_entry, with_folder}
use Rattle.census_bundle.specs.Names.{is_name}
use Rattle.census_bundle.specs.Sizes.{count_limit, input_limit}
use Rattle.census_folders.specs.declared.fault.SourceFault.{SourceFault}
use Rattle.census_folders.specs.declared.loss.Cause.{Cause}
use Rattle.census_folders.specs.declared.loss.Cause.TheVariants.{BadName, Unread, TooLong}
use Rattle.census_folders.specs.declared.loss.Loss.{Loss}
use Rattle.census_folders.specs.declared.loss.OnLoss.{OnLoss}
use Rattle.census_folders.specs.declared.loss.OnLoss.TheVariants.{Stop, Keep}
use Rattle.census_folders.specs.declared.reading.Kept.{Kept}
use Rattle.census_folders.specs.Listings.{IsChosen}
use Rattle.census_folders.specs.Losses.{EndsAmong, StopsAt, last_place, lost_at}
use Rattle.census_folders.specs.Paths.{path_of}
use Rattle.census_folders.specs.Sums.{Fits, limit_after, most_of}
use Rattle.census_folders.specs.Tellings.{Tellings}
use Rattle.census_folders.specs.Told.{Told, GivesTold, MayExceed, MayFail}
use Rattle.census_folders.specs.Walks.{IsUnread}

-- # Files

-- the text of a file, or the cause of its loss: it can't be read, or has more bytes than may still be read
abbrev pub GivesText : Told → Option ℕ → Result (List ℕ) Cause → Type 0
GivesText told left (Ok text) = GivesTold told text × Fits left (length text) × (length text ≤ input_limit)
GivesText told left (Err (Unread why)) = MayFail told why
GivesText told left (Err TooLong) = MayExceed (most_of left) told
GivesText told left (Err BadName) = ⊥

-- a file or a folder was left out, and is a loss without an entry
abbrev pub without : List ℕ → Cause → Kept → Kept
without path cause old = record old { lost = old.lost ++ lost_at path cause ∷ [] }

-- an entry with this text was added, for which there was room
pub record AddsEntry (name text : List ℕ) (old new : Kept) : Type 0 where
  pub room : length (last_entries old.bundle) < count_limit
  pub added : new ≡ record { bundle = with_entry old.bundle (entry_of name text); lost = old.lost; left = limit_after old.left (length text) }

-- an entry without a text was added, for which there was room, and its loss
pub record AddsLost (path name : List ℕ) (cause : Cause) (old new : Kept) : Type 0 where
  pub room : length (last_entries old.bundle) < count_limit
  pub bundle : new.bundle ≡ with_entry old.bundle (lost_entry name)
  pub lost : new.lost ≡ old.lost ++ record { path = path; cause = cause; entry = Some (last_place new.bundle) } ∷ []
  pub left : new.left ≡ old.left

-- The file of this path and name was added to the last folder. Where its text is lost, it is an entry without one, and where
-- its name isn't lawful, it is left out. In both cases reading continues past a loss.
abbrev pub AddsText : OnLoss → List ℕ → List ℕ → Result (List ℕ) Cause → Kept → Kept → Type 0
AddsText on_loss path name (Ok text) old new = MatchBool (is_name name) (AddsEntry name text old new) ((on_loss ≡ Keep) × (new ≡ without path BadName old))
AddsText on_loss path name (Err cause) old new = (on_loss ≡ Keep) × MatchBool (is_name name) (AddsLost path name cause old new) (new ≡ without path cause old)

-- the file of this name in a folder was read and added
pub record KeepsFile (on_loss : OnLoss) (told : Told) (folder name : List ℕ) (old new : Kept) : Type 0 where
  pub text : Result (List ℕ) Cause
  pub gives : GivesText told old.left text
  pub added : AddsText on_loss (path_of folder name) name text old new

-- the loss of a file of this path and name, if it is one: by its text first, and then by its name
abbrev pub loss_of : List ℕ → List ℕ → Result (List ℕ) Cause → Option Loss
loss_of path name (Ok text) = if is_name name then None else Some (lost_at path BadName)
loss_of path name (Err cause) = Some (lost_at path cause)

-- this is the loss where the file of this name in a folder is read
pub record LosesFile (told : Told) (folder name : List ℕ) (old : Kept) (loss : Loss) : Type 0 where
  pub text : Result (List ℕ) Cause
  pub gives : GivesText told old.left text
  pub is : loss_of (path_of folder name) name text ≡ Some loss

-- there is no room for a file of this name in the last folder
abbrev pub IsFullFor : List ℕ → Kept → Type 0
IsFullFor name old = (is_name name ≡ true) × (count_limit ≤ length (last_entries old.bundle))

-- The file of this name is read, and there is no room for it. Where reading ends at the first loss, its text is not lost.
pub record IsFull (on_loss : OnLoss) (told : Told) (name : List ℕ) (old : Kept) : Type 0 where
  pub full : IsFullFor name old
  pub text : Result (List ℕ) Cause
  pub gives : GivesText told old.left text
  pub read : on_loss ≡ Stop → IsOk text

-- the reasons why a file is not added
abbrev pub StopsFile : OnLoss → Told → List ℕ → List ℕ → Kept → SourceFault → Type 0
StopsFile on_loss told folder name old = StopsAt on_loss (LosesFile told folder name old) (IsFull on_loss told name old)

-- # Folders

-- the last folder, without an entry so far
abbrev pub with_empty : List ℕ → Kept → Kept
with_empty word old = record old { bundle = with_folder old.bundle word }

-- the pattern files of these names were added in order
abbrev pub KeepsFiles : OnLoss → (List ℕ → Told) → List ℕ → Kept → List (List ℕ) → Kept → Type 0
KeepsFiles on_loss held word = FoldsTo (λ old name new. KeepsFile on_loss (held name) word name old new)

-- the folder was listed, and its pattern files were added in the order of the bytes of their names
pub record KeepsListed (on_loss : OnLoss) (shelf : Tellings) (word : List ℕ) (old new : Kept) : Type 0 where
  pub listing : List ℕ
  pub lists : GivesTold (shelf.listed word) listing
  pub names : List (List ℕ)
  pub chosen : IsChosen listing names
  pub files : KeepsFiles on_loss (shelf.held word) word old names new

-- the folder can't be listed: it has no entry, and reading continues past that loss
abbrev pub KeepsUnlisted : OnLoss → Tellings → List ℕ → Kept → Kept → Type 0
KeepsUnlisted on_loss shelf word old new =
    (on_loss ≡ Keep) × (loss : Loss) × IsUnread (shelf.listed word) word loss × (new ≡ record old { lost = old.lost ++ loss ∷ [] })

-- the files of the folder were added to the last folder
abbrev pub FillsFolder : OnLoss → Tellings → List ℕ → Kept → Kept → Type 0
FillsFolder on_loss shelf word old new = KeepsListed on_loss shelf word old new ⊎ KeepsUnlisted on_loss shelf word old new

-- a folder was added, for which there was room
pub record AddsFolder (on_loss : OnLoss) (shelf : Tellings) (word : List ℕ) (old new : Kept) : Type 0 where
  pub room : length old.bundle < count_limit
  pub filled : FillsFolder on_loss shelf word (with_empty word old) new

-- the folder with this path was added, or was left out where the path isn't a lawful name
abbrev pub KeepsFolder : OnLoss → Tellings → Kept → List ℕ → Kept → Type 0
KeepsFolder on_loss shelf old word new = MatchBool (is_name word) (AddsFolder on_loss shelf word old new) ((on_loss ≡ Keep) × (new ≡ without word BadName old))

-- the folder was listed, and its pattern files were added up to one that was not
pub record StopsInFolder (on_loss : OnLoss) (shelf : Tellings) (word : List ℕ) (old : Kept) (fault : SourceFault) : Type 0 where
  pub listing : List ℕ
  pub lists : GivesTold (shelf.listed word) listing
  pub names : List (List ℕ)
  pub chosen : IsChosen listing names
  pub file : EndsAmong (λ old name. KeepsFile on_loss (shelf.held word name) word name old) (λ old name. StopsFile on_loss (shelf.held word name) word name old) old names fault

-- the reasons why the files of a folder are not added: it can't be listed, or one of them is not added
abbrev pub StopsFilling : OnLoss → Tellings → List ℕ → Kept → SourceFault → Type 0
StopsFilling on_loss shelf word old fault =
    StopsAt on_loss (IsUnread (shelf.listed word) word) ⊥ fault ⊎ StopsInFolder on_loss shelf word old fault

-- the reasons why a folder is not added: its name isn't lawful, there is no room for it, or its files are not added
abbrev pub StopsFolder : OnLoss → Tellings → Kept → List ℕ → SourceFault → Type 0
StopsFolder on_loss shelf old word fault =
    StopsAt on_loss (λ loss. (is_name word ≡ false) × (loss ≡ lost_at word BadName)) ((is_name word ≡ true) × (count_limit ≤ length old.bundle)) fault
    ⊎ ((is_name word ≡ true) × (length old.bundle < count_limit) × StopsFilling on_loss shelf word (with_empty word old) fault)

-- # Several folders

-- nothing has been read, these are the losses on the way, and `limit` bytes may be read in all, where there is a limit
abbrev pub kept_at_start : Option ℕ → List Loss → Kept
kept_at_start limit lost = record { bundle = []; lost = lost; left = limit }
