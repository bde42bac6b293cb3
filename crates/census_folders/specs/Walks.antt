-- The folders at and below a folder.
use Rattle.std.specs.Prelude.{◌≡◌, ◌⊎◌, ℕ, [], ◌∷◌, ◌++◌, Bool, true, not, List, length, map, take, slice_get, Result, Ok, Err, Some, Vec}
use Rattle.std.specs.Global.{Global}
use Rattle.std.specs.List.{All, filter, flat_map}
use Rattle.std.specs.List.Sorted.{IsPermutation}
use Rattle.std.specs.Str.{is_utf8}
use Rattle.census_folders.specs.declared.loss.Cause.TheVariants as cause
use Rattle.census_folders.specs.declared.loss.Loss.{Loss}
use Rattle.census_folders.specs.declared.loss.OnLoss.{OnLoss}
use Rattle.census_folders.specs.declared.loss.OnLoss.TheVariants.{Stop, Keep}
use Rattle.census_folders.specs.declared.unread.Unread.{Unread}
use Rattle.census_folders.specs.Listings.{AreInOrder, pattern_names_in}
use Rattle.census_folders.specs.Losses.{IsFirst, lost_at}
use Rattle.census_folders.specs.Paths.{is_any, names_in, path_of}
use Rattle.census_folders.specs.Tellings.{Tellings}
use Rattle.census_folders.specs.Told.{Told, GivesTold, MayFail, silent}

-- # One folder

-- A folder that was walked: its path, its list, and the names of the folders in it, each ended by a byte 0; or the reason why
-- these can't be determined.
pub record Visit : Type 0 where
  pub path : List ℕ
  pub listing : Result (List ℕ) Unread
  pub inner : Result (List ℕ) Unread

-- the bytes that were returned
abbrev pub names_given : Result (Vec ℕ Global) Unread → Result (List ℕ) Unread
names_given (Ok bytes) = Ok bytes.items
names_given (Err why) = Err why

-- these are the names that the shelf promises; or they can't be determined, and the walk continues
abbrev pub GivesNames : OnLoss → Told → Result (List ℕ) Unread → Type 0
GivesNames on_loss told (Ok bytes) = GivesTold told bytes
GivesNames on_loss told (Err why) = (on_loss ≡ Keep) × MayFail told why

-- true where the folder can't be listed, or lists a name that ends in `.rle`
abbrev pub is_taken : Result (List ℕ) Unread → Bool
is_taken (Ok listing) = is_any (pattern_names_in listing)
is_taken (Err why) = true

-- the paths of the folders in a folder whose names are UTF-8
abbrev pub inner_paths : List ℕ → Result (List ℕ) Unread → List (List ℕ)
inner_paths path (Ok inner) = map (path_of path) (filter is_utf8 (names_in inner))
inner_paths path (Err why) = []

-- the losses of those of these names in a folder that are not UTF-8
abbrev pub lost_names : List ℕ → List (List ℕ) → List Loss
lost_names path names = map (λ name. lost_at (path_of path name) (cause.Unread silent)) (filter (λ name. not (is_utf8 name)) names)

-- The losses in a folder: the folders in it whose names are not UTF-8; or the folder itself, where it can be listed and the
-- folders in it can't be determined.
abbrev pub lost_in : Result (List ℕ) Unread → List ℕ → Result (List ℕ) Unread → List Loss
lost_in listing path (Ok inner) = lost_names path (names_in inner)
lost_in (Ok listing) path (Err why) = lost_at path (cause.Unread why) ∷ []
lost_in (Err unlisted) path (Err why) = []

-- where reading ends at the first loss, there are no losses
abbrev pub AreAllowed : OnLoss → List Loss → Type 0
AreAllowed on_loss lost = on_loss ≡ Stop → lost ≡ []

-- according to the shelf, the folder has this list and these folders in it
pub record IsVisit (on_loss : OnLoss) (shelf : Tellings) (v : Visit) : Type 0 where
  pub lists : GivesNames on_loss (shelf.listed v.path) v.listing
  pub holds : GivesNames on_loss (shelf.inner v.path) v.inner
  pub allowed : AreAllowed on_loss (lost_in v.listing v.path v.inner)

-- by the shelf's promise, a folder may be unreadable, and this is its loss
abbrev pub IsUnread : Told → List ℕ → Loss → Type 0
IsUnread told path loss = (why : Unread) × MayFail told why × (loss ≡ lost_at path (cause.Unread why))

-- this is the loss of the first of the folders in a folder whose name is not UTF-8
abbrev pub IsFirstInner : List ℕ → Result (List ℕ) Unread → Loss → Type 0
IsFirstInner path (Ok inner) loss = IsFirst (lost_names path (names_in inner)) loss
IsFirstInner path (Err why) loss = ⊥

-- the folders in a folder can't be determined, or this is the loss of the first of them whose name is not UTF-8
abbrev pub LosesInner : Told → List ℕ → Loss → Type 0
LosesInner told path loss =
    IsUnread told path loss ⊎ ((inner : List ℕ) × GivesTold told inner × IsFirst (lost_names path (names_in inner)) loss)

-- the first loss of the walk in a folder: it can't be listed; or it is listed, and not all the folders in it can be determined
abbrev pub LosesVisit : Tellings → List ℕ → Loss → Type 0
LosesVisit shelf path loss =
    IsUnread (shelf.listed path) path loss
    ⊎ ((listing : List ℕ) × GivesTold (shelf.listed path) listing × LosesInner (shelf.inner path) path loss)

-- # Several folders

abbrev pub paths : List Visit → List (List ℕ)
paths visits = map (λ v. v.path) visits

-- the paths of the folders in those that were walked
abbrev pub paths_below : List Visit → List (List ℕ)
paths_below visits = flat_map (λ v. inner_paths v.path v.inner) visits

-- the losses in the folders that were walked
abbrev pub lost_below : List Visit → List Loss
lost_below visits = flat_map (λ v. lost_in v.listing v.path v.inner) visits

-- The folder with this path was walked, and each folder in one that was walked. The folders are exactly those of them that
-- can't be listed or that list a name that ends in `.rle`, in the order of their paths' bytes. The losses come after those
-- before.
pub record HoldsTree (on_loss : OnLoss) (shelf : Tellings) (word : List ℕ) (folders : List (List ℕ)) (before after : List Loss) : Type 0 where
  pub visits : List Visit
  pub told : All (IsVisit on_loss shelf) visits
  pub whole : paths visits ≡ word ∷ paths_below visits
  pub same : IsPermutation (paths (filter (λ v. is_taken v.listing) visits)) folders
  pub order : AreInOrder folders
  pub losses : after ≡ before ++ lost_below visits

-- The folders before this one were walked without a loss; in this one this is the loss.
pub record LosesInTree (on_loss : OnLoss) (shelf : Tellings) (word : List ℕ) (loss : Loss) : Type 0 where
  pub visits : List Visit
  pub told : All (IsVisit on_loss shelf) visits
  pub order : paths visits ≡ take (length visits) (word ∷ paths_below visits)
  pub path : List ℕ
  pub is : slice_get (word ∷ paths_below visits) (length visits) ≡ Some path
  pub why : LosesVisit shelf path loss

-- # Growing

-- the folder was walked: its folders come after those that were found, and its losses after those before
pub record AddsVisit (on_loss : OnLoss) (shelf : Tellings) (path : List ℕ) (old new : List (List ℕ)) (before after : List Loss) (taken : Bool) : Type 0 where
  pub visit : Visit
  pub at : visit.path ≡ path
  pub told : IsVisit on_loss shelf visit
  pub added : new ≡ old ++ inner_paths visit.path visit.inner
  pub losses : after ≡ before ++ lost_in visit.listing visit.path visit.inner
  pub has : taken ≡ is_taken visit.listing
