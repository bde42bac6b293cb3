-- What was read so far, and where reading stops.
use Rattle.std.proofs.Common.{◌≡◌, ℕ, ◌+◌, ◌<◌, Bool, true, false, MatchBool, List, [], ◌∷◌, ◌++◌, length, take, get_or, Vec, Global, Bor, Result, Ok, Err, IsOk, MatchResult, Some, sym, ap, ◌∙◌, arith}
use Rattle.std.specs.List.{FoldsTo}
use Rattle.std.proofs.lemmas.Fn.{FoldsTo-push}
use Rattle.std.proofs.lemmas.List.{get_or-map, length-map, map_more, take-map}
use Rattle.std.proofs.lemmas.Option.{slice_get-get_or}
use Rattle.census_bundle.specs.declared.bundle.Entry.{Entry}
use Rattle.census_bundle.specs.declared.bundle.Folder.{Folder}
use Rattle.census_bundle.specs.Entries.{entry_of, lost_entry}
use Rattle.census_bundle.specs.Growing.{on_last_of, with_entry, with_one_more}
use Rattle.census_bundle.specs.Names.{is_name}
use Rattle.census_folders.specs.declared.fault.SourceFault.{SourceFault}
use Rattle.census_folders.specs.declared.fault.SourceFault.TheVariants.{Lost, Unnamed, TooMany, Memory}
use Rattle.census_folders.specs.declared.loss.Cause.{Cause}
use Rattle.census_folders.specs.declared.loss.Cause.TheVariants.{BadName}
use Rattle.census_folders.specs.declared.loss.OnLoss.{OnLoss}
use Rattle.census_folders.specs.declared.loss.OnLoss.TheVariants.{Stop, Keep}
use Rattle.census_folders.specs.declared.reading.Kept.{Kept}
use Rattle.census_folders.specs.Listings.{IsChosen}
use Rattle.census_folders.specs.Losses.{EndsAmong, StopsAt}
use Rattle.census_folders.specs.Paths.{path_of}
use Rattle.census_folders.specs.Reading.{AddsEntry, AddsLost, AddsText, GivesText, IsFullFor, KeepsFile, KeepsFiles, KeepsFolder, StopsFile, StopsFolder, StopsInFolder, loss_of, without}
use Rattle.census_folders.specs.Tellings.{Tellings}
use Rattle.census_folders.specs.Told.{Told, GivesTold}
use Rattle.census_folders.proofs.Listings.{bytes_of, words_of}

-- # There is still a folder

open_of : (f : Folder → Folder) (x : Folder) (xs : List Folder) → 0 < length (on_last_of f x xs)
open_of f x [] = omega arith
open_of f x (y ∷ ys) = omega arith

open_with : (b : List Folder) (e : Entry) → 0 < length b → 0 < length (with_entry b e)
open_with [] e some = absurd (omega arith)
open_with (f ∷ fs) e some = open_of (with_one_more e) f fs

open_text : (lawful : Bool) (on_loss : OnLoss) (path name text : List ℕ) (old new : Kept) → MatchBool lawful (AddsEntry name text old new) ((on_loss ≡ Keep) × (new ≡ without path BadName old)) → 0 < length old.bundle → 0 < length new.bundle
open_text true on_loss path name text old new more some = rw more.added (open_with old.bundle (entry_of name text) some)
open_text false on_loss path name text old new more some = rw more.1 some

open_lost : (lawful : Bool) (path name : List ℕ) (cause : Cause) (old new : Kept) → MatchBool lawful (AddsLost path name cause old new) (new ≡ without path cause old) → 0 < length old.bundle → 0 < length new.bundle
open_lost true path name cause old new more some = rw more.bundle (open_with old.bundle (lost_entry name) some)
open_lost false path name cause old new more some = rw more some

open_added : (on_loss : OnLoss) (path name : List ℕ) (text : Result (List ℕ) Cause) (old new : Kept) → AddsText on_loss path name text old new → 0 < length old.bundle → 0 < length new.bundle
open_added on_loss path name (Ok text) old new more some = open_text (is_name name) on_loss path name text old new more some
open_added on_loss path name (Err cause) old new more some = open_lost (is_name name) path name cause old new more.1 some

pub still_open : (on_loss : OnLoss) (told : Told) (folder name : List ℕ) (old new : Kept) → KeepsFile on_loss told folder name old new → 0 < length old.bundle → 0 < length new.bundle
still_open on_loss told folder name old new more some = open_added on_loss (path_of folder name) name more.text old new more.added some

-- # Files

pub next_kept : (on_loss : OnLoss) (held : List ℕ → Told) (word : List ℕ) (names : List (Vec ℕ Global)) (i : ℕ) (name : Vec ℕ Global) (text : List ℕ) (start mid new : Kept) → i < length names → name ≡ get_or names i name → text ≡ name.items
    → KeepsFiles on_loss held word start (bytes_of (take i names)) mid → KeepsFile on_loss (held text) word text mid new → KeepsFiles on_loss held word start (bytes_of (take (i + 1) names)) new
next_kept on_loss held word names i name text start mid new within at is before more =
    let next : bytes_of (take (i + 1) names) ≡ bytes_of (take i names) ++ text ∷ [] = map_more (λ n. n.items) names i name within ∙ ap (λ t. bytes_of (take i names) ++ t ∷ []) (sym (is ∙ ap (λ n. n.items) at)) in
    rw next (FoldsTo-push (λ k n l. KeepsFile on_loss (held n) word n k l) start (bytes_of (take i names)) mid text new before more)

pub stops_in_folder : (on_loss : OnLoss) (shelf : Tellings) (word : List ℕ) (names : List (Vec ℕ Global)) (i : ℕ) (name : Vec ℕ Global) (text listing : List ℕ) (old mid : Kept) (fault : SourceFault)
    → i < length names → name ≡ get_or names i name → text ≡ name.items → GivesTold (shelf.listed word) listing → IsChosen listing (bytes_of names)
    → KeepsFiles on_loss (shelf.held word) word old (bytes_of (take i names)) mid → StopsFile on_loss (shelf.held word text) word text mid fault → StopsInFolder on_loss shelf word old fault
stops_in_folder on_loss shelf word names i name text listing old mid fault within at is lists chosen before why =
    let item : get_or (bytes_of names) i text ≡ text = get_or-map (λ n. n.items) names i name text within ∙ sym (is ∙ ap (λ n. n.items) at) in
    record {
      listing = listing;
      lists = lists;
      names = bytes_of names;
      chosen = chosen;
      file = record {
        place = i;
        item = text;
        is = slice_get-get_or (bytes_of names) i text (omega (arith, length-map names (λ n. n.items))) ∙ ap (λ n. Some n) item;
        kept = mid;
        before = rw take-map before;
        why = why;
      };
    }

-- a file of this text was added, or not
pub with_text : {A : Type 0} (on_loss : OnLoss) (told : Told) (folder name : List ℕ) (old new : Kept) (text : Result (List ℕ) Cause) (Many : Type 0) (r : Result A SourceFault) → GivesText told old.left text
    → (Many → IsFullFor name old × (on_loss ≡ Stop → IsOk text))
    → MatchResult r (λ _. AddsText on_loss (path_of folder name) name text old new) (StopsAt on_loss (λ loss. loss_of (path_of folder name) name text ≡ Some loss) Many)
    → MatchResult r (λ _. KeepsFile on_loss told folder name old new) (StopsFile on_loss told folder name old)
with_text on_loss told folder name old new text Many (Ok x) gives full adds = record { text = text; gives = gives; added = adds }
with_text on_loss told folder name old new text Many (Err (Lost loss)) gives full why = (why.0, record { text = text; gives = gives; is = why.1 })
with_text on_loss told folder name old new text Many (Err (Unnamed cause)) gives full why = (why.0, why.1, record { text = text; gives = gives; is = why.2 })
with_text on_loss told folder name old new text Many (Err TooMany) gives full why = record { full = (full why).0; text = text; gives = gives; read = (full why).1 }
with_text on_loss told folder name old new text Many (Err Memory) gives full why = tt

-- # Folders

pub next_folder : (on_loss : OnLoss) (shelf : Tellings) (words : List (Bor (List ℕ))) (i : ℕ) (d : Bor (List ℕ)) (start mid new : Kept) → i < length words
    → FoldsTo (KeepsFolder on_loss shelf) start (words_of (take i words)) mid → KeepsFolder on_loss shelf mid (get_or words i d).now new → FoldsTo (KeepsFolder on_loss shelf) start (words_of (take (i + 1) words)) new
next_folder on_loss shelf words i d start mid new within before more =
    rw (map_more (λ s. s.now) words i d within) (FoldsTo-push (KeepsFolder on_loss shelf) start (words_of (take i words)) mid (get_or words i d).now new before more)

pub stops_reading : (on_loss : OnLoss) (shelf : Tellings) (words : List (Bor (List ℕ))) (i : ℕ) (d : Bor (List ℕ)) (start mid : Kept) (fault : SourceFault) → i < length words
    → FoldsTo (KeepsFolder on_loss shelf) start (words_of (take i words)) mid → StopsFolder on_loss shelf mid (get_or words i d).now fault → EndsAmong (KeepsFolder on_loss shelf) (StopsFolder on_loss shelf) start (words_of words) fault
stops_reading on_loss shelf words i d start mid fault within before why =
    let word = (get_or words i d).now in
    record {
      place = i;
      item = word;
      is = slice_get-get_or (words_of words) i word (omega (arith, length-map words (λ s. s.now))) ∙ ap (λ w. Some w) (get_or-map (λ s. s.now) words i d word within);
      kept = mid;
      before = rw take-map before;
      why = why;
    }
