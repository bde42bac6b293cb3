-- Where reading ends at the first loss, nothing is lost.
use Rattle.std.proofs.Common.{◌≡◌, ℕ, Bool, true, false, MatchBool, List, [], ◌∷◌, ◌++◌, Result, Ok, Err, inl, inr, suc, refl, sym, ap, ◌∙◌, arith, append-nil}
use Rattle.std.specs.List.{All, FoldsTo}
use Rattle.census_bundle.specs.Names.{is_name}
use Rattle.census_folders.specs.declared.loss.Cause.{Cause}
use Rattle.census_folders.specs.declared.loss.Cause.TheVariants.{BadName}
use Rattle.census_folders.specs.declared.loss.Loss.{Loss}
use Rattle.census_folders.specs.declared.loss.OnLoss.{OnLoss}
use Rattle.census_folders.specs.declared.loss.OnLoss.TheVariants.{Stop, Keep}
use Rattle.census_folders.specs.declared.reading.Kept.{Kept}
use Rattle.census_folders.specs.Paths.{path_of}
use Rattle.census_folders.specs.Reading.{AddsEntry, AddsFolder, AddsText, FillsFolder, KeepsFiles, KeepsFolder, with_empty, without}
use Rattle.census_folders.specs.Sources.{Asked, FindsFolders, Reads}
use Rattle.census_folders.specs.Tellings.{Tellings}
use Rattle.census_folders.specs.Told.{Told}
use Rattle.census_folders.specs.Trees.{AddsTree, Planted}
use Rattle.census_folders.specs.Walks.{IsVisit, Visit, lost_below}
use Rattle.census_folders.proofs.Reaches.{never}

module _ (on_loss : OnLoss) (stop : on_loss ≡ Stop) (shelf : Tellings) where
  quiet_text : (path name : List ℕ) (text : Result (List ℕ) Cause) (old new : Kept) → AddsText on_loss path name text old new → new.lost ≡ old.lost
  quiet_text path name (Ok text) old new adds = case (is_name name) adds
    where
      case : (lawful : Bool) → MatchBool lawful (AddsEntry name text old new) ((on_loss ≡ Keep) × (new ≡ without path BadName old)) → new.lost ≡ old.lost
      case true entry = ap (λ (k : Kept). k.lost) entry.added
      case false left = never on_loss left.0 stop
  quiet_text path name (Err cause) old new adds = never on_loss adds.0 stop

  quiet_files : (held : List ℕ → Told) (word : List ℕ) (names : List (List ℕ)) (old new : Kept) → KeepsFiles on_loss held word old names new → new.lost ≡ old.lost
  quiet_files held word [] old new same = ap (λ (k : Kept). k.lost) (sym same)
  quiet_files held word (name ∷ names) old new (mid, file, files) =
      quiet_files held word names mid new files ∙ quiet_text (path_of word name) name file.text old mid file.added

  quiet_filling : (word : List ℕ) (old new : Kept) → FillsFolder on_loss shelf word old new → new.lost ≡ old.lost
  quiet_filling word old new (inl listed) = quiet_files (shelf.held word) word listed.names old new listed.files
  quiet_filling word old new (inr unlisted) = never on_loss unlisted.0 stop

  quiet_folder : (word : List ℕ) (old new : Kept) → KeepsFolder on_loss shelf old word new → new.lost ≡ old.lost
  quiet_folder word old new keeps = case (is_name word) keeps
    where
      case : (lawful : Bool) → MatchBool lawful (AddsFolder on_loss shelf word old new) ((on_loss ≡ Keep) × (new ≡ without word BadName old)) → new.lost ≡ old.lost
      case true adds = quiet_filling word (with_empty word old) new adds.filled
      case false left = never on_loss left.0 stop

  quiet_folders : (words : List (List ℕ)) (old new : Kept) → FoldsTo (KeepsFolder on_loss shelf) old words new → new.lost ≡ old.lost
  quiet_folders [] old new same = ap (λ (k : Kept). k.lost) (sym same)
  quiet_folders (word ∷ words) old new (mid, folder, folders) = quiet_folders words mid new folders ∙ quiet_folder word old mid folder

  quiet_visits : (visits : List Visit) → All (IsVisit on_loss shelf) visits → lost_below visits ≡ []
  quiet_visits [] told = refl
  quiet_visits (v ∷ visits) told =
      let first : IsVisit on_loss shelf v = told 0 v (omega arith) in
      let others : All (IsVisit on_loss shelf) visits = λ k d within. told (suc k) d (omega arith) in
      ap (λ (ls : List Loss). ls ++ lost_below visits) (first.allowed stop) ∙ quiet_visits visits others

  quiet_trees : (words : List (List ℕ)) (old new : Planted) → FoldsTo (AddsTree on_loss shelf) old words new → new.lost ≡ old.lost
  quiet_trees [] old new same = ap (λ (p : Planted). p.lost) (sym same)
  quiet_trees (word ∷ words) old new (mid, tree, trees) =
      quiet_trees words mid new trees ∙ tree.holds.losses ∙ ap (λ (ls : List Loss). old.lost ++ ls) (quiet_visits tree.holds.visits tree.holds.told) ∙ append-nil old.lost

  quiet_way : (below : Bool) (words folders : List (List ℕ)) (way : List Loss) → FindsFolders on_loss shelf below words folders way → way ≡ []
  quiet_way true words folders way found = quiet_trees words (record { folders = []; lost = [] }) (record { folders = folders; lost = way }) found
  quiet_way false words folders way found = found.1

pub nothing_lost : (shelf : Tellings) (asked : Asked) (kept : Kept) → asked.on_loss ≡ Stop → Reads shelf asked kept → kept.lost ≡ []
nothing_lost shelf asked kept stop reads =
    quiet_folders asked.on_loss stop shelf reads.folders (record { bundle = []; lost = reads.way; left = asked.limit }) kept reads.reads
    ∙ quiet_way asked.on_loss stop shelf asked.below asked.words reads.folders reads.way reads.found
