-- The progress of each collection.
use Rattle.std.specs.Prelude.{◌≡◌, ℕ, ◌+◌, ◌<◌, ◌≤◌, List, length, Some, slice_get, slice_index, if◌then◌else◌, ◌==◌}
use Rattle.census_bundle.specs.declared.bundle.Folder.{Folder}
use Rattle.census_bundle.specs.declared.ticket.Ticket.{Ticket}
use Rattle.census_bundle.specs.Tickets.{Tickets, element_at, with_ticket}
use Rattle.census_format.specs.Reports.{run_of, text_released}
use Rattle.life_answer.specs.declared.question.Question.{Question}

-- the run of each collection, and the first collection that has not arrived whole, or the number of collections
pub record IsFront (b : List Folder) (taken : Tickets) (runs : List ℕ) (first : ℕ) : Type 0 where
  pub each : length runs ≡ length b
  pub run : (k : ℕ) (f : Folder) → slice_get b k ≡ Some f → slice_index runs k ≡ run_of taken (1 + k) f
  pub whole : (k : ℕ) → k < first → (f : Folder) → slice_get b k ≡ Some f → run_of taken (1 + k) f ≡ length f.entries
  pub within : first ≤ length b
  pub part : (f : Folder) → slice_get b first ≡ Some f → run_of taken (1 + first) f ≡ length f.entries → ⊥

-- the number of a collection, and its run
pub record FolderRun : Type 0 where
  pub folder : ℕ
  pub run : ℕ

-- the runs of the collections, where `come` has that of one of them
abbrev pub run_at : List ℕ → FolderRun → ℕ → ℕ
run_at runs come k = if k + 1 == come.folder then come.run else slice_index runs k

-- the first collection, from `from` on, that is not whole, where `come` has the run of one collection
pub record IsNextOpen (b : List Folder) (runs : List ℕ) (come : FolderRun) (from first : ℕ) : Type 0 where
  pub behind : from ≤ first
  pub within : first ≤ length b
  pub whole : (k : ℕ) → from ≤ k → k < first → (f : Folder) → slice_get b k ≡ Some f → run_at runs come k ≡ length f.entries
  pub part : (f : Folder) → slice_get b first ≡ Some f → run_at runs come first ≡ length f.entries → ⊥

-- a text that is released, the run of a collection then, and the first collection that is then open
pub record Effect : Type 0 where
  pub text : List ℕ
  pub run : ℕ
  pub first_open : ℕ

-- the effect of a ticket's result
pub record IsRelease (b : List Folder) (question : Question) (taken : Tickets) (runs : List ℕ) (first : ℕ) (t : Ticket) (e : Effect) : Type 0 where
  pub released : e.text ≡ text_released b question taken t
  pub come_to : (f : Folder) → element_at b t.folder ≡ Some f → e.run ≡ run_of (with_ticket taken t) t.folder f
  pub then_open : IsNextOpen b runs (record { folder = t.folder; run = e.run }) first e.first_open
