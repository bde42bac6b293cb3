-- The text that a collector has released.
use Rattle.std.specs.Prelude.{◌≡◌, ℕ, List, [], ◌∷◌, ◌++◌, Option, None, Some, take, length, ◌==◌}
use Rattle.census_bundle.specs.declared.bundle.Folder.{Folder}
use Rattle.census_bundle.specs.Tickets.{Tickets, element_at}
use Rattle.census_format.specs.Lines.{Group, open_line, pattern_lines}
use Rattle.census_format.specs.Reports.{Owned, lines_of, owned_text, has_all, end_if, run_of, closing_if}
use Rattle.life_answer.specs.declared.question.Question.{Question}

-- the lines of a collection that are released once its first k patterns have arrived
abbrev pub shown_lines : Question → ℕ → Folder → ℕ → List Group
shown_lines question c f k = open_line c f ∷ (take k (pattern_lines question c 1 f.entries) ++ closing_if (k == length f.entries) question c f)

abbrev pub shown_of : Question → ℕ → Option Folder → Tickets → List Group
shown_of question c None taken = []
shown_of question c (Some f) taken = shown_lines question c f (run_of taken c f)

-- the lines of the collection c that are released once these tickets are taken
abbrev pub lines_released : List Folder → Question → Tickets → ℕ → List Group
lines_released b question taken c = shown_of question c (element_at b c) taken

-- The text is the lines that are released once these tickets are taken, interleaved line by line. The lines of one pattern stay
-- together.
pub record IsReleased (b : List Folder) (question : Question) (taken : Tickets) (text : List ℕ) : Type 0 where
  pub groups : List Owned
  pub sections : (c : ℕ) → lines_of c groups ≡ lines_released b question taken c
  pub whole : text ≡ owned_text groups ++ end_if (has_all b taken) b
