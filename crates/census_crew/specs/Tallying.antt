-- The counts of a run.
use Rattle.std.specs.Prelude.{◌≡◌, ℕ, ◌+◌, true, List}
use Rattle.census_bundle.specs.declared.bundle.Folder.{Folder}
use Rattle.census_bundle.specs.Tickets.{Tickets}
use Rattle.life_answer.specs.declared.finding.Answer.{Answer}
use Rattle.census_book.specs.Counts.{count_of, one_if, taken_count}
use Rattle.census_format.specs.Lines.{is_refused, is_resolved, is_unresolved, pattern_count}
use Rattle.census_crew.specs.declared.tally.Tally.{Tally}
use Rattle.life_answer.specs.declared.question.Question.{Question}

-- the tally before anything is counted
abbrev pub no_tally : Tally
no_tally = record { patterns = 0; resolved = 0; unresolved = 0; refused = 0; doubles = 0; strangers = 0; caught_up = 0 }

-- the tally with one more pattern, which has this answer
abbrev pub tally_with : Tally → Answer → Tally
tally_with t a = record {
  patterns = t.patterns + 1;
  resolved = t.resolved + one_if (is_resolved a);
  unresolved = t.unresolved + one_if (is_unresolved a);
  refused = t.refused + one_if (is_refused a);
  doubles = t.doubles;
  strangers = t.strangers;
  caught_up = t.caught_up;
}

-- the patterns of these tickets were counted, in all and by their answers
pub record TalliesTaken (t : Tally) (b : List Folder) (question : Question) (taken : Tickets) : Type 0 where
  pub patterns : t.patterns ≡ taken_count (λ a. true) b question taken
  pub resolved : t.resolved ≡ taken_count is_resolved b question taken
  pub unresolved : t.unresolved ≡ taken_count is_unresolved b question taken
  pub refused : t.refused ≡ taken_count is_refused b question taken

-- all patterns were counted, in all and by their answers: those with an `ok`, a `none` and a `bad` line
pub record TalliesPatterns (b : List Folder) (question : Question) (t : Tally) : Type 0 where
  pub patterns : t.patterns ≡ pattern_count b
  pub resolved : t.resolved ≡ count_of is_resolved b question
  pub unresolved : t.unresolved ≡ count_of is_unresolved b question
  pub refused : t.refused ≡ count_of is_refused b question
