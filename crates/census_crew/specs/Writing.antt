-- The text in a writer while a collector's text is written to it.
use Rattle.std.specs.Prelude.{◌≡◌, ℕ, List, ◌++◌, Option}
use Rattle.std.specs.Io.KnownBytes.{Appends}
use Rattle.census_bundle.specs.declared.bundle.Folder.{Folder}
use Rattle.census_format.specs.Reports.{IsReport, IsReportFront}
use Rattle.census_book.specs.Progress.{Progress}
use Rattle.census_book.specs.Released.{IsReleased}
use Rattle.life_answer.specs.declared.question.Question.{Question}

-- a report of the bundle was written
pub record WritesReport (old new : Option (List ℕ)) (b : List Folder) (question : Question) : Type 0 where
  pub text : List ℕ
  pub report : IsReport b question text
  pub written : Appends old new text

-- a prefix of a report of the bundle was written
pub record WritesPrefix (old new : Option (List ℕ)) (b : List Folder) (question : Question) : Type 0 where
  pub text : List ℕ
  pub front : IsReportFront b question text
  pub written : Appends old new text

-- the text that was written, followed by the unsent text, is what the collector has released
pub record IsInStep (old new : Option (List ℕ)) (p : Progress) : Type 0 where
  pub text : List ℕ
  pub released : IsReleased p.bundle p.question p.taken (text ++ p.unsent)
  pub written : Appends old new text

-- the bundle and the question stay, and whatever was in step before is so afterwards
pub record StaysInStep (old : Option (List ℕ)) (p : Progress) (new : Option (List ℕ)) (q : Progress) : Type 0 where
  pub same_bundle : q.bundle ≡ p.bundle
  pub same_question : q.question ≡ p.question
  pub in_step : (base : Option (List ℕ)) → IsInStep base old p → IsInStep base new q

-- whatever was in step before, a prefix of the report is in the writer afterwards
pub record StopsInStep (old : Option (List ℕ)) (p : Progress) (new : Option (List ℕ)) : Type 0 where
  pub front : (base : Option (List ℕ)) → IsInStep base old p → WritesPrefix base new p.bundle p.question

-- whatever was in step before, a report is in the writer afterwards
pub record EndsInStep (old : Option (List ℕ)) (p : Progress) (new : Option (List ℕ)) : Type 0 where
  pub report : (base : Option (List ℕ)) → IsInStep base old p → WritesReport base new p.bundle p.question
