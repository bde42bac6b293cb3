-- Reports are read back, whatever was asked.
use Rattle.std.proofs.Common.{ℕ, List, [], ◌∷◌}
use Rattle.std.specs.List.{AllByRecursion as Each}
use Rattle.census_bundle.specs.declared.bundle.Folder.{Folder}
use Rattle.census_format.specs.Reports.{IsReport, said_under}
use Rattle.life_answer.specs.Questions.{IsAnswered}
use Rattle.life_answer.specs.declared.question.Question.{Question}
use Rattle.life_answer.specs.declared.question.Question.TheVariants.{Objects, Settles}
use Rattle.census_merge.proofs.Readable.{report-read}
use Rattle.census_merge.specs.Lawful.{AreLawful}
use Rattle.census_merge.proofs.Under.{said-lawful, said-sayable}
use Rattle.census_merge.specs.Joining.{AreAnswered, AreBundles, Asked, IsBundle, all_said}
use Rattle.census_merge.specs.Ranges.{InRange, Readable}
use Rattle.census_merge.proofs.BoundsLemmas.ObjectRanges.{objects_in_range}
use Rattle.census_merge.proofs.BoundsLemmas.SettledRanges.{settled-in-range}

pub all-in-range : (question : Question) → IsAnswered question → (b : List Folder) → IsBundle b → InRange b question
all-in-range (Settles bound cells) answered b bundle = settled-in-range bound cells answered b bundle.0
all-in-range (Objects bound cells near horizon) answered b bundle = objects_in_range bound cells near horizon answered b bundle.0

-- what is said of a bundle is lawful
pub bundle-lawful : (question : Question) → IsAnswered question → (b : List Folder) → IsBundle b → AreLawful (said_under question b)
bundle-lawful question answered b bundle = (said-sayable question b bundle, said-lawful question b (all-in-range question answered b bundle))

pub asked-lawful : (asked : List Asked) → AreAnswered asked → AreBundles asked → Each AreLawful (all_said asked)
asked-lawful [] answered bundles = tt
asked-lawful (a ∷ asked) answered bundles = (bundle-lawful a.question answered.0 a.bundle bundles.0, asked-lawful asked answered.1 bundles.1)

pub all-read : (question : Question) → IsAnswered question → (b : List Folder) (text : List ℕ) → IsBundle b → IsReport b question text → Readable text
all-read question answered b text bundle report =
    let lawful = bundle-lawful question answered b bundle in
    report-read (said_under question b) lawful.0 lawful.1 text report
