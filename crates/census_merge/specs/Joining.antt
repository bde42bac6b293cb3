-- Reports of several bundles, each under its own question.
use Rattle.std.specs.Prelude.{ℕ, List, [], ◌∷◌, ◌++◌, map, ⊤}
use Rattle.census_bundle.specs.declared.bundle.Folder.{Folder}
use Rattle.census_bundle.specs.Names.{HasLawfulNames}
use Rattle.census_bundle.specs.Sizes.{IsWithinCounts}
use Rattle.census_format.specs.Lines.{Collection}
use Rattle.census_format.specs.Reports.{IsReportOf, said_under}
use Rattle.census_rows.specs.declared.row.Row.{Row}
use Rattle.life_answer.specs.Questions.{IsAnswered}
use Rattle.life_answer.specs.declared.question.Question.{Question}
use Rattle.census_merge.specs.Telling.{Tells}

-- the lists, one after another
abbrev pub joined : {A : Type 0} → List (List A) → List A
joined [] = []
joined (xs ∷ lists) = xs ++ joined lists

-- a bundle, and the question that is asked of it
pub record Asked : Type 0 where
  pub question : Question
  pub bundle : List Folder

-- what is said of each bundle under its question
abbrev pub all_said : List Asked → List (List Collection)
all_said asked = map (λ (a : Asked). said_under a.question a.bundle) asked

-- each report's rows say this of its collections
abbrev pub EachTells : List (List Collection) → List (List Row) → Type 0
EachTells [] [] = ⊤
EachTells (said ∷ parts) (rows ∷ reports) = Tells said rows × EachTells parts reports
EachTells _ _ = ⊥

-- what a bundle's value has: lawful names, and no more of anything than a bundle may have
abbrev pub IsBundle : List Folder → Type 0
IsBundle b = IsWithinCounts b × HasLawfulNames b

abbrev pub AreBundles : List Asked → Type 0
AreBundles [] = ⊤
AreBundles (a ∷ asked) = IsBundle a.bundle × AreBundles asked

-- each question is within its bounds
abbrev pub AreAnswered : List Asked → Type 0
AreAnswered [] = ⊤
AreAnswered (a ∷ asked) = IsAnswered a.question × AreAnswered asked

-- each text is the report of what is said
abbrev pub EachIsReportOf : List (List Collection) → List (List ℕ) → Type 0
EachIsReportOf [] [] = ⊤
EachIsReportOf (said ∷ parts) (text ∷ reports) = IsReportOf said text × EachIsReportOf parts reports
EachIsReportOf _ _ = ⊥

-- the texts, one after another
abbrev pub texts : List (List ℕ) → List ℕ
texts [] = []
texts (text ∷ reports) = text ++ texts reports
