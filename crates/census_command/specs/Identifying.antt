-- What patterns are, reported with the names of codes.
use Rattle.std.specs.Prelude.{◌≡◌, ◌⊎◌, ℕ, Bool, true, false, List, [], ◌∷◌, Option, None, Some, Ok, Err}
use Rattle.watched.specs.Streams.{Streams}
use Rattle.census_identify.specs.declared.blocks.inquiry.Inquiry.{Inquiry}
use Rattle.census_facts.specs.declared.form.Form.{Form}
use Rattle.census_facts.specs.declared.form.Form.TheVariants as facts
use Rattle.census_folders.specs.Told.{Told}
use Rattle.census_folders.specs.Hearing.{Hears}
use Rattle.census_identify.specs.Identifies.{Identifies}
use Rattle.census_folders.specs.declared.heard.Heard.TheVariants as heard
use Rattle.census_facts.specs.NameLines.{names_in}
use Rattle.census_facts.specs.Names.{Entry}
use Rattle.census_errors.specs.Explained.{TellsFault}
use Rattle.census_errors.specs.Files.{file_in}
use Rattle.census_folders.specs.declared.unread.ShelfFault.{ShelfFault}
use Rattle.census_reports.specs.Errors.{status_of}
use Rattle.census_reports.specs.Texts.{RefusesWord}
use Rattle.census_reports.specs.declared.error.ReportsError.{ReportsError}
use Rattle.census_reports.specs.declared.error.ReportsError.TheVariants.{Memory, Names, Unread}
use Rattle.census_command.specs.Streams.{untold}

-- the form of an answer
abbrev pub form_told : Bool → Form
form_told true = facts.Json
form_told false = facts.Lines

-- a word has this text, which was read, and nothing was written or reported
abbrev pub ReadsText : (List ℕ → Told) → List ℕ → List ℕ → Streams → Streams → Type 0
ReadsText held word text before after =
    Hears held word (heard.Text text) before.input after.input
    × (after.output ≡ before.output) × (after.errors ≡ before.errors)

-- the text has no names, for this error
abbrev pub HasNoNames : ReportsError → List ℕ → Type 0
HasNoNames (Names line) text = names_in text ≡ Err line
HasNoNames Memory text = Unit {0}
HasNoNames error text = ⊥

-- these are the names in the text of a word, which was read, and nothing was written or reported
abbrev pub ReadsNames : (List ℕ → Told) → List ℕ → List Entry → Streams → Streams → Type 0
ReadsNames held word names before after =
    (text : List ℕ) × ReadsText held word text before after × (names_in text ≡ Ok names)

-- the text of a word was not read, for this fault, and nothing was written or reported
abbrev pub LacksText : ShelfFault → (List ℕ → Told) → List ℕ → Streams → Streams → Type 0
LacksText fault held word before after =
    RefusesWord fault held word before.input after.input
    × (after.output ≡ before.output) × (after.errors ≡ before.errors)

-- the text of a word was not read, or it was and has no names
abbrev pub LacksNames : ReportsError → (List ℕ → Told) → List ℕ → Streams → Streams → Type 0
LacksNames error held word before after =
    ((fault : ShelfFault) × (error ≡ Unread 1 fault) × LacksText fault held word before after)
    ⊎ ((text : List ℕ) × ReadsText held word text before after × HasNoNames error text)

-- The names in the text of a word were read, and then what the patterns of these files are was reported.
pub record IdentifiesWith (held : List ℕ → Told) (inquiry : Inquiry) (word : List ℕ) (files : List (List ℕ))
    (status : ℕ) (before after : Streams) : Type 0 where
  pub names : List Entry
  -- the streams once the names were read
  pub reached : Streams
  pub read : ReadsNames held word names before reached
  pub identifies : Identifies held inquiry names files status reached after

-- There are no names, for an error that was reported.
pub record MissesNames (held : List ℕ → Told) (word : List ℕ) (explain : Bool) (status : ℕ)
    (before after : Streams) : Type 0 where
  pub error : ReportsError
  pub status_is : status ≡ status_of error
  pub why : LacksNames error held word before (untold before after)
  -- its line names its file
  pub told : TellsFault (file_in (Some word) (word ∷ []) error) error explain before.errors after.errors

-- what patterns are was reported, with the names in the text of a word, or with none where there is no word
abbrev pub TellsPatterns : (List ℕ → Told) → Inquiry → Option (List ℕ) → List (List ℕ) → Bool → ℕ → Streams → Streams → Type 0
TellsPatterns held inquiry None files explain status before after =
    Identifies held inquiry [] files status before after
TellsPatterns held inquiry (Some word) files explain status before after =
    IdentifiesWith held inquiry word files status before after ⊎ MissesNames held word explain status before after
