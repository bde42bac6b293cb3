-- The input and output of `census identify`, argument by argument.
use Rattle.std.specs.Prelude.{◌≡◌, ◌⊎◌, ℕ, ◌+◌, List, [], ◌∷◌, ◌++◌}
use Rattle.watched.specs.Watching.{ConsumesAtMost}
use Rattle.census_identify.specs.declared.blocks.inquiry.Inquiry.{Inquiry}
use Rattle.census_facts.specs.Names.{Entry}
use Rattle.census_bundle.specs.Sizes.{input_limit}
use Rattle.census_folders.specs.Hearing.{words_or_input}
use Rattle.census_folders.specs.Told.{Told}
use Rattle.census_identify.specs.Errors.{error_line, error_status}
use Rattle.census_identify.specs.Hearing.{Hearing, HearsEach, heard_words, told_words}
use Rattle.watched.specs.Streams.{PutsBytes, Reader, Streams, Writes, WritesBetween}
use Rattle.census_identify.specs.Telling.{AreTold, blocks_text, lines_text, status_of}
use Rattle.census_identify.specs.declared.error.IdentifyError.{IdentifyError}
use Rattle.census_identify.specs.declared.error.IdentifyError.TheVariants.{Memory, Write}

-- The content of each argument was read, in their order. Their blocks went to standard output and their lines to standard
-- error, and this is the greatest status of a line.
pub record TellsAll (held : List ℕ → Told) (inquiry : Inquiry) (names : List Entry) (words : List (List ℕ)) (status : ℕ) (before after : Streams) : Type 0 where
  pub heard : List Hearing
  pub words_are : words ≡ heard_words heard
  pub hears : HearsEach held heard before.input after.input
  pub told : AreTold inquiry names heard
  pub blocks : Writes (blocks_text inquiry.form (told_words heard)) before.output after.output
  pub lines : PutsBytes (lines_text (told_words heard)) before.errors after.errors
  pub status_is : status ≡ status_of (told_words heard)

-- Memory ran out at an argument. The arguments before it were reported, and then this last line.
pub record LacksMemory (last : List ℕ) (held : List ℕ → Told) (inquiry : Inquiry) (names : List Entry) (words : List (List ℕ)) (before after : Streams) : Type 0 where
  pub heard : List Hearing
  pub word : List ℕ
  pub left : List (List ℕ)
  pub words_are : words ≡ heard_words heard ++ word ∷ left
  -- standard input as the arguments before it left it
  pub reached : Reader
  pub hears : HearsEach held heard before.input reached
  pub told : AreTold inquiry names heard
  pub taken : ConsumesAtMost (input_limit + 1) reached.unread after.input.unread
  pub blocks : Writes (blocks_text inquiry.form (told_words heard)) before.output after.output
  pub lines : PutsBytes (lines_text (told_words heard) ++ last) before.errors after.errors

-- Standard output failed at the block of an argument: the output is a prefix of the blocks up to that one, and the blocks
-- before it are whole. The lines up to that argument were written, and then this last line.
pub record LosesOutput (last : List ℕ) (held : List ℕ → Told) (inquiry : Inquiry) (names : List Entry) (words : List (List ℕ)) (before after : Streams) : Type 0 where
  pub heard : List Hearing
  pub next : Hearing
  pub left : List (List ℕ)
  pub words_are : words ≡ heard_words heard ++ next.word ∷ left
  pub hears : HearsEach held (heard ++ next ∷ []) before.input after.input
  pub told : AreTold inquiry names (heard ++ next ∷ [])
  pub blocks : WritesBetween (blocks_text inquiry.form (told_words heard)) (blocks_text inquiry.form (told_words (heard ++ next ∷ []))) before.output after.output
  pub lines : PutsBytes (lines_text (told_words (heard ++ next ∷ [])) ++ last) before.errors after.errors

-- the input and output until this error ended the report, with this line written last
abbrev pub Stops : IdentifyError → List ℕ → (List ℕ → Told) → Inquiry → List Entry → List (List ℕ) → Streams → Streams → Type 0
Stops Memory last held inquiry names words before after = LacksMemory last held inquiry names words before after
Stops Write last held inquiry names words before after = LosesOutput last held inquiry names words before after

-- an error ended the report, and its line was written
pub record FailsToIdentify (held : List ℕ → Told) (inquiry : Inquiry) (names : List Entry) (words : List (List ℕ)) (status : ℕ) (before after : Streams) : Type 0 where
  pub error : IdentifyError
  pub status_is : status ≡ error_status error
  pub stops : Stops error (error_line error) held inquiry names words before after

-- Each argument was reported, or an error ended the report. Without arguments standard input is reported.
abbrev pub Identifies : (List ℕ → Told) → Inquiry → List Entry → List (List ℕ) → ℕ → Streams → Streams → Type 0
Identifies held inquiry names words status before after =
    TellsAll held inquiry names (words_or_input words) status before after ⊎ FailsToIdentify held inquiry names (words_or_input words) status before after
