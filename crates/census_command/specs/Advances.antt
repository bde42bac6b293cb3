-- What `advance` reads and writes, and what each of its errors says.
use Rattle.std.specs.Prelude.{◌≡◌, ℕ, ◌≤◌, List, length, Ok, Option, None, Some, IfSome, []}
use Rattle.watched.specs.Streams.{Streams}
use Rattle.watched.specs.Watching.{AppendsFront, ConsumesMoreThan}
use Rattle.census_bundle.specs.Sizes.{input_limit}
use Rattle.census_crew.specs.Bytes.{ReadsText}
use Rattle.life_answer.specs.Limited.{first_past}
use Rattle.life_model.specs.Rule.{Rule}
use Rattle.life_model.specs.Generation.{Generation}
use Rattle.life_model.specs.Evolution.{generation}
use Rattle.life_text.specs.Picture.{Picture, picture_of}
use Rattle.life_text.specs.Rle.{reading, refusal}
use Rattle.life_text.specs.RleText.{rle_text}
use Rattle.census_folders.specs.Told.{GivesTold, MayExceed, MayFail}
use Rattle.census_folders.specs.Tellings.{Tellings}
use Rattle.census_command.specs.Streams.{IsUntouched, ReadFails, WriteFails, WritesNothing}
use Rattle.census_errors.specs.declared.advance_error.AdvanceError.{AdvanceError}
use Rattle.census_errors.specs.declared.advance_error.AdvanceError.TheVariants.{Text, TooManyCells, TooLong, Memory, Read, Write}

-- # A text

-- A text means a pattern, none of whose generations from 0 to n has more cells than the limit, where there is one. What is
-- written is the text of generation n.
pub record IsAdvanced (text : List ℕ) (n : ℕ) (limit : Option ℕ) (written : List ℕ) : Type 0 where
  pub pattern : Picture
  pub means : picture_of (reading text) ≡ Ok pattern
  pub small : first_past limit pattern.rule pattern.cells n ≡ None
  pub is : written ≡ rle_text pattern.rule (generation pattern.rule pattern.cells n)

-- why it is refused: for its fault, or for the first generation that has more cells than the limit
abbrev pub RefusesText : AdvanceError → List ℕ → ℕ → Option ℕ → Type 0
RefusesText (Text fault told spot) text n limit = refusal text ≡ Some fault
RefusesText (TooManyCells most at) text n limit =
    (limit ≡ Some most)
    × ((pattern : Picture) × (picture_of (reading text) ≡ Ok pattern) × (first_past limit pattern.rule pattern.cells n ≡ Some at))
RefusesText error text n limit = ⊥

-- # The streams

-- The text is that of standard input, read to its end. Or there is a file: according to the shelf it is the text of that, and
-- nothing was read from standard input.
abbrev pub Takes : Tellings → Option (List ℕ) → List ℕ → Streams → Streams → Type 0
Takes shelf None text before after = ReadsText before.input.unread after.input.unread text
Takes shelf (Some path) text before after =
    GivesTold (shelf.held [] path) text × (length text ≤ input_limit) × (after.input.unread ≡ before.input.unread)

-- The text of generation n of what was taken was written, or only a prefix, as `Puts` says: as much as the writer took.
pub record AdvancesBy (Puts : Option (List ℕ) → Option (List ℕ) → List ℕ → Type 0) (shelf : Tellings) (file : Option (List ℕ))
    (n : ℕ) (limit : Option ℕ) (before after : Streams) : Type 0 where
  pub text : List ℕ
  pub later : List ℕ
  pub taken : Takes shelf file text before after
  pub advanced : IsAdvanced text n limit later
  pub written : Puts before.output.written after.output.written later

-- more was read than one text may have
abbrev pub ReadsTooMuch : Streams → Streams → Type 0
ReadsTooMuch before after = ConsumesMoreThan input_limit before.input.unread after.input.unread

-- Why generation n was not written. Where the writer didn't fail, nothing was.
abbrev pub AdvanceFails : AdvanceError → Tellings → Option (List ℕ) → ℕ → Option ℕ → Streams → Streams → Type 0
AdvanceFails TooLong shelf None n limit before after = ReadsTooMuch before after × WritesNothing before after
AdvanceFails TooLong shelf (Some path) n limit before after =
    MayExceed input_limit (shelf.held [] path) × IsUntouched before after
AdvanceFails Memory shelf file n limit before after =
    IfSome file (λ path. after.input.unread ≡ before.input.unread) × WritesNothing before after
AdvanceFails (Read why) shelf None n limit before after = ReadFails before after
AdvanceFails (Read why) shelf (Some path) n limit before after = MayFail (shelf.held [] path) why × IsUntouched before after
AdvanceFails Write shelf file n limit before after = AdvancesBy AppendsFront shelf file n limit before after × WriteFails after
AdvanceFails error shelf file n limit before after =
    (text : List ℕ) × Takes shelf file text before after × RefusesText error text n limit × WritesNothing before after

-- # What the parts that advance return

-- there is no generation n of a set: memory was refused, or one up to it has more cells than the limit
abbrev pub Outgrows : AdvanceError → Rule → Generation → ℕ → Option ℕ → Type 0
Outgrows (TooManyCells most at) R G n limit = (limit ≡ Some most) × (first_past limit R G n ≡ Some at)
Outgrows Memory R G n limit = Unit {0}
Outgrows error R G n limit = ⊥

-- there is no text: memory was refused, or the given one is refused
abbrev pub LacksText : AdvanceError → List ℕ → ℕ → Option ℕ → Type 0
LacksText Memory text n limit = Unit {0}
LacksText error text n limit = RefusesText error text n limit
