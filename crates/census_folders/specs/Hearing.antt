-- The content of a file, or of standard input.
use Rattle.std.specs.Prelude.{◌≡◌, ℕ, ◌≤◌, Bool, true, false, List, [], ◌∷◌, length, codes, Result, Ok, Err, None, Vec, alloc_error, IfSome, MatchBool}
use Rattle.std.specs.declared.alloc.AllocError.{AllocError}
use Rattle.std.specs.Global.{Global}
use Rattle.std.specs.Str.{bytes_eq}
use Rattle.std.specs.Io.KnownBytes.{Consumes, IsAtEnd}
use Rattle.watched.specs.Watching.{ConsumesMoreThan}
use Rattle.watched.specs.declared.reading.ReadFault.{ReadFault}
use Rattle.watched.specs.declared.reading.ReadFault.TheVariants as reads
use Rattle.census_bundle.specs.Sizes.{input_limit}
use Rattle.census_folders.specs.Told.{Told, GivesTold, IsSystemWord, MayExceed, MayFail}
use Rattle.census_folders.specs.declared.unread.Unread as unread
use Rattle.watched.specs.Streams.{Reader}
use Rattle.census_folders.specs.declared.heard.Heard.{Heard}
use Rattle.census_folders.specs.declared.heard.Heard.TheVariants.{Text, TooLong, Unread}

-- true where an argument means standard input
abbrev pub is_input : List ℕ → Bool
is_input word = bytes_eq word (codes "-")

-- the content, by the result of a reading
abbrev pub heard_of : Result (Vec ℕ Global) ReadFault → Result Heard AllocError
heard_of (Ok bytes) = Ok (Text bytes.items)
heard_of (Err reads.TooLong) = Ok TooLong
heard_of (Err reads.Read) = Ok (Unread None)
heard_of (Err reads.Memory) = Err alloc_error

-- the content that a file may have under this promise
abbrev pub HearsFile : Told → Heard → Type 0
HearsFile told (Text bytes) = GivesTold told bytes × (length bytes ≤ input_limit)
HearsFile told TooLong = MayExceed input_limit told
HearsFile told (Unread word) = (why : unread.Unread) × MayFail told why × IsSystemWord why.code word

-- the text is all that the reader had left, up to its end, and within the limit
pub record ReadsText (text : List ℕ) (before after : Reader) : Type 0 where
  pub within : length text ≤ input_limit
  pub consumed : Consumes before.unread after.unread text
  pub end : IsAtEnd after.unread
  pub whole : IfSome before.unread (λ all. text ≡ all)
  pub sound : after.failed ≡ false

-- more was read than one text may have
pub record ReadsTooMuch (before after : Reader) : Type 0 where
  pub consumed : ConsumesMoreThan input_limit before.unread after.unread
  pub sound : after.failed ≡ false

-- the content of standard input: it is unread where it has failed
abbrev pub HearsInput : Heard → Reader → Reader → Type 0
HearsInput (Text bytes) before after = ReadsText bytes before after
HearsInput TooLong before after = ReadsTooMuch before after
HearsInput (Unread word) before after = (word ≡ None) × (after.failed ≡ true)

-- The content that an argument names, under these promises about files by their paths. Nothing is read from standard input for
-- a file.
abbrev pub Hears : (List ℕ → Told) → List ℕ → Heard → Reader → Reader → Type 0
Hears held word heard before after =
    MatchBool (is_input word) (HearsInput heard before after) (HearsFile (held word) heard × (after ≡ before))

-- the arguments, or standard input alone where there are none
abbrev pub words_or_input : List (List ℕ) → List (List ℕ)
words_or_input [] = codes "-" ∷ []
words_or_input (word ∷ words) = word ∷ words
