-- The promises of a shelf about the names in a folder or the content of a file, and the results of reading under them.
use Rattle.std.specs.Prelude.{◌≡◌, ℕ, ℤ, ◌<◌, false, List, length, Option, None, IfNone}
use Rattle.watched.specs.declared.reading.ReadFault.{ReadFault}
use Rattle.watched.specs.declared.reading.ReadFault.TheVariants as reads
use Rattle.census_folders.specs.declared.unread.ShelfFault.{ShelfFault}
use Rattle.census_folders.specs.declared.unread.ShelfFault.TheVariants as shelf
use Rattle.census_folders.specs.declared.unread.Unread as unread

-- No promise, or the reason why it can't be read, or its bytes. The bytes of a folder are its names, each ended by a byte 0.
pub data Told : Type 0 where
  Untold : Told
  Unreadable : (why : unread.Unread) → Told
  Holds : (bytes : List ℕ) → Told

-- the cause where the system gives none
abbrev pub silent : unread.Unread
silent = record { code = None; is_file = false }

-- This is the system's message for an error that has a number, if there is memory for it; otherwise there is none.
abbrev pub IsSystemWord : Option ℤ → Option (List ℕ) → Type 0
IsSystemWord code word = IfNone code (word ≡ None)

-- the fault of a shelf, by that of a reader
abbrev pub shelf_fault_of : ReadFault → ShelfFault
shelf_fault_of reads.Read = shelf.Unread silent
shelf_fault_of reads.TooLong = shelf.TooLong
shelf_fault_of reads.Memory = shelf.Memory

-- a reading that returns these bytes returns what the shelf promises
abbrev pub GivesTold : Told → List ℕ → Type 0
GivesTold Untold bytes = Unit {0}
GivesTold (Unreadable why) bytes = ⊥
GivesTold (Holds all) bytes = bytes ≡ all

-- a reading may fail for this reason
abbrev pub MayFail : Told → unread.Unread → Type 0
MayFail Untold why = Unit {0}
MayFail (Unreadable reason) why = why ≡ reason
MayFail (Holds bytes) why = ⊥

-- there may be more bytes than this
abbrev pub MayExceed : ℕ → Told → Type 0
MayExceed limit Untold = Unit {0}
MayExceed limit (Unreadable why) = ⊥
MayExceed limit (Holds bytes) = limit < length bytes

-- the reasons why a file of at most `limit` bytes is not read
abbrev pub RefusesFile : ℕ → Told → ShelfFault → Type 0
RefusesFile limit told (shelf.Unread why) = MayFail told why
RefusesFile limit told shelf.TooLong = MayExceed limit told
RefusesFile limit told shelf.Memory = Unit {0}

-- the reasons why a folder is not listed
abbrev pub RefusesList : Told → ShelfFault → Type 0
RefusesList told (shelf.Unread why) = MayFail told why
RefusesList told shelf.TooLong = ⊥
RefusesList told shelf.Memory = Unit {0}
