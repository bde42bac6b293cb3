-- Readers and writers that remember that they failed, as one value before and one after.
use Rattle.std.specs.Prelude.{◌≡◌, ℕ, ◌≤◌, Bool, true, false, List, length, take, Option, MatchBool}
use Rattle.std.specs.Io.KnownBytes.{Appends}
use Rattle.watched.specs.Watching.{AppendsFront}

-- a reader: the bytes that it has left, if they are known, and true if it has failed
pub record Reader : Type 0 where
  pub unread : Option (List ℕ)
  pub failed : Bool

-- a writer: the bytes that were written, if they are known, and true if it has failed
pub record Sink : Type 0 where
  pub written : Option (List ℕ)
  pub failed : Bool

-- what is known of a reader or a writer, and the reader or the writer itself
pub record Watched (S T : Type 0) : Type 0 where
  pub stream : S
  pub inner : T

-- standard input, standard output and standard error
pub record Streams : Type 0 where
  pub input : Reader
  pub output : Sink
  pub errors : Sink

-- # Of one writer

-- these bytes were written, and the writer has not failed
pub record Writes (bytes : List ℕ) (before after : Sink) : Type 0 where
  pub written : Appends before.written after.written bytes
  pub sound : after.failed ≡ false

-- the writer failed, and a prefix of these bytes was written
pub record PutsPrefix (bytes : List ℕ) (before after : Sink) : Type 0 where
  pub written : AppendsFront before.written after.written bytes
  pub failed : after.failed ≡ true

-- the writer failed, and a prefix of all these bytes was written which is no shorter than the first
pub record WritesBetween (first all : List ℕ) (before after : Sink) : Type 0 where
  pub count : ℕ
  pub least : length first ≤ count
  pub most : count ≤ length all
  pub written : Appends before.written after.written (take count all)
  pub failed : after.failed ≡ true

-- these bytes were written, all of them if the writer has not failed, otherwise a prefix of them, and nothing else
abbrev pub PutsBytes : List ℕ → Sink → Sink → Type 0
PutsBytes bytes before after =
    MatchBool after.failed (AppendsFront before.written after.written bytes) (Appends before.written after.written bytes)

-- a writer that has failed is unchanged; to any other these bytes were put
abbrev pub PutsMoreBytes : List ℕ → Sink → Sink → Type 0
PutsMoreBytes bytes before after = MatchBool before.failed (after ≡ before) (PutsBytes bytes before after)
