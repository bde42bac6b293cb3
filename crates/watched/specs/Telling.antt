-- Bytes that are put to a watched writer through a block.
use Rattle.std.specs.Prelude.{◌≡◌, ℕ, Bool, List, ◌++◌, Option, MatchBool}
use Rattle.std.specs.Io.KnownBytes.{Appends}
use Rattle.watched.specs.Watching.{AppendsFront}
use Rattle.watched.specs.Streams.{Sink, Watched}
use Rattle.watched.specs.declared.block.Block.{Block}

-- the bytes of a block
abbrev pub pending_of : Block → List ℕ
pending_of block = block.bytes.items

-- a writer and its block: the bytes that were written, if they are known, those that are still to be written, and true if it
-- has failed
pub record Sheet : Type 0 where
  pub written : Option (List ℕ)
  pub pending : List ℕ
  pub failed : Bool

abbrev pub sheet : {W : Type 0} → Block → Watched Sink W → Sheet
sheet block writer = record { written = writer.stream.written; pending = pending_of block; failed = writer.stream.failed }

-- The bytes that were put after the first ones, by what was written: all but those of the block, and a prefix of them if the
-- writer has failed.
abbrev pub IsToldAfter : Option (List ℕ) → List ℕ → Sheet → Type 0
IsToldAfter first bytes s =
    MatchBool s.failed (AppendsFront first s.written bytes)
    ((front : List ℕ) × (bytes ≡ front ++ s.pending) × Appends first s.written front)

-- these bytes are put after whatever was put before
unfoldable pub TellsAfter : List ℕ → Sheet → Sheet → Type 0
TellsAfter bytes before after =
    (first : Option (List ℕ)) (told : List ℕ) → IsToldAfter first told before → IsToldAfter first (told ++ bytes) after

-- a prefix of these bytes is put
pub record TellsFront (bytes : List ℕ) (before after : Sheet) : Type 0 where
  pub front : List ℕ
  pub rest : List ℕ
  pub whole : bytes ≡ front ++ rest
  pub tells : TellsAfter front before after
