-- The text that a writer has written.
use Rattle.std.specs.Prelude.{ℕ, List, Result, MatchResult, ◌≡◌, ◌++◌, false}
use Rattle.std.specs.List.{flat_map}
use Rattle.std.specs.declared.alloc.Global.{Global}
use Rattle.std.specs.declared.vec.Vec.{Vec}
use Rattle.csv.specs.Records.{Row, fields_of}
use Rattle.csv.specs.Writing.{default_writer, fields_written, has_written, row_text, writer_pending, writer_setup, writer_under}
use Rattle.csv.specs.declared.writer.Writer.{Writer}
use Rattle.watched.specs.Telling.{Sheet, TellsAfter, TellsFront}

-- the text is put, or if memory runs out a prefix of it
abbrev pub Puts : {A B : Type 0} → List ℕ → Result A B → Sheet → Sheet → Type 0
Puts text result before after = MatchResult result (λ _. TellsAfter text before after) (λ _. TellsFront text before after)

-- the text is put except for its last bytes, which are still held
pub record TellsBut (text held : List ℕ) (before after : Sheet) : Type 0 where
  pub done : List ℕ
  pub whole : text ≡ done ++ held
  pub tells : TellsAfter done before after

-- records, as the crate `csv` writes them by default
abbrev pub records_text : List Row → List ℕ
records_text records = flat_map (λ row. row_text default_writer (fields_of row)) records

-- the text so far
abbrev pub text_written : Writer (Vec ℕ Global) → List ℕ
text_written writer = (writer_under writer).items ++ writer_pending writer

-- with the default setup, and with no record begun
pub record IsBetweenRecords (writer : Writer (Vec ℕ Global)) : Type 0 where
  pub fields : fields_written writer ≡ 0
  pub wrote : has_written writer ≡ false
  pub setup : writer_setup writer ≡ default_writer
