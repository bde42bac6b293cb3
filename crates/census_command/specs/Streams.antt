-- The streams of a command, by one value before and one after.
use Rattle.std.specs.Prelude.{◌≡◌, ◌⊎◌, ℕ, Bool, true, false, List}
use Rattle.watched.specs.Streams.{PutsBytes, Sink, Streams}
use Rattle.census_faults.specs.Explanations.{AreLines}

-- neither standard input nor standard output has failed
pub record HasSoundStreams (s : Streams) : Type 0 where
  pub read : s.input.failed ≡ false
  pub write : s.output.failed ≡ false

-- nothing was read or written, and neither stream has failed
pub record IsUntouched (before after : Streams) : Type 0 where
  pub unread : after.input.unread ≡ before.input.unread
  pub written : after.output.written ≡ before.output.written
  pub sound : HasSoundStreams after

-- nothing was written, and neither stream has failed
pub record WritesNothing (before after : Streams) : Type 0 where
  pub written : after.output.written ≡ before.output.written
  pub sound : HasSoundStreams after

-- standard input has failed, and nothing was written
pub record ReadFails (before after : Streams) : Type 0 where
  pub written : after.output.written ≡ before.output.written
  pub read : after.input.failed ≡ true
  pub write : after.output.failed ≡ false

-- standard output has failed, and standard input has not
pub record WriteFails (after : Streams) : Type 0 where
  pub read : after.input.failed ≡ false
  pub write : after.output.failed ≡ true

-- standard input or standard output has failed
abbrev pub HasFailed : Streams → Type 0
HasFailed s = (s.input.failed ≡ true) ⊎ (s.output.failed ≡ true)

-- the streams after, as they were before anything was reported on standard error
abbrev pub untold : Streams → Streams → Streams
untold before after = record after { errors = before.errors }

-- where faults are explained, what is said beside what was done was reported: whole lines; otherwise nothing
abbrev pub TellsBeside : Bool → Sink → Sink → Type 0
TellsBeside true before after = (lines : List ℕ) × AreLines lines × PutsBytes lines before after
TellsBeside false before after = after ≡ before
