-- The input and output of a run over a bundle text.
use Rattle.std.specs.Prelude.{◌≡◌, ◌≢◌, ◌≤◌, ◌⊎◌, ℕ, Bool, true, false, List, length, Option, None, Some, Result, Ok, Err, IfSome}
use Rattle.std.specs.Io.KnownBytes.{Consumes, IsAtEnd}
use Rattle.watched.specs.Streams.{Streams}
use Rattle.watched.specs.Watching.{ConsumesMoreThan}
use Rattle.census_bundle.specs.declared.bundle.Folder.{Folder}
use Rattle.census_bundle.specs.declared.fault.BundleFault.{BundleFault}
use Rattle.census_bundle.specs.declared.fault.BundleFault.TheVariants as bundle_faults
use Rattle.census_bundle.specs.Reading.{fault_of, folders_of}
use Rattle.census_bundle.specs.Sizes.{input_limit}
use Rattle.census_faults.specs.declared.run_fault.BytesFault.{BytesFault}
use Rattle.census_faults.specs.declared.run_fault.BytesFault.TheVariants.{Read, TooLong, Bundle, Memory, Write}
use Rattle.census_crew.specs.declared.tally.Tally.{Tally}
use Rattle.census_crew.specs.Gates.{Hears, News, news_of}
use Rattle.census_crew.specs.Tallying.{TalliesPatterns}
use Rattle.census_crew.specs.Writing.{WritesPrefix, WritesReport}
use Rattle.life_answer.specs.declared.question.Question.{Question}

-- the text is all that the reader had left, up to its end, and within the limit
pub record ReadsText (old new : Option (List ℕ)) (text : List ℕ) : Type 0 where
  pub within : length text ≤ input_limit
  pub consumed : Consumes old new text
  pub end : IsAtEnd new
  pub whole : IfSome old (λ all. text ≡ all)

-- the reader's text has this fault
pub record ReadsFault (old new : Option (List ℕ)) (fault : BundleFault) : Type 0 where
  pub text : List ℕ
  pub read : ReadsText old new text
  pub not_memory : fault ≢ bundle_faults.Memory
  pub refused : fault_of text ≡ Some fault

-- the reader's text holds these folders
pub record ReadsFolders (old new : Option (List ℕ)) (b : List Folder) : Type 0 where
  pub text : List ℕ
  pub read : ReadsText old new text
  pub lawful : fault_of text ≡ None
  pub holds : b ≡ folders_of text

-- the input that was read, by the result
abbrev pub ReadsBundle : Option (List ℕ) → Option (List ℕ) → Result (List Folder) BytesFault → Type 0
ReadsBundle old new (Ok b) = ReadsFolders old new b
ReadsBundle old new (Err Read) = Unit {0}
ReadsBundle old new (Err TooLong) = ConsumesMoreThan input_limit old new
ReadsBundle old new (Err (Bundle f)) = ReadsFault old new f
ReadsBundle old new (Err Memory) = Unit {0}
ReadsBundle old new (Err Write) = ⊥

-- a report of the bundle that was read was written, and its patterns were counted
pub record RunsAll (question : Question) (before after : Streams) (t : Tally) : Type 0 where
  pub bundle : List Folder
  pub read : ReadsFolders before.input.unread after.input.unread bundle
  pub report : WritesReport before.output.written after.output.written bundle question
  pub tally : TalliesPatterns bundle question t

-- a prefix of a report of the bundle that was read was written
pub record RunsFront (question : Question) (before after : Streams) : Type 0 where
  pub bundle : List Folder
  pub read : ReadsFolders before.input.unread after.input.unread bundle
  pub front : WritesPrefix before.output.written after.output.written bundle question

-- the input that was read and the output, by the result
abbrev pub RunsBytes : Question → Streams → Streams → Result Tally BytesFault → Type 0
RunsBytes question before after (Ok t) = RunsAll question before after t
RunsBytes question before after (Err Read) = after.output.written ≡ before.output.written
RunsBytes question before after (Err TooLong) = ConsumesMoreThan input_limit before.input.unread after.input.unread × (after.output.written ≡ before.output.written)
RunsBytes question before after (Err (Bundle f)) = ReadsFault before.input.unread after.input.unread f × (after.output.written ≡ before.output.written)
RunsBytes question before after (Err Memory) = (after.output.written ≡ before.output.written) ⊎ RunsFront question before after
RunsBytes question before after (Err Write) = RunsFront question before after

-- `Write` is returned if and only if the writer has failed
abbrev pub FitsBytesFault : {A : Type 0} → Result A BytesFault → Bool → Type 0
FitsBytesFault (Ok a) failed = failed ≡ false
FitsBytesFault (Err Read) failed = failed ≡ false
FitsBytesFault (Err TooLong) failed = failed ≡ false
FitsBytesFault (Err (Bundle f)) failed = failed ≡ false
FitsBytesFault (Err Memory) failed = failed ≡ false
FitsBytesFault (Err Write) failed = failed ≡ true

-- the gate heard of a run of the bundle that was read
pub record HearsRun (before after : Streams) (old new : Option (List News)) : Type 0 where
  pub bundle : List Folder
  pub read : ReadsFolders before.input.unread after.input.unread bundle
  pub heard : Hears old new (news_of bundle)

-- the news that the gate heard, by the result: none if no bundle was read
abbrev pub HearsBytes : Result Tally BytesFault → Streams → Streams → Option (List News) → Option (List News) → Type 0
HearsBytes (Ok t) before after old new = HearsRun before after old new
HearsBytes (Err Read) before after old new = new ≡ old
HearsBytes (Err TooLong) before after old new = new ≡ old
HearsBytes (Err (Bundle f)) before after old new = new ≡ old
HearsBytes (Err Memory) before after old new = (new ≡ old) ⊎ HearsRun before after old new
HearsBytes (Err Write) before after old new = HearsRun before after old new
