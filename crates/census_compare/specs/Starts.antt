-- Patterns of folders, as they begin, and those of them that are the same at the start.
use Rattle.std.specs.Prelude.{◌≡◌, ℕ, Bool, true, false, if◌then◌else◌, Option, None as Nothing, Result, Ok, Err, List, ◌++◌, codes, length, map}
use Rattle.std.specs.List.{filter_map, flat_map}
use Rattle.std.specs.Option.{option_map}
use Rattle.std.specs.Result.{result_ok}
use Rattle.watched.specs.Streams.{PutsMoreBytes, Sink, Writes}
use Rattle.life_cells.specs.Rules.{rule_text}
use Rattle.life_text.specs.Picture.{Picture, picture_of}
use Rattle.life_text.specs.Rle.{reading}
use Rattle.census_bundle.specs.declared.bundle.Entry.{Entry}
use Rattle.census_bundle.specs.declared.bundle.Folder.{Folder}
use Rattle.census_format.specs.Lines.{pattern_count}
use Rattle.census_faults.specs.declared.run_fault.RunFault.{RunFault}
use Rattle.census_faults.specs.declared.run_fault.RunFault.TheVariants.{Memory, Write}
use Rattle.census_compare.specs.Alike.{least_body}
use Rattle.census_compare.specs.Notes.{counted_line}
use Rattle.census_compare.specs.Same.{FindsSame}
use Rattle.census_compare.specs.declared.told.Told.{Told}

-- a pattern: its rule, what it has in place of a code, the name of its collection, and its own
pub record Start : Type 0 where
  pub rule : List ℕ
  pub code : List ℕ
  pub collection : List ℕ
  pub name : List ℕ

-- what the text of an entry means, where it is there and has no fault
abbrev pub picture_in : Entry → Option Picture
picture_in entry = if entry.is_lost then Nothing else result_ok (picture_of (reading entry.text))

-- in place of a code a pattern has `_` and the least body of its cells in generation 0
abbrev pub start_with : List ℕ → List ℕ → Picture → Start
start_with collection name picture =
    record { rule = rule_text picture.rule; code = codes "_" ++ least_body picture.cells; collection = collection; name = name }

-- the pattern of an entry of this collection
abbrev pub start_in : List ℕ → Entry → Option Start
start_in collection entry = option_map (start_with collection entry.name) (picture_in entry)

-- the patterns of folders, folder by folder
abbrev pub starts_of : List Folder → List Start
starts_of folders = flat_map (λ folder. filter_map (start_in folder.name) folder.entries) folders

-- # What is written of them

abbrev pub start_of : Told → Start
start_of told = record { rule = told.rule.now; code = told.code.now; collection = told.collection.now; name = told.name.now }

-- how many patterns are compared, where that is not all
abbrev pub started_note : List Folder → List ℕ
started_note folders = counted_line (length (starts_of folders)) (pattern_count folders)

-- The patterns of folders that are the same at the start were written, as `same` writes those that are one object, and it was
-- reported how many were compared, where that is not all.
pub record WritesStarts (json : Bool) (folders : List Folder) (found : Bool) (out written errors told : Sink) : Type 0 where
  pub tolds : List Told
  pub are : map start_of tolds ≡ starts_of folders
  pub text : List ℕ
  pub finds : FindsSame json tolds found text
  pub writes : Writes text out written
  pub tells : PutsMoreBytes (started_note folders) errors told

-- whether the writer has failed, by what is returned
abbrev pub has_failed : Result Bool RunFault → Bool
has_failed (Ok found) = false
has_failed (Err (Memory ticket)) = false
has_failed (Err Write) = true
