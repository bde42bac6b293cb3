-- Reading a bundle text line by line, with the same result.
use Rattle.std.specs.Prelude.{◌≡◌, ℕ, suc, ◌+◌, ◌<◌, ◌≤◌, ◌==◌, ◌||◌, Bool, true, List, [], ◌∷◌, ◌++◌, length, Option, Some, None, Result, Ok, Err, if◌then◌else◌}
use Rattle.census_bundle.specs.declared.bundle.Folder.{Folder}
use Rattle.census_bundle.specs.declared.bundle.Entry.{Entry}
use Rattle.census_bundle.specs.declared.fault.BundleFault.{BundleFault}
use Rattle.census_bundle.specs.declared.fault.BundleFault.TheVariants.{FileBeforeFolder}
use Rattle.census_bundle.specs.declared.fault.BundleFault.TheVariants as bundle_fault
use Rattle.census_bundle.specs.declared.bundle.AddFault.{AddFault}
use Rattle.census_bundle.specs.declared.bundle.AddFault.TheVariants.{BadName, NoFolder, TooMany, Memory}
use Rattle.census_bundle.specs.Lines.{whole_lines, is_at_line, is_folder_line, is_file_line, line_name}
use Rattle.census_bundle.specs.Entries.{entry_of}
use Rattle.census_bundle.specs.Growing.{on_last, with_folder, with_entry, last_entries}
use Rattle.census_bundle.specs.Reading.{line_fault, is_outside}

abbrev pub entry_with_text : List ℕ → Entry → Entry
entry_with_text t e = record e { text = e.text ++ t }

abbrev pub folder_with_text : List ℕ → Folder → Folder
folder_with_text t f = record { name = f.name; entries = on_last (entry_with_text t) f.entries }

-- the folders with more text in the last entry of the last of them
abbrev pub with_entry_text : List Folder → List ℕ → List Folder
with_entry_text b t = on_last (folder_with_text t) b

-- the folders after one more line
abbrev pub after_line : List Folder → List ℕ → List Folder
after_line b line =
    if is_folder_line line then with_folder b (line_name line) else
    (if is_file_line line then with_entry b (entry_of (line_name line) []) else with_entry_text b line)

-- the fault of a line after these folders
abbrev pub fault_behind : List Folder → ℕ → List ℕ → Option BundleFault
fault_behind b number line = line_fault number (length b) (length (last_entries b)) line

abbrev pub unless : Option BundleFault → Result (List Folder) BundleFault → Result (List Folder) BundleFault
unless None read = read
unless (Some fault) read = Err fault

-- the folders after these lines, of which the first has this number, or the first fault
abbrev pub read_on : List Folder → ℕ → List (List ℕ) → Result (List Folder) BundleFault
read_on b number [] = Ok b
read_on b number (line ∷ lines) = unless (fault_behind b number line) (read_on (after_line b line) (number + 1) lines)

-- # Parts of a text

-- the length of the first line, with its ending
abbrev pub line_len : List ℕ → ℕ
line_len [] = 0
line_len (c ∷ rest) = if c == 10 then 1 else suc (line_len rest)

-- true where nothing is left, or the first line begins with `@`
abbrev pub begins_section : List ℕ → Bool
begins_section rest = (length rest == 0) || is_at_line rest

-- the text does not begin with text that belongs to an entry
abbrev pub IsClosedText : List Folder → List ℕ → Type 0
IsClosedText b rest = (is_outside (length b) (length (last_entries b)) || begins_section rest) ≡ true

-- the text of an entry, its number of lines, and the rest after it
pub record SplitText : Type 0 where
  pub text : List ℕ
  pub lines : ℕ
  pub rest : List ℕ

-- after an entry's line the whole reads as `split.lines` lines of its text and then the rest
pub record IsTextOf (whole : List ℕ) (split : SplitText) : Type 0 where
  pub reads : (b : List Folder) (name t : List ℕ) (n : ℕ) → 0 < length b → read_on (with_entry b (entry_of name t)) n (whole_lines whole) ≡ read_on (with_entry b (entry_of name (t ++ split.text))) (n + split.lines) (whole_lines split.rest)

-- the folders after some lines of the text, and the rest to be read
pub record ReadsOn (old new : List Folder) (number next : ℕ) (text rest : List ℕ) : Type 0 where
  pub same : read_on old number (whole_lines text) ≡ read_on new next (whole_lines rest)
  pub closed : IsClosedText new rest
  pub shorter : length rest < length text
  pub fits : next + length rest ≤ number + length text

-- the fault of a line whose folder or entry is not added
abbrev pub fault_at : AddFault → ℕ → BundleFault
fault_at BadName number = bundle_fault.BadName number
fault_at NoFolder number = FileBeforeFolder number
fault_at TooMany number = bundle_fault.TooMany number
fault_at Memory number = bundle_fault.Memory
