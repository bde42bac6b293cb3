-- The content of a bundle text, and its first fault.
use Rattle.std.specs.Prelude.{ℕ, ◌+◌, Bool, true, false, not, ◌&&◌, ◌||◌, List, [], ◌∷◌, ◌++◌, length, Option, Some, None, count_by, nat_le, ◌==◌, if◌then◌else◌}
use Rattle.std.specs.List.{list_all, after_last}
use Rattle.std.specs.Option.{option_or}
use Rattle.census_bundle.specs.declared.bundle.Folder.{Folder}
use Rattle.census_bundle.specs.declared.bundle.Entry.{Entry}
use Rattle.census_bundle.specs.declared.fault.BundleFault.{BundleFault}
use Rattle.census_bundle.specs.declared.fault.BundleFault.TheVariants.{StrayText, FileBeforeFolder, BadAtLine, BadName, TooMany}
use Rattle.census_bundle.specs.Entries.{entry_of}
use Rattle.texts.specs.Bytes.{is_space}
use Rattle.texts.specs.Faults.{fault_if}
use Rattle.census_bundle.specs.Lines.{whole_lines, is_at_line, is_folder_line, is_file_line, line_name}
use Rattle.census_bundle.specs.Names.{is_name}
use Rattle.census_bundle.specs.Sizes.{count_limit}

-- # Folders and entries

-- The content of lines: the text before their first entry or folder, the entries before their first folder, and their folders.
pub record LinesContent : Type 0 where
  pub text : List ℕ
  pub entries : List Entry
  pub folders : List Folder

-- the content of a line and the lines after it, by that of those lines
abbrev pub content_with_line : List ℕ → LinesContent → LinesContent
content_with_line line behind =
    if is_folder_line line then record { text = []; entries = []; folders = record { name = line_name line; entries = behind.entries } ∷ behind.folders } else
    (if is_file_line line then record { text = []; entries = entry_of (line_name line) behind.text ∷ behind.entries; folders = behind.folders }
    else record { text = line ++ behind.text; entries = behind.entries; folders = behind.folders })

abbrev pub content_of_lines : List (List ℕ) → LinesContent
content_of_lines [] = record { text = []; entries = []; folders = [] }
content_of_lines (line ∷ lines) = content_with_line line (content_of_lines lines)

-- the folders of a bundle text
abbrev pub folders_of : List ℕ → List Folder
folders_of text = (content_of_lines (whole_lines text)).folders

-- # Faults

-- the number of folders that begin on these lines, and the number of entries of the last of them
abbrev pub folder_count : List (List ℕ) → ℕ
folder_count before = count_by is_folder_line before

abbrev pub entry_count : List (List ℕ) → ℕ
entry_count before = count_by is_file_line (after_last is_folder_line before)

-- true where no entry has begun after `folders` folders and `entries` entries of the last of them
abbrev pub is_outside : ℕ → ℕ → Bool
is_outside folders entries = (folders == 0) || (entries == 0)

abbrev pub is_stray : ℕ → ℕ → List ℕ → Bool
is_stray folders entries line = not (is_at_line line) && (is_outside folders entries && not (list_all is_space line))

abbrev pub is_early_file : ℕ → List ℕ → Bool
is_early_file folders line = is_file_line line && (folders == 0)

abbrev pub is_bad_at_line : List ℕ → Bool
is_bad_at_line line = is_at_line line && not (is_folder_line line || is_file_line line)

abbrev pub has_bad_name : List ℕ → Bool
has_bad_name line = (is_folder_line line || is_file_line line) && not (is_name (line_name line))

-- true where the line begins a folder or an entry for which there is no room
abbrev pub is_one_too_many : ℕ → ℕ → List ℕ → Bool
is_one_too_many folders entries line = (is_folder_line line && nat_le count_limit folders) || (is_file_line line && nat_le count_limit entries)

-- the first fault, if any, of the line with this number, after `folders` folders and `entries` entries of the last of them
abbrev pub line_fault : ℕ → ℕ → ℕ → List ℕ → Option BundleFault
line_fault number folders entries line =
    fault_if (is_stray folders entries line) (StrayText number)
    (fault_if (is_early_file folders line) (FileBeforeFolder number)
    (fault_if (is_bad_at_line line) (BadAtLine number)
    (fault_if (has_bad_name line) (BadName number)
    (fault_if (is_one_too_many folders entries line) (TooMany number) None))))

-- the first fault of lines that come after `before`
abbrev pub first_fault : List (List ℕ) → List (List ℕ) → Option BundleFault
first_fault before [] = None
first_fault before (line ∷ lines) =
    option_or (line_fault (length before + 1) (folder_count before) (entry_count before) line) (first_fault (before ++ line ∷ []) lines)

-- the first fault of a bundle text
abbrev pub fault_of : List ℕ → Option BundleFault
fault_of text = first_fault [] (whole_lines text)
