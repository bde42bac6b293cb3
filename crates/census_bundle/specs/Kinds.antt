-- The kinds of lines.
use Rattle.std.specs.Prelude.{◌≡◌, ℕ, true, false, List}
use Rattle.census_bundle.specs.declared.lines.Line.{Line}
use Rattle.census_bundle.specs.declared.lines.Line.TheVariants.{Folder, File, OtherAt, Plain}
use Rattle.census_bundle.specs.Lines.{is_at_line, is_folder_line, is_file_line, line_name}

pub record IsFolderLine (line name : List ℕ) : Type 0 where
  pub is : is_folder_line line ≡ true
  pub named : name ≡ line_name line

pub record IsFileLine (line name : List ℕ) : Type 0 where
  pub other : is_folder_line line ≡ false
  pub is : is_file_line line ≡ true
  pub named : name ≡ line_name line

pub record IsOtherAtLine (line : List ℕ) : Type 0 where
  pub is : is_at_line line ≡ true
  pub folder : is_folder_line line ≡ false
  pub file : is_file_line line ≡ false

pub record IsPlainLine (line : List ℕ) : Type 0 where
  pub is : is_at_line line ≡ false

abbrev pub IsLineKind : List ℕ → Line → Type 0
IsLineKind line (Folder name) = IsFolderLine line name.now
IsLineKind line (File name) = IsFileLine line name.now
IsLineKind line OtherAt = IsOtherAtLine line
IsLineKind line Plain = IsPlainLine line
