-- The fault of a line, by the kind of line that it is.
use Rattle.std.proofs.Common.{◌≡◌, ℕ, ◌<◌, ◌≤◌, Bool, true, false, not, ◌&&◌, ◌||◌, List, [], ◌∷◌, ◌++◌, length, Option, Some, None, nat_le, nat_eq, eqb, refl, sym, ap, arith}
use Rattle.std.specs.List.{list_all, starts_with}
use Rattle.std.proofs.lemmas.Bool.{ne_eqb, lt-leb, le-leb, eq-eqb, eqb-true, and_parts, and_left, and_right}
use Rattle.census_bundle.specs.declared.bundle.Folder.{Folder}
use Rattle.census_bundle.specs.declared.fault.BundleFault.{BundleFault}
use Rattle.census_bundle.specs.declared.fault.BundleFault.TheVariants.{StrayText, FileBeforeFolder, BadAtLine, BadName, TooMany}
use Rattle.census_bundle.specs.Sizes.{count_limit}
use Rattle.census_bundle.specs.Names.{is_name}
use Rattle.census_bundle.specs.Growing.{last_entries}
use Rattle.texts.specs.Bytes.{is_space}
use Rattle.census_bundle.specs.Lines.{is_at_line, is_folder_line, is_file_line, line_name}
use Rattle.census_bundle.specs.Kinds.{IsOtherAtLine}
use Rattle.texts.specs.Faults.{fault_if}
use Rattle.census_bundle.specs.Reading.{is_outside}
use Rattle.census_bundle.specs.Scan.{fault_behind}

-- the fault by the tests of the line and of what comes before it
abbrev fault_by : ℕ → Bool → Bool → Bool → Bool → Bool → Bool → Bool → Bool → Bool → Option BundleFault
fault_by number at folder file outside blank lawful no_folder full_bundle full_folder =
    fault_if (not at && (outside && not blank)) (StrayText number)
    (fault_if (file && no_folder) (FileBeforeFolder number)
    (fault_if (at && not (folder || file)) (BadAtLine number)
    (fault_if ((folder || file) && not lawful) (BadName number)
    (fault_if ((folder && full_bundle) || (file && full_folder)) (TooMany number) None))))

abbrev is_blank : List ℕ → Bool
is_blank line = list_all is_space line

abbrev is_lawful : List ℕ → Bool
is_lawful line = is_name (line_name line)

abbrev outside_of : List Folder → Bool
outside_of b = is_outside (length b) (length (last_entries b))

abbrev is_full : List Folder → Bool
is_full b = nat_le count_limit (length b)

abbrev is_last_full : List Folder → Bool
is_last_full b = nat_le count_limit (length (last_entries b))

by_tests : (b : List Folder) (number : ℕ) (line : List ℕ) → fault_behind b number line ≡ fault_by number (is_at_line line) (is_folder_line line) (is_file_line line) (outside_of b) (is_blank line) (is_lawful line) (eqb (length b) 0) (is_full b) (is_last_full b)
by_tests b number line = refl

-- # Kinds of lines

at_false : (c : ℕ) (cs : List ℕ) → is_at_line (c ∷ cs) ≡ false → eqb 64 c ≡ false
at_false c cs e = elim (eqb 64 c) as (λ v. (v && true) ≡ false → v ≡ false) [ true ↦ λ h. h | false ↦ λ h. h ] e

pub plain_no_folder : (line : List ℕ) → is_at_line line ≡ false → is_folder_line line ≡ false
plain_no_folder [] e = refl
plain_no_folder (c ∷ cs) e = ap (λ v. v && starts_with nat_eq cs (102 ∷ 111 ∷ 108 ∷ 100 ∷ 101 ∷ 114 ∷ 32 ∷ [])) (at_false c cs e)

pub plain_no_file : (line : List ℕ) → is_at_line line ≡ false → is_file_line line ≡ false
plain_no_file [] e = refl
plain_no_file (c ∷ cs) e = ap (λ v. v && starts_with nat_eq cs (102 ∷ 105 ∷ 108 ∷ 101 ∷ 32 ∷ [])) (at_false c cs e)

folder_at : (line : List ℕ) → is_folder_line line ≡ true → is_at_line line ≡ true
folder_at [] e = absurd (cc)
folder_at (c ∷ cs) e = ap (λ v. v && true) (and_parts (eqb 64 c) _ e).0

file_at : (line : List ℕ) → is_file_line line ≡ true → is_at_line line ≡ true
file_at [] e = absurd (cc)
file_at (c ∷ cs) e = ap (λ v. v && true) (and_parts (eqb 64 c) _ e).0

folder_no_file : (line : List ℕ) → is_folder_line line ≡ true → is_file_line line ≡ false
folder_no_file [] e = refl
folder_no_file (c ∷ []) e = and_right (eqb 64 c) _ refl
folder_no_file (c ∷ (d ∷ [])) e = and_right (eqb 64 c) _ (and_right (eqb 102 d) _ refl)
folder_no_file (c ∷ (d ∷ (x ∷ xs))) e =
    let third = and_parts (eqb 111 x) _ (and_parts (eqb 102 d) _ (and_parts (eqb 64 c) _ e).1).1 in
    let is : 111 ≡ x = eqb-true 111 x third.0 in
    let other : eqb 105 x ≡ false = ap (eqb 105) (sym is) in
    and_right (eqb 64 c) _ (and_right (eqb 102 d) _ (and_left (eqb 105 x) _ other))

-- whether a line that is not empty begins with `@` does not depend on what follows it
pub at_first : (line rest : List ℕ) → 0 < length line → is_at_line (line ++ rest) ≡ is_at_line line
at_first [] rest some = absurd (omega arith)
at_first (c ∷ cs) rest some = refl

-- # What follows for the fault

not_empty : (n : ℕ) → 0 < n → eqb n 0 ≡ false
not_empty n some = ne_eqb n 0 (λ e. omega arith)

pub plain_inside : (b : List Folder) (n : ℕ) (line : List ℕ) → is_at_line line ≡ false → 0 < length b → 0 < length (last_entries b) → fault_behind b n line ≡ None
plain_inside b n line plain some open' =
    let folder = plain_no_folder line plain in
    let file = plain_no_file line plain in
    let outside : outside_of b ≡ false = λ i. not_empty (length b) some i || not_empty (length (last_entries b)) open' i in
    λ i. fault_by n (plain i) (folder i) (file i) (outside i) (is_blank line) (is_lawful line) (eqb (length b) 0) (is_full b) (is_last_full b)

pub blank_outside : (b : List Folder) (n : ℕ) (line : List ℕ) → is_at_line line ≡ false → outside_of b ≡ true → is_blank line ≡ true → fault_behind b n line ≡ None
blank_outside b n line plain outside blank =
    let folder = plain_no_folder line plain in
    let file = plain_no_file line plain in
    λ i. fault_by n (plain i) (folder i) (file i) (outside i) (blank i) (is_lawful line) (eqb (length b) 0) (is_full b) (is_last_full b)

pub stray_outside : (b : List Folder) (n : ℕ) (line : List ℕ) → is_at_line line ≡ false → outside_of b ≡ true → is_blank line ≡ false → fault_behind b n line ≡ Some (StrayText n)
stray_outside b n line plain outside blank = λ i. fault_by n (plain i) (is_folder_line line) (is_file_line line) (outside i) (blank i) (is_lawful line) (eqb (length b) 0) (is_full b) (is_last_full b)

pub other_at : (b : List Folder) (n : ℕ) (line : List ℕ) → IsOtherAtLine line → fault_behind b n line ≡ Some (BadAtLine n)
other_at b n line kind = λ i. fault_by n (kind.is i) (kind.folder i) (kind.file i) (outside_of b) (is_blank line) (is_lawful line) (eqb (length b) 0) (is_full b) (is_last_full b)

pub folder_bad_name : (b : List Folder) (n : ℕ) (line : List ℕ) → is_folder_line line ≡ true → is_lawful line ≡ false → fault_behind b n line ≡ Some (BadName n)
folder_bad_name b n line is lawful =
    let at = folder_at line is in
    let file = folder_no_file line is in
    λ i. fault_by n (at i) (is i) (file i) (outside_of b) (is_blank line) (lawful i) (eqb (length b) 0) (is_full b) (is_last_full b)

pub folder_too_many : (b : List Folder) (n : ℕ) (line : List ℕ) → is_folder_line line ≡ true → is_lawful line ≡ true → count_limit ≤ length b → fault_behind b n line ≡ Some (TooMany n)
folder_too_many b n line is lawful full =
    let at = folder_at line is in
    let file = folder_no_file line is in
    let many = le-leb count_limit (length b) full in
    λ i. fault_by n (at i) (is i) (file i) (outside_of b) (is_blank line) (lawful i) (eqb (length b) 0) (many i) (is_last_full b)

pub folder_fine : (b : List Folder) (n : ℕ) (line : List ℕ) → is_folder_line line ≡ true → is_lawful line ≡ true → length b < count_limit → fault_behind b n line ≡ None
folder_fine b n line is lawful room =
    let at = folder_at line is in
    let file = folder_no_file line is in
    let few = lt-leb count_limit (length b) room in
    λ i. fault_by n (at i) (is i) (file i) (outside_of b) (is_blank line) (lawful i) (eqb (length b) 0) (few i) (is_last_full b)

pub file_early : (b : List Folder) (n : ℕ) (line : List ℕ) → is_file_line line ≡ true → length b ≡ 0 → fault_behind b n line ≡ Some (FileBeforeFolder n)
file_early b n line is none =
    let at = file_at line is in
    let empty = eq-eqb (length b) 0 none in
    λ i. fault_by n (at i) (is_folder_line line) (is i) (outside_of b) (is_blank line) (is_lawful line) (empty i) (is_full b) (is_last_full b)

pub file_bad_name : (b : List Folder) (n : ℕ) (line : List ℕ) → is_folder_line line ≡ false → is_file_line line ≡ true → 0 < length b → is_lawful line ≡ false → fault_behind b n line ≡ Some (BadName n)
file_bad_name b n line other is some lawful =
    let at = file_at line is in
    let here = not_empty (length b) some in
    λ i. fault_by n (at i) (other i) (is i) (outside_of b) (is_blank line) (lawful i) (here i) (is_full b) (is_last_full b)

pub file_too_many : (b : List Folder) (n : ℕ) (line : List ℕ) → is_folder_line line ≡ false → is_file_line line ≡ true → 0 < length b → is_lawful line ≡ true → count_limit ≤ length (last_entries b) → fault_behind b n line ≡ Some (TooMany n)
file_too_many b n line other is some lawful full =
    let at = file_at line is in
    let here = not_empty (length b) some in
    let many = le-leb count_limit (length (last_entries b)) full in
    λ i. fault_by n (at i) (other i) (is i) (outside_of b) (is_blank line) (lawful i) (here i) (is_full b) (many i)

pub file_fine : (b : List Folder) (n : ℕ) (line : List ℕ) → is_folder_line line ≡ false → is_file_line line ≡ true → 0 < length b → is_lawful line ≡ true → length (last_entries b) < count_limit → fault_behind b n line ≡ None
file_fine b n line other is some lawful room =
    let at = file_at line is in
    let here = not_empty (length b) some in
    let few = lt-leb count_limit (length (last_entries b)) room in
    λ i. fault_by n (at i) (other i) (is i) (outside_of b) (is_blank line) (lawful i) (here i) (is_full b) (few i)
