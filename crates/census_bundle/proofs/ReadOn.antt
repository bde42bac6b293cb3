-- The definition of what a bundle text holds, as reading it line by line.
use Rattle.std.proofs.Common.{◌≡◌, ℕ, zero, suc, ◌+◌, ◌<◌, Bool, true, false, ◌&&◌, List, [], ◌∷◌, ◌++◌, length, Option, Some, None, Ok, eqb, refl, sym, ap, ◌∙◌, arith, length-append, append-nil}
use Rattle.std.specs.Option.{option_or}
use Rattle.census_bundle.specs.declared.bundle.Folder.{Folder}
use Rattle.census_bundle.specs.declared.fault.BundleFault.{BundleFault}
use Rattle.census_bundle.specs.declared.fault.BundleFault.TheVariants.{StrayText, FileBeforeFolder}
use Rattle.census_bundle.specs.Growing.{last_entries}
use Rattle.census_bundle.specs.Lines.{whole_lines, is_file_line}
use Rattle.texts.specs.Faults.{fault_if}
use Rattle.census_bundle.specs.Reading.{content_of_lines, content_with_line, folder_count, entry_count, line_fault, first_fault, folders_of, fault_of, is_stray, is_early_file}
use Rattle.census_bundle.specs.Scan.{after_line, fault_behind, unless, read_on}
use Rattle.census_bundle.proofs.Joining.{joined, joined-nothing, joined-after_line, joined_start}
use Rattle.census_bundle.proofs.Tallies.{Follows, follows_start, follows-after_line}

fault_if-none : (test : Bool) (f : BundleFault) (others : Option BundleFault) → fault_if test f others ≡ None → (test ≡ false) × (others ≡ None)
fault_if-none true f others e = absurd (cc)
fault_if-none false f others e = (refl, e)

not_zero : (n : ℕ) (test : Bool) → (test && eqb n 0) ≡ false → test ≡ true → 0 < n
not_zero zero true e is = absurd (cc)
not_zero zero false e is = absurd (cc)
not_zero (suc n) test e is = omega arith

-- where an entry's line has no fault there is a folder
file_has_folder : (number folders entries : ℕ) (line : List ℕ) → line_fault number folders entries line ≡ None → is_file_line line ≡ true → 0 < folders
file_has_folder number folders entries line none is =
    let first = fault_if-none (is_stray folders entries line) (StrayText number) _ none in
    let second = fault_if-none (is_early_file folders line) (FileBeforeFolder number) _ first.1 in
    not_zero folders (is_file_line line) second.0 is

pub read_on-joined : (before lines : List (List ℕ)) (b : List Folder) → Follows before b → read_on b (length before + 1) lines ≡ unless (first_fault before lines) (Ok (joined b (content_of_lines lines)))
read_on-joined before [] b was = ap Ok (sym (joined-nothing b [] ∙ append-nil b))
read_on-joined before (line ∷ lines) b was =
    let number = length before + 1 in
    let same : line_fault number (folder_count before) (entry_count before) line ≡ fault_behind b number line = ap (λ n. line_fault number n (entry_count before) line) was.folders ∙ ap (λ n. line_fault number (length b) n line) was.entries in
    let later = first_fault (before ++ line ∷ []) lines in
    let whole = content_with_line line (content_of_lines lines) in
    elim (fault_behind b number line) as (λ o. fault_behind b number line ≡ o → unless o (read_on (after_line b line) (number + 1) lines) ≡ unless (option_or o later) (Ok (joined b whole))) [
      | Some f ↦ λ is. refl
      | None ↦ λ is.
          let next = read_on-joined (before ++ line ∷ []) lines (after_line b line) (follows-after_line before b line (λ file. file_has_folder number (length b) (length (last_entries b)) line is file) was) in
          ap (λ n. read_on (after_line b line) (n + 1) lines) (sym (length-append before (line ∷ []))) ∙ next ∙ ap (λ c. unless later (Ok c)) (joined-after_line b line (content_of_lines lines))
    ] refl
    ∙ ap (λ o. unless (option_or o later) (Ok (joined b whole))) (sym same)

-- reading a text from its first line
pub read_on-text : (text : List ℕ) → read_on [] 1 (whole_lines text) ≡ unless (fault_of text) (Ok (folders_of text))
read_on-text text = read_on-joined [] (whole_lines text) [] follows_start ∙ ap (λ c. unless (fault_of text) (Ok c)) (joined_start (content_of_lines (whole_lines text)))
