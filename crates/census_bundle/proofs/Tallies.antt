-- The numbers of folders and entries after lines that were read.
use Rattle.std.proofs.Common.{◌≡◌, ℕ, ◌+◌, ◌-◌, ◌<◌, Bool, true, false, not, cond, List, [], ◌∷◌, ◌++◌, length, drop, refl, sym, ap, ◌∙◌, arith, length-append, if◌then◌else◌}
use Rattle.std.specs.List.{count_by, after_last, suffix_len, prefix_len}
use Rattle.std.proofs.lemmas.List.{reverse-append, drop_all, drop-append-le}
use Rattle.std.proofs.lemmas.List.Sums.{suffix_len-le-length, sum_by_push}
use Rattle.census_bundle.specs.declared.bundle.Folder.{Folder}
use Rattle.census_bundle.specs.declared.bundle.Entry.{Entry}
use Rattle.census_bundle.specs.Entries.{entry_of}
use Rattle.census_bundle.specs.Growing.{on_last, with_folder, with_one_more, with_entry, last_entries}
use Rattle.census_bundle.specs.Lines.{is_folder_line, is_file_line, line_name}
use Rattle.census_bundle.specs.Reading.{folder_count, entry_count}
use Rattle.census_bundle.specs.Scan.{entry_with_text, folder_with_text, with_entry_text, after_line}
use Rattle.census_bundle.proofs.Growth.{length-on_last}
use Rattle.census_bundle.proofs.Lasts.{last_entries-with_folder, last_entries-on_last}

suffix_len-push : {A : Type 0} (p : A → Bool) (xs : List A) (x : A) → suffix_len p (xs ++ x ∷ []) ≡ cond (p x) (1 + suffix_len p xs) 0
suffix_len-push p xs x = ap (prefix_len p) (reverse-append xs (x ∷ []))

after_last-push_yes : {A : Type 0} (p : A → Bool) (xs : List A) (x : A) → p x ≡ true → after_last p (xs ++ x ∷ []) ≡ []
after_last-push_yes p xs x holds =
    let none : suffix_len (λ y. not (p y)) (xs ++ x ∷ []) ≡ 0 = suffix_len-push (λ y. not (p y)) xs x ∙ ap (λ v. cond (not v) (1 + suffix_len (λ y. not (p y)) xs) 0) holds in
    drop_all _ (xs ++ x ∷ []) (omega (arith, none))

after_last-push_no : {A : Type 0} (p : A → Bool) (xs : List A) (x : A) → p x ≡ false → after_last p (xs ++ x ∷ []) ≡ after_last p xs ++ x ∷ []
after_last-push_no p xs x isnt =
    let t : _ → Bool = λ y. not (p y) in
    let more : suffix_len t (xs ++ x ∷ []) ≡ 1 + suffix_len t xs = suffix_len-push t xs x ∙ ap (λ v. cond (not v) (1 + suffix_len t xs) 0) isnt in
    let same : length (xs ++ x ∷ []) - suffix_len t (xs ++ x ∷ []) ≡ length xs - suffix_len t xs = omega (arith, more, length-append xs (x ∷ []), suffix_len-le-length t xs) in
    ap (λ n. drop n (xs ++ x ∷ [])) same ∙ drop-append-le (length xs - suffix_len t xs) xs (x ∷ []) (omega arith)

-- the folders hold as many folders, and the last of them as many entries, as the lines begin
pub record Follows (before : List (List ℕ)) (b : List Folder) : Type 0 where
  pub folders : folder_count before ≡ length b
  pub entries : entry_count before ≡ length (last_entries b)

pub follows_start : Follows [] []
follows_start = record { folders = refl; entries = refl }

follows-folder : (before : List (List ℕ)) (b : List Folder) (line : List ℕ) → is_folder_line line ≡ true → Follows before b → Follows (before ++ line ∷ []) (with_folder b (line_name line))
follows-folder before b line is was = record {
  folders = sum_by_push (λ l. cond (is_folder_line l) 1 0) before line ∙ ap (λ v. folder_count before + cond v 1 0) is ∙ ap (λ n. n + 1) was.folders ∙ sym (length-append b _);
  entries = ap (count_by is_file_line) (after_last-push_yes is_folder_line before line is) ∙ sym (ap length (last_entries-with_folder b (line_name line)));
}

entry_count-push : (before : List (List ℕ)) (line : List ℕ) → is_folder_line line ≡ false → entry_count (before ++ line ∷ []) ≡ entry_count before + cond (is_file_line line) 1 0
entry_count-push before line isnt = ap (count_by is_file_line) (after_last-push_no is_folder_line before line isnt) ∙ sum_by_push (λ l. cond (is_file_line l) 1 0) (after_last is_folder_line before) line

folder_count-push : (before : List (List ℕ)) (line : List ℕ) → is_folder_line line ≡ false → folder_count (before ++ line ∷ []) ≡ folder_count before
folder_count-push before line isnt = sum_by_push (λ l. cond (is_folder_line l) 1 0) before line ∙ ap (λ v. folder_count before + cond v 1 0) isnt ∙ omega arith

pub length-with_entry : (b : List Folder) (e : Entry) → 0 < length b → length (last_entries (with_entry b e)) ≡ length (last_entries b) + 1
length-with_entry [] e some = absurd (omega arith)
length-with_entry (f ∷ fs) e some =
    let es = last_entries (f ∷ fs) in
    ap length (last_entries-on_last (with_one_more e) (λ xs. xs ++ e ∷ []) f fs (λ g. refl)) ∙ length-append es (e ∷ [])

length-with_text : (b : List Folder) (t : List ℕ) → length (last_entries (with_entry_text b t)) ≡ length (last_entries b)
length-with_text [] t = refl
length-with_text (f ∷ fs) t =
    ap length (last_entries-on_last (folder_with_text t) (on_last (entry_with_text t)) f fs (λ g. refl)) ∙ length-on_last (entry_with_text t) (last_entries (f ∷ fs))

follows-file : (before : List (List ℕ)) (b : List Folder) (line : List ℕ) (e : Entry) → is_folder_line line ≡ false → is_file_line line ≡ true → 0 < length b → Follows before b → Follows (before ++ line ∷ []) (with_entry b e)
follows-file before b line e isnt holds some was = record {
  folders = folder_count-push before line isnt ∙ was.folders ∙ sym (length-on_last (with_one_more e) b);
  entries = entry_count-push before line isnt ∙ ap (λ v. entry_count before + cond v 1 0) holds ∙ ap (λ n. n + 1) was.entries ∙ sym (length-with_entry b e some);
}

follows-text : (before : List (List ℕ)) (b : List Folder) (line : List ℕ) → is_folder_line line ≡ false → is_file_line line ≡ false → Follows before b → Follows (before ++ line ∷ []) (with_entry_text b line)
follows-text before b line isnt none was = record {
  folders = folder_count-push before line isnt ∙ was.folders ∙ sym (length-on_last (folder_with_text line) b);
  entries = entry_count-push before line isnt ∙ ap (λ v. entry_count before + cond v 1 0) none ∙ omega (arith, was.entries, length-with_text b line);
}

-- one more line read
pub follows-after_line : (before : List (List ℕ)) (b : List Folder) (line : List ℕ) → (is_file_line line ≡ true → 0 < length b) → Follows before b → Follows (before ++ line ∷ []) (after_line b line)
follows-after_line before b line some was =
    let name = line_name line in
    let e : Entry = entry_of name [] in
    elim (is_folder_line line) as (λ v. is_folder_line line ≡ v → Follows (before ++ line ∷ []) (if v then with_folder b name else (if is_file_line line then with_entry b e else with_entry_text b line))) [
      | true ↦ λ holds. follows-folder before b line holds was
      | false ↦ λ isnt. elim (is_file_line line) as (λ v. is_file_line line ≡ v → Follows (before ++ line ∷ []) (if v then with_entry b e else with_entry_text b line)) [
        | true ↦ λ holds. follows-file before b line e isnt holds (some holds) was
        | false ↦ λ none. follows-text before b line isnt none was
      ] refl
    ] refl
