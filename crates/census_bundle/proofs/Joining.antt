-- Reading line by line gives what the lines hold.
use Rattle.std.proofs.Common.{◌≡◌, ℕ, true, false, List, [], ◌∷◌, ◌++◌, refl, sym, ap, ◌∙◌, append-nil, append_assoc, if◌then◌else◌}
use Rattle.census_bundle.specs.declared.bundle.Folder.{Folder}
use Rattle.census_bundle.specs.declared.bundle.Entry.{Entry}
use Rattle.census_bundle.specs.Entries.{entry_of}
use Rattle.census_bundle.specs.Growing.{on_last, with_folder, with_one_more, with_entry}
use Rattle.census_bundle.specs.Lines.{is_folder_line, is_file_line, line_name}
use Rattle.census_bundle.specs.Reading.{LinesContent, content_with_line}
use Rattle.census_bundle.specs.Scan.{entry_with_text, folder_with_text, with_entry_text, after_line}
use Rattle.census_bundle.proofs.Lasts.{on_last-push, on_last-on_last, on_last_alike, on_last-kept, folder_same, with_text-nil, with_text-with_text}

abbrev folder_with_entries : List Entry → Folder → Folder
folder_with_entries es f = record { name = f.name; entries = f.entries ++ es }

-- more entries in the last folder
abbrev with_entries : List Folder → List Entry → List Folder
with_entries b es = on_last (folder_with_entries es) b

-- the folders with what further lines hold
abbrev pub joined : List Folder → LinesContent → List Folder
joined b h = with_entries (with_entry_text b h.text) h.entries ++ h.folders

with_entries-nil : (b : List Folder) → with_entries b [] ≡ b
with_entries-nil b = on_last-kept (folder_with_entries []) b (λ f. folder_same f.name _ _ (append-nil f.entries))

pub joined-nothing : (b : List Folder) (fs : List Folder) → joined b (record { text = []; entries = []; folders = fs }) ≡ b ++ fs
joined-nothing b fs = ap (λ c. with_entries c [] ++ fs) (with_text-nil b) ∙ ap (λ c. c ++ fs) (with_entries-nil b)

joined-folder : (b : List Folder) (name : List ℕ) (h : LinesContent) → joined (with_folder b name) h ≡ joined b (record { text = []; entries = []; folders = record { name = name; entries = h.entries } ∷ h.folders })
joined-folder b name h =
    let f : Folder = record { name = name; entries = [] } in
    let g : Folder = record { name = name; entries = h.entries } in
    ap (λ c. with_entries c h.entries ++ h.folders) (on_last-push (folder_with_text h.text) b f)
    ∙ ap (λ c. c ++ h.folders) (on_last-push (folder_with_entries h.entries) b f)
    ∙ append_assoc b (g ∷ []) h.folders
    ∙ sym (joined-nothing b (g ∷ h.folders))

entries_joined : (name t : List ℕ) (es rest : List Entry) → on_last (entry_with_text t) (es ++ entry_of name [] ∷ []) ++ rest ≡ es ++ entry_of name t ∷ rest
entries_joined name t es rest =
    let e : Entry = entry_of name [] in
    ap (λ c. c ++ rest) (on_last-push (entry_with_text t) es e) ∙ append_assoc es (entry_of name t ∷ []) rest

joined-entry : (b : List Folder) (name : List ℕ) (h : LinesContent) → joined (with_entry b (entry_of name [])) h ≡ joined b (record { text = []; entries = entry_of name h.text ∷ h.entries; folders = h.folders })
joined-entry b name h =
    let e : Entry = entry_of name [] in
    let g : Entry = entry_of name h.text in
    ap (λ c. with_entries c h.entries ++ h.folders) (on_last-on_last (folder_with_text h.text) (with_one_more e) b)
    ∙ ap (λ c. c ++ h.folders) (on_last-on_last (folder_with_entries h.entries) (λ f. folder_with_text h.text (with_one_more e f)) b)
    ∙ ap (λ c. c ++ h.folders) (on_last_alike _ (folder_with_entries (g ∷ h.entries)) b (λ f. folder_same f.name _ _ (entries_joined name h.text f.entries h.entries)))
    ∙ ap (λ c. with_entries c (g ∷ h.entries) ++ h.folders) (sym (with_text-nil b))

joined-text : (b : List Folder) (line : List ℕ) (h : LinesContent) → joined (with_entry_text b line) h ≡ joined b (record { text = line ++ h.text; entries = h.entries; folders = h.folders })
joined-text b line h = ap (λ c. with_entries c h.entries ++ h.folders) (with_text-with_text b line h.text)

-- one more line read before
pub joined-after_line : (b : List Folder) (line : List ℕ) (h : LinesContent) → joined (after_line b line) h ≡ joined b (content_with_line line h)
joined-after_line b line h =
    let name = line_name line in
    let e : Entry = entry_of name [] in
    let a : LinesContent = record { text = []; entries = []; folders = record { name = name; entries = h.entries } ∷ h.folders } in
    let f : LinesContent = record { text = []; entries = entry_of name h.text ∷ h.entries; folders = h.folders } in
    let t : LinesContent = record { text = line ++ h.text; entries = h.entries; folders = h.folders } in
    elim (is_folder_line line) as (λ v. joined (if v then with_folder b name else (if is_file_line line then with_entry b e else with_entry_text b line)) h ≡ joined b (if v then a else (if is_file_line line then f else t))) [
      | true ↦ joined-folder b name h
      | false ↦ elim (is_file_line line) as (λ v. joined (if v then with_entry b e else with_entry_text b line) h ≡ joined b (if v then f else t)) [
        | true ↦ joined-entry b name h
        | false ↦ joined-text b line h
      ]
    ]

pub joined_start : (h : LinesContent) → joined [] h ≡ h.folders
joined_start h = refl
