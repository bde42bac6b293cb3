-- A bundle with one more folder or entry.
use Rattle.std.specs.Prelude.{ℕ, List, [], ◌∷◌, ◌++◌}
use Rattle.census_bundle.specs.declared.bundle.Folder.{Folder}
use Rattle.census_bundle.specs.declared.bundle.Entry.{Entry}

-- an element and those after it, the last of them changed
abbrev pub on_last_of : {A : Type 0} → (A → A) → A → List A → List A
on_last_of f x [] = f x ∷ []
on_last_of f x (y ∷ ys) = x ∷ on_last_of f y ys

-- the list with its last element changed
abbrev pub on_last : {A : Type 0} → (A → A) → List A → List A
on_last f [] = []
on_last f (x ∷ xs) = on_last_of f x xs

-- the folders with one more at the end, which has no entry
abbrev pub with_folder : List Folder → List ℕ → List Folder
with_folder b name = b ++ record { name = name; entries = [] } ∷ []

-- the folder with one more entry at its end
abbrev pub with_one_more : Entry → Folder → Folder
with_one_more e f = record f { entries = f.entries ++ e ∷ [] }

-- the folders with one more entry at the end of the last of them
abbrev pub with_entry : List Folder → Entry → List Folder
with_entry b e = on_last (with_one_more e) b

abbrev pub last_entries_of : Folder → List Folder → List Entry
last_entries_of f [] = f.entries
last_entries_of f (g ∷ gs) = last_entries_of g gs

-- the entries of the last folder
abbrev pub last_entries : List Folder → List Entry
last_entries [] = []
last_entries (f ∷ fs) = last_entries_of f fs
