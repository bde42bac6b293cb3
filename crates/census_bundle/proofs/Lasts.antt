-- Lists with the last element changed.
use Rattle.std.proofs.Common.{◌≡◌, ℕ, List, [], ◌∷◌, ◌++◌, refl, ap, ◌∙◌, append-nil, append_assoc}
use Rattle.census_bundle.specs.declared.bundle.Folder.{Folder}
use Rattle.census_bundle.specs.declared.bundle.Entry.{Entry}
use Rattle.census_bundle.specs.Entries.{entry_of}
use Rattle.census_bundle.specs.Growing.{on_last_of, on_last, with_folder, with_one_more, with_entry, last_entries_of, last_entries}
use Rattle.census_bundle.specs.Scan.{entry_with_text, folder_with_text, with_entry_text}

on_last_of-push : {A : Type 0} (f : A → A) (y : A) (ys : List A) (x : A) → on_last_of f y (ys ++ x ∷ []) ≡ y ∷ (ys ++ f x ∷ [])
on_last_of-push f y [] x = refl
on_last_of-push f y (z ∷ zs) x = ap (λ ws. y ∷ ws) (on_last_of-push f z zs x)

pub on_last-push : {A : Type 0} (f : A → A) (xs : List A) (x : A) → on_last f (xs ++ x ∷ []) ≡ xs ++ f x ∷ []
on_last-push f [] x = refl
on_last-push f (y ∷ ys) x = on_last_of-push f y ys x

on_last_of-skip : {A : Type 0} (f g : A → A) (x y : A) (ys : List A) → on_last_of f x (on_last_of g y ys) ≡ x ∷ on_last f (on_last_of g y ys)
on_last_of-skip f g x y [] = refl
on_last_of-skip f g x y (z ∷ zs) = refl

on_last-on_last_of : {A : Type 0} (f g : A → A) (x : A) (xs : List A) → on_last f (on_last_of g x xs) ≡ on_last_of (λ y. f (g y)) x xs
on_last-on_last_of f g x [] = refl
on_last-on_last_of f g x (y ∷ ys) = on_last_of-skip f g x y ys ∙ ap (λ ws. x ∷ ws) (on_last-on_last_of f g y ys)

pub on_last-on_last : {A : Type 0} (f g : A → A) (xs : List A) → on_last f (on_last g xs) ≡ on_last (λ y. f (g y)) xs
on_last-on_last f g [] = refl
on_last-on_last f g (x ∷ xs) = on_last-on_last_of f g x xs

pub on_last_alike : {A : Type 0} (f g : A → A) (xs : List A) → ((x : A) → f x ≡ g x) → on_last f xs ≡ on_last g xs
on_last_alike f g xs same = ap (λ h. on_last h xs) (λ i x. same x i)

on_last_of-kept : {A : Type 0} (x : A) (xs : List A) → on_last_of (λ y. y) x xs ≡ x ∷ xs
on_last_of-kept x [] = refl
on_last_of-kept x (y ∷ ys) = ap (λ ws. x ∷ ws) (on_last_of-kept y ys)

pub on_last-kept : {A : Type 0} (f : A → A) (xs : List A) → ((x : A) → f x ≡ x) → on_last f xs ≡ xs
on_last-kept f [] same = refl
on_last-kept f (x ∷ xs) same = on_last_alike f (λ y. y) (x ∷ xs) same ∙ on_last_of-kept x xs

-- # Text in the last entry

entry_same : (e : Entry) (t u : List ℕ) → t ≡ u → ◌≡◌ {A = Entry} (record e { text = t }) (record e { text = u })
entry_same e t u q = λ i. record e { text = q i }

pub folder_same : (n : List ℕ) (es fs : List Entry) → es ≡ fs → ◌≡◌ {A = Folder} (record { name = n; entries = es }) (record { name = n; entries = fs })
folder_same n es fs p = λ i. record { name = n; entries = p i }

entry_no_text : (e : Entry) → entry_with_text [] e ≡ e
entry_no_text e = entry_same e _ _ (append-nil e.text)

folder_no_text : (f : Folder) → folder_with_text [] f ≡ f
folder_no_text f = folder_same f.name _ _ (on_last-kept (entry_with_text []) f.entries entry_no_text)

pub with_text-nil : (b : List Folder) → with_entry_text b [] ≡ b
with_text-nil b = on_last-kept (folder_with_text []) b folder_no_text

entry_texts : (t u : List ℕ) (e : Entry) → entry_with_text u (entry_with_text t e) ≡ entry_with_text (t ++ u) e
entry_texts t u e = entry_same e _ _ (append_assoc e.text t u)

folder_texts : (t u : List ℕ) (f : Folder) → folder_with_text u (folder_with_text t f) ≡ folder_with_text (t ++ u) f
folder_texts t u f =
    folder_same f.name _ _ (on_last-on_last (entry_with_text u) (entry_with_text t) f.entries ∙ on_last_alike _ (entry_with_text (t ++ u)) f.entries (entry_texts t u))

pub with_text-with_text : (b : List Folder) (t u : List ℕ) → with_entry_text (with_entry_text b t) u ≡ with_entry_text b (t ++ u)
with_text-with_text b t u =
    on_last-on_last (folder_with_text u) (folder_with_text t) b ∙ on_last_alike _ (folder_with_text (t ++ u)) b (folder_texts t u)

-- text goes to the entry that was added last
pub with_text-with_entry : (b : List Folder) (name t u : List ℕ) → with_entry_text (with_entry b (entry_of name t)) u ≡ with_entry b (entry_of name (t ++ u))
with_text-with_entry b name t u =
    let e : Entry = entry_of name t in
    let g : Entry = entry_of name (t ++ u) in
    on_last-on_last (folder_with_text u) (with_one_more e) b ∙ on_last_alike _ (with_one_more g) b (λ f. folder_same f.name _ _ (on_last-push (entry_with_text u) f.entries e))

-- # The entries of the last folder

pub last_entries_of-push : (f : Folder) (fs : List Folder) (g : Folder) → last_entries_of f (fs ++ g ∷ []) ≡ g.entries
last_entries_of-push f [] g = refl
last_entries_of-push f (h ∷ hs) g = last_entries_of-push h hs g

pub last_entries-with_folder : (b : List Folder) (name : List ℕ) → last_entries (with_folder b name) ≡ []
last_entries-with_folder [] name = refl
last_entries-with_folder (f ∷ fs) name = last_entries_of-push f fs (record { name = name; entries = [] })

last_entries-on_last_of : (h : Folder → Folder) (k : List Entry → List Entry) (f : Folder) (fs : List Folder) → ((g : Folder) → (h g).entries ≡ k g.entries) → last_entries (on_last_of h f fs) ≡ k (last_entries_of f fs)
last_entries-on_last_of h k f [] does = does f
last_entries-on_last_of h k f (g ∷ []) does = does g
last_entries-on_last_of h k f (g ∷ (a ∷ as')) does = last_entries-on_last_of h k g (a ∷ as') does

pub last_entries-on_last : (h : Folder → Folder) (k : List Entry → List Entry) (f : Folder) (fs : List Folder) → ((g : Folder) → (h g).entries ≡ k g.entries) → last_entries (on_last h (f ∷ fs)) ≡ k (last_entries (f ∷ fs))
last_entries-on_last h k f fs does = last_entries-on_last_of h k f fs does
