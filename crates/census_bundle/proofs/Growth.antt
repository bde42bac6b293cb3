-- A bundle stays lawful as it grows.
use Rattle.std.proofs.Common.{◌≡◌, ℕ, ◌+◌, ◌<◌, ◌≤◌, Bool, true, List, [], ◌∷◌, ◌++◌, length, get_or, Some, refl, sym, ap, ◌∙◌, subst, arith, length-append, slice_get}
use Rattle.std.specs.List.{All}
use Rattle.std.proofs.Math.ListN.{set}
use Rattle.std.proofs.lemmas.List.Elements.{All-push, All-set, All-nil}
use Rattle.std.proofs.lemmas.Option.{slice_get-get_or, get_or_from_slice_get, slice_get_within}
use Rattle.census_bundle.specs.declared.bundle.Folder.{Folder}
use Rattle.census_bundle.specs.declared.bundle.Entry.{Entry}
use Rattle.census_bundle.specs.Sizes.{IsWithinCounts, count_limit}
use Rattle.census_bundle.specs.Names.{IsNamedEntry, IsNamedFolder, HasLawfulNames, is_name}
use Rattle.census_bundle.specs.Growing.{on_last_of, on_last, with_folder, with_one_more, with_entry, last_entries_of, last_entries}

abbrev IsSmallFolder : Folder → Type 0
IsSmallFolder f = length f.entries ≤ count_limit

all_small : (b : List Folder) → IsWithinCounts b → All IsSmallFolder b
all_small b small k d l = small.entries k (get_or b k d) (slice_get-get_or b k d l)

small_all : (b : List Folder) → All IsSmallFolder b → (k : ℕ) (f : Folder) → slice_get b k ≡ Some f → length f.entries ≤ count_limit
small_all b all k f e = subst IsSmallFolder (get_or_from_slice_get b k f f e) (all k f (slice_get_within b k f e))

pub small-with_folder : (b : List Folder) (name : List ℕ) → IsWithinCounts b → length b < count_limit → IsWithinCounts (with_folder b name)
small-with_folder b name small room =
    let one : Folder = record { name = name; entries = [] } in record {
      folders = omega (arith, small.folders, length-append b (one ∷ []));
      entries = small_all _ (All-push IsSmallFolder b one (all_small b small) (omega arith));
    }

pub names-with_folder : (b : List Folder) (name : List ℕ) → HasLawfulNames b → is_name name ≡ true → HasLawfulNames (with_folder b name)
names-with_folder b name names lawful = record { folders = All-push IsNamedFolder b _ names.folders (record { name = lawful; entries = All-nil IsNamedEntry }) }

on_last_of-set : {A : Type 0} (f : A → A) (x : A) (xs : List A) (d : A) → on_last_of f x xs ≡ set (x ∷ xs) (length xs) (f (get_or (x ∷ xs) (length xs) d))
on_last_of-set f x [] d = refl
on_last_of-set f x (y ∷ ys) d = ap (λ zs. x ∷ zs) (on_last_of-set f y ys d)

pub on_last-set : {A : Type 0} (f : A → A) (xs : List A) (n : ℕ) (d : A) → n + 1 ≡ length xs → on_last f xs ≡ set xs n (f (get_or xs n d))
on_last-set f [] n d e = absurd (omega arith)
on_last-set f (x ∷ xs) n d e =
    let same : n ≡ length xs = omega arith in
    on_last_of-set f x xs d ∙ ap (λ k. set (x ∷ xs) k (f (get_or (x ∷ xs) k d))) (sym same)

last_entries_of-get_or : (f : Folder) (fs : List Folder) (d : Folder) → last_entries_of f fs ≡ (get_or (f ∷ fs) (length fs) d).entries
last_entries_of-get_or f [] d = refl
last_entries_of-get_or f (g ∷ gs) d = last_entries_of-get_or g gs d

pub last_entries-get_or : (b : List Folder) (n : ℕ) (d : Folder) → n + 1 ≡ length b → last_entries b ≡ (get_or b n d).entries
last_entries-get_or [] n d e = absurd (omega arith)
last_entries-get_or (f ∷ fs) n d e =
    let same : n ≡ length fs = omega arith in
    last_entries_of-get_or f fs d ∙ ap (λ k. (get_or (f ∷ fs) k d).entries) (sym same)

-- what holds of each folder holds after a change of the last that keeps it
all-on_last : (P : Folder → Type 0) (f : Folder → Folder) (x : Folder) (xs : List Folder) → ((y : Folder) → last_entries (x ∷ xs) ≡ y.entries → P y → P (f y)) → All P (x ∷ xs) → All P (on_last f (x ∷ xs))
all-on_last P f x xs keeps all =
    let n = length xs in
    let here : n + 1 ≡ length (x ∷ xs) = omega arith in
    let last = get_or (x ∷ xs) n x in
    subst (All P) (sym (on_last-set f (x ∷ xs) n x here)) (All-set P (x ∷ xs) n (f last) (keeps last (last_entries-get_or (x ∷ xs) n x here) (all n x (omega arith))) all)

length-on_last_of : {A : Type 0} (f : A → A) (x : A) (xs : List A) → length (on_last_of f x xs) ≡ length xs + 1
length-on_last_of f x [] = refl
length-on_last_of f x (y ∷ ys) = omega (arith, length-on_last_of f y ys)

pub length-on_last : {A : Type 0} (f : A → A) (xs : List A) → length (on_last f xs) ≡ length xs
length-on_last f [] = refl
length-on_last f (x ∷ xs) = omega (arith, length-on_last_of f x xs)

pub small-with_entry : (b : List Folder) (e : Entry) → IsWithinCounts b → length (last_entries b) < count_limit → IsWithinCounts (with_entry b e)
small-with_entry [] e small room = small
small-with_entry (x ∷ xs) e small room = record {
  folders = omega (arith, small.folders, length-on_last (with_one_more e) (x ∷ xs));
  entries = small_all _ (all-on_last IsSmallFolder (with_one_more e) x xs (λ y is was. omega (arith, length-append y.entries (e ∷ []), ap length is)) (all_small _ small));
}

named-with_one_more : (e : Entry) (f : Folder) → is_name e.name ≡ true → IsNamedFolder f → IsNamedFolder (with_one_more e f)
named-with_one_more e f lawful named = record { name = named.name; entries = All-push IsNamedEntry f.entries e named.entries (record { name = lawful }) }

pub names-with_entry : (b : List Folder) (e : Entry) → HasLawfulNames b → is_name e.name ≡ true → HasLawfulNames (with_entry b e)
names-with_entry [] e names lawful = names
names-with_entry (x ∷ xs) e names lawful = record { folders = all-on_last IsNamedFolder (with_one_more e) x xs (λ y is was. named-with_one_more e y lawful was) names.folders }

pub last_entries-small : (b : List Folder) → IsWithinCounts b → length (last_entries b) ≤ count_limit
last_entries-small [] small = omega arith
last_entries-small (f ∷ fs) small =
    let here : length fs + 1 ≡ length (f ∷ fs) = omega arith in
    omega (arith, ap length (last_entries-get_or (f ∷ fs) (length fs) f here), all_small (f ∷ fs) small (length fs) f (omega arith))

pub lawful-pushed : (b : List Folder) (f : Folder) (name : List ℕ) → f ≡ record { name = name; entries = [] } → length b < count_limit → is_name name ≡ true → IsWithinCounts b × HasLawfulNames b → IsWithinCounts (b ++ f ∷ []) × HasLawfulNames (b ++ f ∷ [])
lawful-pushed b f name is room lawful all =
    let P : Folder → Type 0 = λ g. IsWithinCounts (b ++ g ∷ []) × HasLawfulNames (b ++ g ∷ []) in
    subst P (sym is) (small-with_folder b name all.0 room, names-with_folder b name all.1 lawful)

pub lawful-entered : (b new : List Folder) (e : Entry) (name text : List ℕ) (is_lost : Bool) → e ≡ record { name = name; text = text; is_lost = is_lost } → new ≡ with_entry b e → length (last_entries b) < count_limit → is_name name ≡ true → IsWithinCounts b × HasLawfulNames b → IsWithinCounts new × HasLawfulNames new
lawful-entered b new e name text is_lost is now room lawful all =
    let P : List Folder → Type 0 = λ c. IsWithinCounts c × HasLawfulNames c in
    let named : is_name e.name ≡ true = ap (λ (f : Entry). is_name f.name) is ∙ lawful in
    subst P (sym now) (small-with_entry b e all.0 room, names-with_entry b e all.1 named)

pub set-with_entry : (b : List Folder) (e : Entry) (n : ℕ) (f : Folder) (es : List Entry) → n + 1 ≡ length b → f ≡ get_or b n f → es ≡ f.entries ++ e ∷ [] → set b n (record { name = f.name; entries = es }) ≡ with_entry b e
set-with_entry b e n f es here is now =
    let changed : record { name = f.name; entries = es } ≡ with_one_more e f = λ i. record { name = f.name; entries = now i } in
    ap (set b n) (changed ∙ ap (with_one_more e) is) ∙ sym (on_last-set (with_one_more e) b n f here)
