-- The folders of a folder that were found, and those that were lost.
use Rattle.std.proofs.Common.{◌≡◌, ℕ, Bool, true, false, not, List, [], ◌∷◌, ◌++◌, map, IsUtf8, refl, sym, ap, ◌∙◌, append_assoc, append-nil}
use Rattle.std.specs.List.{filter}
use Rattle.std.specs.Str.{is_utf8}
use Rattle.std.proofs.lemmas.Bool.{false_from_ne_true}
use Rattle.std.proofs.lemmas.List.{append_cancel_left, map-append}
use Rattle.std.proofs.lemmas.List.Elements.{filter-append}
use Rattle.std.proofs.lemmas.Str.{IsUtf8-from_is_utf8, is_utf8-from_IsUtf8}
use Rattle.census_folders.specs.declared.fault.SourceFault.{SourceFault}
use Rattle.census_folders.specs.declared.fault.SourceFault.TheVariants.{Lost, Unnamed, TooMany, Memory}
use Rattle.census_folders.specs.declared.loss.Cause.TheVariants as cause
use Rattle.census_folders.specs.declared.loss.Loss.{Loss}
use Rattle.census_folders.specs.declared.loss.OnLoss.{OnLoss}
use Rattle.census_folders.specs.declared.loss.OnLoss.TheVariants.{Stop, Keep}
use Rattle.census_folders.specs.Losses.{IsFirst, StopsAt, lost_at}
use Rattle.census_folders.specs.Paths.{is_any, path_of}
use Rattle.census_folders.specs.Told.{silent}
use Rattle.census_folders.specs.Walks.{AreAllowed, lost_names}

-- # One name

pub found_one : (folder name : List ℕ) → IsUtf8 name → map (path_of folder) (filter is_utf8 (name ∷ [])) ≡ path_of folder name ∷ []
found_one folder name lawful = rw (is_utf8-from_IsUtf8 name lawful) refl

pub found_none : (folder name : List ℕ) → ¬ (IsUtf8 name) → map (path_of folder) (filter is_utf8 (name ∷ [])) ≡ []
found_none folder name foreign = rw (false_from_ne_true (is_utf8 name) (λ lawful. foreign (IsUtf8-from_is_utf8 name lawful))) refl

pub lost_none : (folder name : List ℕ) → IsUtf8 name → lost_names folder (name ∷ []) ≡ []
lost_none folder name lawful = rw (is_utf8-from_IsUtf8 name lawful) refl

pub lost_one : (folder name : List ℕ) → ¬ (IsUtf8 name) → lost_names folder (name ∷ []) ≡ lost_at (path_of folder name) (cause.Unread silent) ∷ []
lost_one folder name foreign = rw (false_from_ne_true (is_utf8 name) (λ lawful. foreign (IsUtf8-from_is_utf8 name lawful))) refl

-- # Several names

pub taken : (name : List ℕ) (left rest : List (List ℕ)) → left ≡ name ∷ rest → is_any name ≡ true → filter is_any left ≡ name ∷ filter is_any rest
taken name left rest is any = rw (is, any) refl

pub passed : (name : List ℕ) (left rest : List (List ℕ)) → left ≡ name ∷ rest → is_any name ≡ false → filter is_any left ≡ filter is_any rest
passed name left rest is any = rw (is, any) refl

-- what a name gives comes before what the others give
given_first : {X : Type 0} (give : List ℕ → X) (test : List ℕ → Bool) (name : List ℕ) (names : List (List ℕ)) → map give (filter test (name ∷ names)) ≡ map give (filter test (name ∷ [])) ++ map give (filter test names)
given_first give test name names = ap (map give) (filter-append test (name ∷ []) names) ∙ map-append give (filter test (name ∷ [])) (filter test names)

-- what the next name gives was added
pub add_on : {X : Type 0} (give : List ℕ → X) (test : List ℕ → Bool) (name : List ℕ) (done more whole : List X) (left rest : List (List ℕ)) → left ≡ name ∷ rest → is_any name ≡ true
    → more ≡ done ++ map give (filter test (name ∷ [])) → done ++ map give (filter test (filter is_any left)) ≡ whole → more ++ map give (filter test (filter is_any rest)) ≡ whole
add_on give test name done more whole left rest is any added before =
    let names = filter is_any rest in
    let here : map give (filter test (filter is_any left)) ≡ map give (filter test (name ∷ [])) ++ map give (filter test names) =
    ap (λ ns. map give (filter test ns)) (taken name left rest is any) ∙ given_first give test name names in
    ap (λ xs. xs ++ map give (filter test names)) added ∙ append_assoc done (map give (filter test (name ∷ []))) (map give (filter test names)) ∙ ap (λ xs. done ++ xs) (sym here) ∙ before

-- an empty name gives nothing
pub pass_on : {X : Type 0} (give : List ℕ → X) (test : List ℕ → Bool) (name : List ℕ) (done whole : List X) (left rest : List (List ℕ)) → left ≡ name ∷ rest → is_any name ≡ false
    → done ++ map give (filter test (filter is_any left)) ≡ whole → done ++ map give (filter test (filter is_any rest)) ≡ whole
pass_on give test name done whole left rest is any before = ap (λ ns. done ++ map give (filter test ns)) (sym (passed name left rest is any)) ∙ before

-- # Where it ends

-- where nothing was lost so far, and nothing is in the next name, nothing was lost
pub still_none : (on_loss : OnLoss) (old mid new more : List Loss) → (on_loss ≡ Stop → mid ≡ old) → new ≡ mid ++ more → AreAllowed on_loss more → on_loss ≡ Stop → new ≡ old
still_none on_loss old mid new more before added allowed stop = added ∙ ap (λ ls. mid ++ ls) (allowed stop) ∙ append-nil mid ∙ before stop

-- nothing was lost in all
pub none_lost : (on_loss : OnLoss) (old new whole : List Loss) → (on_loss ≡ Stop → new ≡ old) → new ≡ old ++ whole → AreAllowed on_loss whole
none_lost on_loss old new whole before all stop = append_cancel_left old whole [] (sym all ∙ before stop ∙ sym (append-nil old))

-- what is lost first in the next name is what is lost first in all
first_of_them : (on_loss : OnLoss) (folder name : List ℕ) (old mid : List Loss) (left rest all : List (List ℕ)) (loss : Loss) → left ≡ name ∷ rest → is_any name ≡ true
    → (on_loss ≡ Stop → mid ≡ old) → mid ++ lost_names folder (filter is_any left) ≡ old ++ lost_names folder all
    → on_loss ≡ Stop → IsFirst (lost_names folder (name ∷ [])) loss → IsFirst (lost_names folder all) loss
first_of_them on_loss folder name old mid left rest all loss is any none whole stop first =
    let give = (λ (n : List ℕ). lost_at (path_of folder n) (cause.Unread silent)) in
    let names = filter is_any rest in
    let same : lost_names folder (filter is_any left) ≡ lost_names folder all = append_cancel_left old (lost_names folder (filter is_any left)) (lost_names folder all) (ap (λ ls. ls ++ lost_names folder (filter is_any left)) (sym (none stop)) ∙ whole) in
    let here : lost_names folder (filter is_any left) ≡ lost_names folder (name ∷ []) ++ lost_names folder names = ap (lost_names folder) (taken name left rest is any) ∙ given_first give (λ n. not (is_utf8 n)) name names in
    (first.0 ++ lost_names folder names, sym same ∙ here ∙ ap (λ ls. ls ++ lost_names folder names) first.1)

pub first_of_all : (on_loss : OnLoss) (folder name : List ℕ) (old mid : List Loss) (left rest all : List (List ℕ)) (fault : SourceFault) → left ≡ name ∷ rest → is_any name ≡ true
    → (on_loss ≡ Stop → mid ≡ old) → mid ++ lost_names folder (filter is_any left) ≡ old ++ lost_names folder all
    → StopsAt on_loss (IsFirst (lost_names folder (name ∷ []))) ⊥ fault → StopsAt on_loss (IsFirst (lost_names folder all)) ⊥ fault
first_of_all on_loss folder name old mid left rest all (Lost loss) is any none whole why =
    (why.0, first_of_them on_loss folder name old mid left rest all loss is any none whole why.0 why.1)
first_of_all on_loss folder name old mid left rest all (Unnamed cause_) is any none whole why =
    (why.0, why.1, first_of_them on_loss folder name old mid left rest all (lost_at why.1 cause_) is any none whole why.0 why.2)
first_of_all on_loss folder name old mid left rest all TooMany is any none whole why = why
first_of_all on_loss folder name old mid left rest all Memory is any none whole why = tt

-- one loss in place of another
pub weaker : (on_loss : OnLoss) (P Q : Loss → Type 0) (fault : SourceFault) → ((loss : Loss) → P loss → Q loss) → StopsAt on_loss P ⊥ fault → StopsAt on_loss Q ⊥ fault
weaker on_loss P Q (Lost loss) goes why = (why.0, goes loss why.1)
weaker on_loss P Q (Unnamed cause_) goes why = (why.0, why.1, goes (lost_at why.1 cause_) why.2)
weaker on_loss P Q TooMany goes why = why
weaker on_loss P Q Memory goes why = tt

-- reading does not continue where it ends
pub never : {A : Type 0} (on_loss : OnLoss) → on_loss ≡ Keep → on_loss ≡ Stop → A
never on_loss keep stop = absurd cc
