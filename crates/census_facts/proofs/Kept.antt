-- What is kept of names.
use Rattle.std.proofs.Common.{is_none, ◌≡◌, ℕ, Bool, true, false, List, [], ◌∷◌, ◌++◌, map, Vec, Global, Some, None, cond, refl, sym, ap, ◌∙◌, nat_eq}
use Rattle.std.specs.Prelude.{find, Option}
use Rattle.std.specs.Cmp.Lexicographic.{pointwise}
use Rattle.std.specs.Map.{lookup}
use Rattle.std.proofs.lemmas.List.{map-append}
use Rattle.std.specs.Option.{option_map}
use Rattle.indexmap.specs.IndexMap.{IndexMap, insert_entry}
use Rattle.indexmap.proofs.CallerLemmas.{insert_entry-new}
use Rattle.census_facts.specs.Names.{entry, Entry, is_of, name_in}
use Rattle.census_facts.specs.Read.{entry_read}

by : (b : Bool) (v : Vec ℕ Global) (e : Entry) (o : Option (Vec ℕ Global)) (f : Option Entry) → e.name ≡ v.items
    → option_map (λ v. v.items) o ≡ option_map (λ e. e.name) f
    → option_map (λ v. v.items) (cond b (Some v) o) ≡ option_map (λ e. e.name) (cond b (Some e) f)
by true v e o f same later = ap Some (sym same)
by false v e o f same later = later

-- looking up a code gives its name
pub looked_up : (code : List ℕ) (kept : List (Vec ℕ Global × Vec ℕ Global))
    → option_map (λ name. name.items) (lookup (λ key. pointwise nat_eq code key.items) kept) ≡ name_in (map entry_read kept) code
looked_up code [] = refl
looked_up code (one ∷ others) =
    by (pointwise nat_eq code one.0.items) one.1 (entry_read one) (lookup (λ key. pointwise nat_eq code key.items) others) (find (is_of code) (map entry_read others)) refl
    (looked_up code others)

none-by : {X Y : Type 0} (f : X → Y) (o : Option X) → is_none (option_map f o) ≡ true → o ≡ None
none-by f None e = refl
none-by f (Some x) e = absurd (cc)

-- a new code goes last
pub kept-more : {S : Type 0} (m : IndexMap (Vec ℕ Global) (Vec ℕ Global) S) (code name : Vec ℕ Global) → is_none (name_in (map entry_read m.entries) code.items) ≡ true
    → map entry_read (insert_entry (λ a b. pointwise nat_eq a.items b.items) m.entries code name) ≡ map entry_read m.entries ++ entry code.items name.items ∷ []
kept-more m code name none =
    ap (map entry_read)
    (insert_entry-new (λ a b. pointwise nat_eq a.items b.items) m code name (none-by (λ (name : Vec ℕ Global). name.items) _ (ap is_none (looked_up code.items m.entries) ∙ none)))
    ∙ map-append entry_read m.entries ((code, name) ∷ [])
