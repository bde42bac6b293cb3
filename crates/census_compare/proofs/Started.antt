-- The patterns of folders, entry by entry.
use Rattle.std.proofs.Common.{◌≡◌, ℕ, ◌+◌, ◌<◌, Bool, false, List, [], ◌∷◌, ◌++◌, Option, Some, None, Result, Ok, Err, codes, map, take, get_or, sym, ap, ◌∙◌, append-nil, append_assoc, length}
use Rattle.std.specs.List.{cons_option, filter_map, flat_map}
use Rattle.std.specs.Option.{option_map}
use Rattle.std.specs.Prelude.{if◌then◌else◌}
use Rattle.std.specs.Result.{result_ok}
use Rattle.std.proofs.lemmas.List.{map_push, take_more}
use Rattle.std.proofs.lemmas.List.Concat.{flat_map-append}
use Rattle.std.proofs.lemmas.List.Elements.{filter_map-append}
use Rattle.life_cells.specs.Rules.{rule_text}
use Rattle.life_text.specs.declared.rle.RleFault.{RleFault}
use Rattle.life_text.specs.Picture.{Picture, picture_of}
use Rattle.life_text.specs.Rle.{Meaning, fault_of, reading, refusal}
use Rattle.census_bundle.specs.declared.bundle.Entry.{Entry}
use Rattle.census_bundle.specs.declared.bundle.Folder.{Folder}
use Rattle.census_compare.specs.Alike.{least_body}
use Rattle.census_compare.specs.Starts.{Start, picture_in, start_in, start_with, starts_of}
use Rattle.census_compare.specs.StartsRead.{start_read}
use Rattle.census_compare.specs.declared.starts.Begun.{Begun}

-- a text with a fault means nothing
no-picture : (read : Result Meaning RleFault) (fault : RleFault) → fault_of read ≡ Some fault → picture_of read ≡ Err fault
no-picture (Ok meaning) fault is = absurd (cc)
no-picture (Err other) fault is = let same : other ≡ fault = cc in ap Err same

-- nor does the text of an entry that has one
pub no-start : (e : Entry) (text : List ℕ) (fault : RleFault) → e.is_lost ≡ false → text ≡ e.text → refusal text ≡ Some fault → None ≡ picture_in e
no-start e text fault there is refused =
    sym (ap (λ (b : Bool). if b then None else result_ok (picture_of (reading e.text))) there
    ∙ ap result_ok (no-picture (reading e.text) fault (ap refusal (sym is) ∙ refused)))

module _ (old : List Begun) (collection : List ℕ) (e : Entry) where
  -- with the pattern of one more entry
  pub start-more : (s : Begun) (p : Picture) → Some p ≡ picture_in e → s.rule.items ≡ rule_text p.rule → s.code.items ≡ codes "_" ++ least_body p.cells
      → s.collection.now ≡ collection → s.name.now ≡ e.name
      → map start_read (old ++ s ∷ []) ≡ map start_read old ++ cons_option (start_in collection e) []
  start-more s p is rule code own name =
      let same : start_read s ≡ start_with collection e.name p = λ k. record { rule = rule k; code = code k; collection = own k; name = name k } in
      map_push start_read old s
      ∙ ap (λ (n : Start). map start_read old ++ n ∷ []) same
      ∙ ap (λ (o : Option Picture). map start_read old ++ cons_option (option_map (start_with collection e.name) o) []) is

  -- with an entry that has none
  pub start-none : None ≡ picture_in e → map start_read old ≡ map start_read old ++ cons_option (start_in collection e) []
  start-none is =
      sym (append-nil (map start_read old))
      ∙ ap (λ (o : Option Picture). map start_read old ++ cons_option (option_map (start_with collection e.name) o) []) is

-- what comes of one more of several things
more : {X : Type 0} (f : List X → List Start) → ((xs ys : List X) → f (xs ++ ys) ≡ f xs ++ f ys) → (xs : List X) (i : ℕ) (d : X) (old mid new : List Start) → i < length xs
    → mid ≡ old ++ f (take i xs) → new ≡ mid ++ f (get_or xs i d ∷ []) → new ≡ old ++ f (take (i + 1) xs)
more f join xs i d old mid new less so_far is =
    is
    ∙ ap (λ ys. ys ++ f (get_or xs i d ∷ [])) so_far
    ∙ append_assoc old (f (take i xs)) (f (get_or xs i d ∷ []))
    ∙ ap (λ ys. old ++ ys) (sym (join (take i xs) (get_or xs i d ∷ [])) ∙ ap f (sym (take_more xs i d less)))

-- of an entry
pub entry-more : (collection : List ℕ) (entries : List Entry) (i : ℕ) (d : Entry) (old mid new : List Start) → i < length entries
    → mid ≡ old ++ filter_map (start_in collection) (take i entries)
    → new ≡ mid ++ cons_option (start_in collection (get_or entries i d)) []
    → new ≡ old ++ filter_map (start_in collection) (take (i + 1) entries)
entry-more collection = more (filter_map (start_in collection)) (filter_map-append (start_in collection))

-- of a folder
pub folder-more : (folders : List Folder) (i : ℕ) (d : Folder) (mid new : List Start) → i < length folders
    → mid ≡ starts_of (take i folders)
    → new ≡ mid ++ filter_map (start_in (get_or folders i d).name) (get_or folders i d).entries
    → new ≡ starts_of (take (i + 1) folders)
folder-more folders i d mid new less so_far is =
    let own = filter_map (start_in (get_or folders i d).name) (get_or folders i d).entries in
    more starts_of (flat_map-append (λ folder. filter_map (start_in folder.name) folder.entries)) folders i d [] mid new less so_far
    (is ∙ ap (λ ns. mid ++ ns) (sym (append-nil own)))
