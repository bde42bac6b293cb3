-- Patterns by their places in reports.
use Rattle.std.proofs.Common.{◌≡◌, ℕ, suc, ◌+◌, ◌<◌, true, false, Option, Some, None, List, [], ◌∷◌, ◌++◌, length, drop, get_or, refl, sym, ap, ◌∙◌, append_assoc, append-nil, drop-cons, arith, map, true≢false}
use Rattle.std.specs.List.{cons_option}
use Rattle.std.specs.Borrow.{Bor}
use Rattle.std.specs.Option.{is_some, unwrap_or}
use Rattle.std.proofs.lemmas.List.{get_or_default, map-append}
use Rattle.census_rows.specs.declared.row.Row.{Row}
use Rattle.census_rows.specs.declared.row.Row.TheVariants.{End}
use Rattle.census_table.specs.Places.{row_in}
use Rattle.census_table.specs.declared.place.Place.{Place}
use Rattle.census_compare.specs.SamePatterns.{collection_after, told_by, told_from}
use Rattle.census_compare.specs.Places.{row_at, told_at}
use Rattle.census_compare.specs.declared.told.Told.{Told}

-- the pattern of a row in a collection
told-unpacked : (nothing : Told) (opened : Option (Bor (List ℕ))) (row : Row) (told : Told) → told_by opened row ≡ Some told
    → unwrap_or (told_by (Some (unwrap_or opened nothing.collection)) row) nothing ≡ told
told-unpacked nothing None row told some = absurd (cc)
told-unpacked nothing (Some name) row told some = ap (λ t. unwrap_or t nothing) some

-- a row, by the row of its collection
row-here : (sections : List (List Row)) (collection i : ℕ) (d rows : List Row) → collection < length sections → rows ≡ get_or sections collection d
    → row_at sections collection i ≡ row_in rows i
row-here sections collection i d rows less is = ap (λ w. row_in w i) (get_or_default sections collection [] d less ∙ sym is)

pub row-there : (rows : List Row) (i : ℕ) (row : Row) → i < length rows → row ≡ get_or rows i row → row_in rows i ≡ row
row-there rows i row less is = get_or_default rows i (End 0 0) row less ∙ sym is

-- what is reported at a place, where the row at it has a pattern
pub told-there : (nothing : Told) (sections : List (List Row)) (place : Place) (d rows : List Row) (opened : Option (Bor (List ℕ))) (row : Row)
    → place.collection < length sections → rows ≡ get_or sections place.collection d → opened ≡ collection_after None (row_in rows place.under)
    → row_in rows place.row ≡ row → (told : Told) → told_by opened row ≡ Some told → told_at nothing sections place ≡ told
told-there nothing sections place d rows opened row less is after here told some =
    let heading : row_at sections place.collection place.under ≡ row_in rows place.under = row-here sections place.collection place.under d rows less is in
    let own : row_at sections place.collection place.row ≡ row = row-here sections place.collection place.row d rows less is ∙ here in
    ap (λ r. unwrap_or (told_by (Some (unwrap_or (collection_after None (row_at sections place.collection place.under)) nothing.collection)) r) nothing) own
    ∙ ap (λ h. unwrap_or (told_by (Some (unwrap_or (collection_after None h) nothing.collection)) row) nothing) heading
    ∙ ap (λ (o : Option (Bor (List ℕ))). unwrap_or (told_by (Some (unwrap_or o nothing.collection)) row) nothing) (sym after)
    ∙ told-unpacked nothing opened row told some

-- ---- row by row

next-drop : {X : Type 0} (xs : List X) (i : ℕ) (d : X) → i < length xs → drop i xs ≡ get_or xs i d ∷ drop (i + 1) xs
next-drop xs i d less = drop-cons xs i d less ∙ ap (λ k. get_or xs i d ∷ drop k xs) (let e : suc i ≡ i + 1 = omega arith in e)

before-some : (told : Option Told) (others : List Told) → cons_option told others ≡ cons_option told [] ++ others
before-some None others = refl
before-some (Some told) others = refl

-- the patterns of one more row
pub row-more : (opened next : Option (Bor (List ℕ))) (rows : List Row) (i : ℕ) (row : Row) (all old new : List Told) → i < length rows
    → row ≡ get_or rows i row → next ≡ collection_after opened row
    → old ++ told_from opened (drop i rows) ≡ all
    → new ≡ old ++ cons_option (told_by next row) []
    → new ++ told_from next (drop (i + 1) rows) ≡ all
row-more opened next rows i row all old new less is after so_far more =
    let one = cons_option (told_by next row) [] in
    let others = told_from next (drop (i + 1) rows) in
    let here : told_from opened (drop i rows) ≡ one ++ others =
    ap (told_from opened) (next-drop rows i row less ∙ ap (λ r. r ∷ drop (i + 1) rows) (sym is))
    ∙ ap (λ (o : Option (Bor (List ℕ))). cons_option (told_by o row) (told_from o (drop (i + 1) rows))) (sym after)
    ∙ before-some (told_by next row) others in
    ap (λ ts. ts ++ others) more ∙ append_assoc old one others ∙ ap (λ ts. old ++ ts) (sym here) ∙ so_far

module _ (at : Place → Told) (told : Option Told) (places : List Place) where
  -- where the row has a pattern, its place is added
  pub place-more : (place : Place) → is_some told ≡ true → ((one : Told) → told ≡ Some one → at place ≡ one)
      → map at (places ++ place ∷ []) ≡ map at places ++ cons_option told []
  place-more place there is = map-append at places (place ∷ []) ∙ ap (λ ts. map at places ++ ts) (go told there is)
    where
      go : (told : Option Told) → is_some told ≡ true → ((one : Told) → told ≡ Some one → at place ≡ one) → at place ∷ [] ≡ cons_option told []
      go None there is = absurd (true≢false (sym there))
      go (Some one) there is = ap (λ t. t ∷ []) (is one refl)

  -- where the row has no pattern, no place is added
  pub place-none : is_some told ≡ false → map at places ≡ map at places ++ cons_option told []
  place-none none = sym (append-nil (map at places)) ∙ ap (λ ts. map at places ++ ts) (go told none)
    where
      go : (told : Option Told) → is_some told ≡ false → [] ≡ cons_option told []
      go None none = refl
      go (Some one) none = absurd (true≢false none)
