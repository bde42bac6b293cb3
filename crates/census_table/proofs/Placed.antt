-- Objects by their places in reports.
use Rattle.std.proofs.Common.{◌≡◌, ℕ, min, suc, ◌+◌, ◌<◌, ◌≤◌, Option, Some, None, List, [], ◌∷◌, ◌++◌, length, drop, get_or, refl, sym, ap, ◌∙◌, append_assoc, drop-cons, arith}
use Rattle.std.specs.Option.{option_or}
use Rattle.std.specs.List.{cons_option}
use Rattle.std.proofs.lemmas.List.{append-nil, drop_all, get_or_default, length-append}
use Rattle.census_rows.specs.declared.row.Row.{Row}
use Rattle.census_rows.specs.declared.row.Row.TheVariants.{Open, Line, Part, Engine, Emits, Code, Close, End}
use Rattle.census_table.specs.Entries.{entry_of_row}
use Rattle.census_table.specs.Objects.{all_objects, object_of_row, objects_under, section_objects}
use Rattle.census_table.specs.Places.{entry_at, row_in, told_in}
use Rattle.census_table.specs.declared.object.Object.{Object}

-- no row is the line of a pattern of the collection that it opens
none-itself : (number : ℕ) (row : Row) → entry_of_row number row row ≡ None
none-itself number (Open c n name) = refl
none-itself number (Line c i o name) = refl
none-itself number (Part c i code k) = refl
none-itself number (Engine c i e p x y k) = refl
none-itself number (Emits c i e code k) = refl
none-itself number (Code c rule code k) = refl
none-itself number (Close c n a b d) = refl
none-itself number (End n k) = refl

-- the objects that the rows from an index on report, where the last line before them is at another
abbrev pub objects_from : ℕ → List Row → ℕ → ℕ → List Object
objects_from number rows line row = objects_under number (row_in rows 0) (entry_at number rows line) (drop row rows)

pub section-start : (number : ℕ) (rows : List Row) → objects_from number rows 0 1 ≡ section_objects number rows
section-start number [] = refl
section-start number (heading ∷ rows) = ap (λ last. objects_under number heading last rows) (none-itself number heading)

pub section-end : (number : ℕ) (rows : List Row) (line row : ℕ) → drop row rows ≡ [] → objects_from number rows line row ≡ []
section-end number rows line row none = ap (objects_under number (row_in rows 0) (entry_at number rows line)) none

-- with what one row reports
pub row-told : (number : ℕ) (rows : List Row) (line row next : ℕ) → row < length rows
    → entry_at number rows next ≡ option_or (entry_at number rows row) (entry_at number rows line)
    → objects_from number rows line row ≡ cons_option (told_in number rows next row) (objects_from number rows next (row + 1))
row-told number rows line row next less is =
    let heading = row_in rows 0 in
    let here = row_in rows row in
    let cut : drop row rows ≡ here ∷ drop (row + 1) rows =
    drop-cons rows row (End 0 0) less ∙ ap (λ k. here ∷ drop k rows) (let e : suc row ≡ row + 1 = omega arith in e) in
    ap (objects_under number heading (entry_at number rows line)) cut
    ∙ ap (λ entry. cons_option (object_of_row entry here) (objects_under number heading entry (drop (row + 1) rows))) (sym is)

before-some : (told : Option Object) (others : List Object) → cons_option told others ≡ cons_option told [] ++ others
before-some None others = refl
before-some (Some told) others = refl

-- the objects of one more row
pub row-more : (number : ℕ) (rows : List Row) (line row next : ℕ) (told : Option Object) (all old new : List Object) → row < length rows
    → entry_at number rows next ≡ option_or (entry_at number rows row) (entry_at number rows line)
    → told ≡ told_in number rows next row
    → old ++ objects_from number rows line row ≡ all
    → new ≡ old ++ cons_option told []
    → new ++ objects_from number rows next (row + 1) ≡ all
row-more number rows line row next told all old new less is same so_far more =
    let one = cons_option told [] in
    let others = objects_from number rows next (row + 1) in
    let here = row-told number rows line row next less is ∙ ap (λ t. cons_option t others) (sym same) ∙ before-some told others in
    ap (λ os. os ++ others) more ∙ append_assoc old one others ∙ ap (λ os. old ++ os) (sym here) ∙ so_far

-- the number of the objects of one more row
pub row-counted : (number : ℕ) (rows : List Row) (line row next : ℕ) (told : Option Object) → row < length rows
    → entry_at number rows next ≡ option_or (entry_at number rows row) (entry_at number rows line)
    → told ≡ told_in number rows next row
    → length (objects_from number rows line row) ≡ length (cons_option told []) + length (objects_from number rows next (row + 1))
row-counted number rows line row next told less is same =
    let one = cons_option told [] in
    let others = objects_from number rows next (row + 1) in
    ap length (row-told number rows line row next less is ∙ ap (λ t. cons_option t others) (sym same) ∙ before-some told others) ∙ length-append one others

-- what is reported at a place, by the rows of its collection
pub told-here : (sections : List (List Row)) (collection line row : ℕ) (d rows : List Row) → collection < length sections → rows ≡ get_or sections collection d
    → told_in (collection + 1) (get_or sections collection []) line row ≡ told_in (collection + 1) rows line row
told-here sections collection line row d rows less is =
    ap (λ w. told_in (collection + 1) w line row) (get_or_default sections collection [] d less ∙ sym is)

-- all objects of a collection
pub section-told : (number : ℕ) (sections : List (List Row)) (collection line row : ℕ) (d rows : List Row) (old new : List Object) → collection < length sections
    → rows ≡ get_or sections collection d → length rows ≤ row
    → new ++ objects_from number rows line row ≡ old ++ section_objects number rows
    → new ≡ old ++ section_objects number (get_or sections collection [])
section-told number sections collection line row d rows old new less is past all =
    sym (append-nil new) ∙ ap (λ os. new ++ os) (sym (section-end number rows line row (drop_all row rows past))) ∙ all
    ∙ ap (λ w. old ++ section_objects number w) (is ∙ get_or_default sections collection d [] less)

pub section-counted : (number : ℕ) (sections : List (List Row)) (collection line row count : ℕ) (d rows : List Row) → collection < length sections
    → rows ≡ get_or sections collection d → length rows ≤ row
    → count + length (objects_from number rows line row) ≡ length (section_objects number rows)
    → count ≡ length (section_objects number (get_or sections collection []))
section-counted number sections collection line row count d rows less is past all =
    let none : length (objects_from number rows line row) ≡ 0 = ap length (section-end number rows line row (drop_all row rows past)) in
    let same = ap (λ w. length (section_objects number w)) (is ∙ get_or_default sections collection d [] less) in
    omega (arith, none, all, same)

-- a count that is kept within a limit
pub min-more : (count some others all limit : ℕ) → min (count + (some + others)) limit ≡ all → min (min (count + some) limit + others) limit ≡ all
min-more count some others all limit is = omega (arith, is)

-- the objects of a collection, and those of the collections after it
pub sections-told : (sections : List (List Row)) (i : ℕ) → i < length sections
    → all_objects (i + 1) (drop i sections) ≡ section_objects (i + 1) (get_or sections i []) ++ all_objects (i + 1 + 1) (drop (i + 1) sections)
sections-told sections i less =
    ap (all_objects (i + 1)) (drop-cons sections i [] less ∙ ap (λ k. get_or sections i [] ∷ drop k sections) (let e : suc i ≡ i + 1 = omega arith in e))
