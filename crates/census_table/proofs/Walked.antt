-- What a table has rows for, from a place on.
use Rattle.std.proofs.Common.{◌≡◌, ℕ, zero, suc, ◌+◌, ◌<◌, ◌≤◌, Option, None, Some, List, [], ◌∷◌, ◌++◌, length, map, drop, get_or, refl, sym, ap, ◌∙◌, append-nil, append_assoc, drop-cons, arith}
use Rattle.std.proofs.lemmas.Grind.{flat_map-append}
use Rattle.std.proofs.lemmas.List.{drop_all}
use Rattle.std.specs.List.{cons_option}
use Rattle.std.specs.Option.{option_map}
use Rattle.census_rows.specs.declared.row.Row.{Row}
use Rattle.census_table.specs.Entries.{entries_under, entry_of_row, with_way}
use Rattle.census_table.specs.Called.{Names}
use Rattle.census_table.specs.Emitting.{last_after}
use Rattle.census_table.specs.Tables.{row_line, table_from, table_size, thing_row, things_text}
use Rattle.census_table.specs.Things.{all_things, kind_thing, lines_size, section_things, thing_of, things_from, things_under}
use Rattle.census_table.specs.declared.engine.Last.{Last}
use Rattle.census_table.specs.declared.entry.Entry.{Entry}
use Rattle.census_table.specs.declared.object.Object.{Object}
use Rattle.census_table.specs.declared.thing.Item.{Item}
use Rattle.census_table.specs.declared.lines.Lines.{Lines}
use Rattle.census_table.specs.declared.lines.Lines.TheVariants.{Rows, Kinds}
use Rattle.census_table.specs.declared.subject.Table.{Table}
use Rattle.census_table.specs.declared.subject.Table.TheVariants as table
use Rattle.census_table.specs.declared.table.Format.{Format}
use Rattle.census_table.specs.declared.thing.Item.TheVariants as item
use Rattle.census_table.specs.declared.thing.Thing.{Thing}

next : {X : Type 0} (xs : List X) (i : ℕ) (d x : X) → i < length xs → x ≡ get_or xs i d → drop i xs ≡ x ∷ drop (i + 1) xs
next xs i d x less is =
    drop-cons xs i d less ∙ ap (λ k. get_or xs i d ∷ drop k xs) (let e : suc i ≡ i + 1 = omega arith in e) ∙ ap (λ y. y ∷ drop (i + 1) xs) (sym is)

-- what one row adds, and those after it
pub row-first : (of : Item) (number : ℕ) (heading : Row) (last : Last) (rows : List Row) (i : ℕ) (d row : Row) (behind : List Row) → i < length rows
    → row ≡ get_or rows i d → behind ≡ drop (i + 1) rows
    → things_under of number heading last (drop i rows)
    ≡ cons_option (thing_of of (entry_of_row number heading row) (last_after number heading last row behind) row behind)
    (things_under of number heading (last_after number heading last row behind) (drop (i + 1) rows))
row-first of number heading last rows i d row behind less is are =
    let own = entry_of_row number heading row in
    ap (things_under of number heading last) (next rows i d row less is)
    ∙ ap (λ rs. cons_option (thing_of of own (last_after number heading last row rs) row rs) (things_under of number heading (last_after number heading last row rs) (drop (i + 1) rows))) (sym are)

cons-both : (own : Option Entry) (entries : List Entry) → cons_option own [] ++ entries ≡ cons_option own entries
cons-both None entries = refl
cons-both (Some entry) entries = refl

-- the pattern of one row, and those after it
pub entry-more : (number : ℕ) (heading : Row) (rows : List Row) (i : ℕ) (row : Row) (behind : List Row) (before now whole : List Entry) → i < length rows
    → row ≡ get_or rows i row → behind ≡ drop (i + 1) rows → before ++ entries_under number heading (drop i rows) ≡ whole
    → now ≡ before ++ cons_option (option_map (λ entry. with_way entry behind) (entry_of_row number heading row)) []
    → now ++ entries_under number heading (drop (i + 1) rows) ≡ whole
entry-more number heading rows i row behind before now whole less is are so_far more =
    let others = entries_under number heading (drop (i + 1) rows) in
    let own = option_map (λ entry. with_way entry behind) (entry_of_row number heading row) in
    let cut : entries_under number heading (drop i rows) ≡ cons_option own others =
    ap (entries_under number heading) (next rows i row row less is)
    ∙ ap (λ rs. cons_option (option_map (λ entry. with_way entry rs) (entry_of_row number heading row)) others) (sym are) in
    ap (λ (es : List Entry). es ++ others) more ∙ append_assoc before (cons_option own []) others
    ∙ ap (λ (es : List Entry). before ++ es) (cons-both own others ∙ sym cut) ∙ so_far

-- one kind, and those after it
pub kind-first : (total : ℕ) (kinds : List Object) (i : ℕ) (d kind : Object) → i < length kinds → kind ≡ get_or kinds i d
    → map (kind_thing total) (drop i kinds) ≡ kind_thing total kind ∷ map (kind_thing total) (drop (i + 1) kinds)
kind-first total kinds i d kind less is = ap (map (kind_thing total)) (next kinds i d kind less is)

-- what a collection adds, and those after it
pub section-first : (of : Item) (sections : List (List Row)) (i : ℕ) → i < length sections
    → all_things of (i + 1) (drop i sections) ≡ section_things of (i + 1) (get_or sections i []) ++ all_things of (i + 1 + 1) (drop (i + 1) sections)
section-first of sections i less = ap (all_things of (i + 1)) (next sections i [] (get_or sections i []) less refl)

-- nothing is left
pub lines-end : (lines : Lines) (last : Last) (i : ℕ) → lines_size lines ≤ i → things_from lines last i ≡ []
lines-end (Rows of number heading rows) last i over = ap (things_under of number heading last) (drop_all i rows over)
lines-end (Kinds kinds total) last i over = ap (map (kind_thing total)) (drop_all i kinds.now over)

pub table-end : (t : Table) (i : ℕ) → table_size t ≤ i → table_from t i ≡ []
table-end (table.Patterns sections) i over = ap (all_things item.Pattern (i + 1)) (drop_all i sections over)
table-end (table.Parts sections) i over = ap (all_things item.Part (i + 1)) (drop_all i sections over)
table-end (table.Engines sections) i over = ap (all_things item.Emitted (i + 1)) (drop_all i sections over)
table-end (table.Codes choice kinds total) zero over = absurd (omega arith)
table-end (table.Codes choice kinds total) (suc i) over = refl

-- # Their texts

-- the row of one thing, if there is one, and those of others
pub thing-first : (names : Names) (format : Format) (one : Option Thing) (others all : List Thing) → all ≡ cons_option one others
    → things_text names format all ≡ things_text names format (cons_option one []) ++ things_text names format others
thing-first names format None others all is = ap (things_text names format) is
thing-first names format (Some thing) others all is =
    ap (things_text names format) is ∙ ap (λ t. t ++ things_text names format others) (sym (append-nil (row_line format (thing_row names format thing))))

-- the rows of things, and those of others
pub things-append : (names : Names) (format : Format) (some others all : List Thing) → all ≡ some ++ others
    → things_text names format all ≡ things_text names format some ++ things_text names format others
things-append names format some others all is =
    ap (things_text names format) is ∙ flat_map-append (λ thing. row_line format (thing_row names format thing)) some others
