-- A table of patterns has as many rows as a report has `line` rows.
use Rattle.std.proofs.Common.{◌≡◌, ℕ, ◌+◌, Option, Some, None, List, [], ◌∷◌, ◌++◌, length, refl, sym, ap, ap₂, ◌∙◌, suc}
use Rattle.std.specs.List.{cons_option}
use Rattle.std.specs.Option.{option_map}
use Rattle.std.proofs.lemmas.List.{length-append}
use Rattle.census_rows.specs.declared.row.Row.{Row}
use Rattle.census_readback.specs.Shapes.{AreReports, any_outcome, lines_that}
use Rattle.census_readback.specs.Grouped.{collections_of}
use Rattle.census_table.specs.Emitting.{last_after, no_last}
use Rattle.census_table.specs.Entries.{all_entries, entries_under, entry_of_row, section_entries, with_way}
use Rattle.census_table.specs.Things.{all_things, section_things, things_of, things_under}
use Rattle.census_table.specs.declared.engine.Last.{Last}
use Rattle.census_table.specs.declared.entry.Entry.{Entry}
use Rattle.census_table.specs.declared.thing.Item.TheVariants as item
use Rattle.census_table.specs.declared.thing.Thing.{Thing}
use Rattle.census_table.specs.declared.thing.Thing.TheVariants.{Pattern}
use Rattle.census_table.proofs.Counts.{entries-size}

row-size : (own : Option Entry) (rows : List Row) (things : List Thing) (entries : List Entry) → length things ≡ length entries
    → length (cons_option (option_map (λ entry. Pattern (with_way entry rows) rows) own) things)
    ≡ length (cons_option (option_map (λ entry. with_way entry rows) own) entries)
row-size None rows things entries same = same
row-size (Some entry) rows things entries same = ap suc same

under-size : (number : ℕ) (heading : Row) (last : Last) (rows : List Row)
    → length (things_under item.Pattern number heading last rows) ≡ length (entries_under number heading rows)
under-size number heading last [] = refl
under-size number heading last (row ∷ rows) =
    let own = entry_of_row number heading row in
    let next = last_after number heading last row rows in
    row-size own rows (things_under item.Pattern number heading next rows) (entries_under number heading rows)
    (under-size number heading next rows)

section-size : (number : ℕ) (rows : List Row) → length (section_things item.Pattern number rows) ≡ length (section_entries number rows)
section-size number [] = refl
section-size number (heading ∷ rows) = under-size number heading no_last rows

all-size : (number : ℕ) (sections : List (List Row)) → length (all_things item.Pattern number sections) ≡ length (all_entries number sections)
all-size number [] = refl
all-size number (rows ∷ sections) =
    length-append (section_things item.Pattern number rows) (all_things item.Pattern (number + 1) sections)
    ∙ ap₂ (λ (m n : ℕ). m + n) (section-size number rows) (all-size (number + 1) sections)
    ∙ sym (length-append (section_entries number rows) (all_entries (number + 1) sections))

pub patterns-size : (rows : List Row) → AreReports rows → length (things_of item.Pattern rows) ≡ lines_that any_outcome rows
patterns-size rows is = all-size 1 (collections_of [] rows) ∙ entries-size rows is
