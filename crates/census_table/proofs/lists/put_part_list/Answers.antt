use Rattle.std.proofs.Common.{◌∙◌, ◌++◌, ap, codes, false, subst, sym}
use Rattle.std.specs.List.{filter_map}
use Rattle.watched.specs.Telling.{TellsAfter, sheet}
use Rattle.census_table.specs.Json.{content_json, items_text, portion_json}
use Rattle.census_table.specs.Lists.{portion_of}
use Rattle.census_table.specs.Things.{parts_behind}
use Rattle.census_table.specs.Written.{Puts}
use Rattle.census_table.proofs.Items.{no-part-list}
use Rattle.census_table.proofs.lists.put_part_list.Goals as goal

pub returns-in-Parts : goal.returns-in-Parts
returns-in-Parts g c =
    let first = sheet c.args.block.now c.args.writer.now in
    let last = sheet c.put_between.new.block c.put_between.new.writer in
    subst (λ t. Puts t c.put_between.result first last)
    (ap (λ rows. codes "[" ++ (items_text portion_json false (filter_map portion_of rows) ++ codes "]")) c.rows_behind-parts.ensures
    ∙ sym (ap (λ kind. content_json (parts_behind kind c.args.rows.now)) c.in-Parts.is))
    c.put_between.ensures

pub returns-in_default : goal.returns-in_default
returns-in_default g c =
    subst (λ t. TellsAfter t (sheet c.args.block.now c.args.writer.now) (sheet c.put.new.block c.put.new.writer))
    (sym (ap content_json (no-part-list c.args.kind c.args.rows.now (λ e. c.in_default.not-Parts e)))) c.put.ensures
