use Rattle.std.proofs.Common.{ap, codes, false, refl, subst, sym}
use Rattle.std.proofs.lemmas.Result.{err_from_is_err_and}
use Rattle.watched.proofs.Prefixes.{front_around, told_around}
use Rattle.watched.specs.Telling.{TellsAfter, TellsFront, sheet}
use Rattle.census_readback.specs.Following.{rows_behind}
use Rattle.census_rows.specs.declared.kinds.Behind.TheVariants as behind
use Rattle.census_table.specs.Contents.{engines}
use Rattle.census_table.specs.Lists.{all_engines}
use Rattle.census_table.specs.Things.{engines_behind}
use Rattle.census_table.specs.Json.{content_json, engine_json, items_text}
use Rattle.census_table.proofs.Items.{no-engine-list}
use Rattle.census_table.proofs.lists.put_engine_list.Goals as goal

pub returns-in_err-put_engines-in-Engines : goal.returns-in_err-put_engines-in-Engines
returns-in_err-put_engines-in-Engines g c =
    let p = err_from_is_err_and c.from_residual.result c.from_residual.ensures.1 in
    let first = sheet c.args.block.now c.args.writer.now in
    let second = sheet c.put.new.block c.put.new.writer in
    let third = sheet c.put_engines.new.block c.put_engines.new.writer in
    let list = all_engines (rows_behind behind.Engines c.args.rows.now) in
    rw p.1
    (subst (λ kind. TellsFront (content_json (engines_behind kind c.args.rows.now)) first third) (sym c.in-Engines.is)
    (front_around (content_json (engines list)) (codes "[") (items_text engine_json false list) (codes "]") refl first second third c.put.ensures
    (subst (λ rows. TellsFront (items_text engine_json false (all_engines rows)) second third) c.rows_behind.ensures c.in_err-put_engines-in-Engines.ensures)))

pub returns-in_ok-put_engines-in-Engines : goal.returns-in_ok-put_engines-in-Engines
returns-in_ok-put_engines-in-Engines g c =
    let first = sheet c.args.block.now c.args.writer.now in
    let second = sheet c.put.new.block c.put.new.writer in
    let third = sheet c.put_engines.new.block c.put_engines.new.writer in
    let last = sheet c.put-in-Engines.new.block c.put-in-Engines.new.writer in
    let list = all_engines (rows_behind behind.Engines c.args.rows.now) in
    subst (λ kind. TellsAfter (content_json (engines_behind kind c.args.rows.now)) first last) (sym c.in-Engines.is)
    (told_around (content_json (engines list)) (codes "[") (items_text engine_json false list) (codes "]") refl first second third c.put.ensures last
    (subst (λ rows. TellsAfter (items_text engine_json false (all_engines rows)) second third) c.rows_behind.ensures c.in_ok-put_engines-in-Engines.ensures)
    c.put-in-Engines.ensures)

pub returns-in_default : goal.returns-in_default
returns-in_default g c =
    let first = sheet c.args.block.now c.args.writer.now in
    let last = sheet c.put-in_default.new.block c.put-in_default.new.writer in
    subst (λ t. TellsAfter t first last) (sym (ap content_json (no-engine-list c.args.kind c.args.rows.now (λ e. c.in_default.not-Engines e)))) c.put-in_default.ensures
