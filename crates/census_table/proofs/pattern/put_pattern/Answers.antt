use Rattle.std.proofs.Common.{◌∙◌, ◌++◌, refl, subst, sym}
use Rattle.std.proofs.lemmas.Result.{err_from_is_err_and}
use Rattle.std.specs.Option.{option_copied}
use Rattle.watched.specs.Telling.{TellsAfter, TellsFront, sheet}
use Rattle.watched.proofs.Prefixes.{front_around, front_more, front_none, told_around}
use Rattle.census_rows.specs.Kinds.{said}
use Rattle.census_table.specs.Json.{content_json, end_of, head_of, json_line, middle_of}
use Rattle.census_table.specs.Tables.{thing_row}
use Rattle.census_table.specs.Things.{engines_behind, parts_behind}
use Rattle.census_table.specs.declared.table.Format.TheVariants.{Json}
use Rattle.census_table.specs.declared.thing.Thing.TheVariants.{Pattern}
use Rattle.census_table.proofs.Items.{line-pieces}
use Rattle.census_table.proofs.pattern.put_pattern.Goals as goal

pub returns-in_err-head : goal.returns-in_err-head
returns-in_err-head g c =
    let p = err_from_is_err_and c.from_residual.result c.from_residual.ensures.1 in
    rw p.1 (front_none (json_line (thing_row (option_copied c.args.names) Json (Pattern c.args.entry.now c.args.rows.now))) (sheet c.args.block.now c.args.writer.now))

pub returns-in_err-middle : goal.returns-in_err-middle
returns-in_err-middle g c =
    let p = err_from_is_err_and c.from_residual-in_err-middle.result c.from_residual-in_err-middle.ensures.1 in
    rw p.1 (front_none (json_line (thing_row (option_copied c.args.names) Json (Pattern c.args.entry.now c.args.rows.now))) (sheet c.args.block.now c.args.writer.now))

pub returns-in_err-end : goal.returns-in_err-end
returns-in_err-end g c =
    let p = err_from_is_err_and c.from_residual-in_err-end.result c.from_residual-in_err-end.ensures.1 in
    rw p.1 (front_none (json_line (thing_row (option_copied c.args.names) Json (Pattern c.args.entry.now c.args.rows.now))) (sheet c.args.block.now c.args.writer.now))

pub returns-in_err-put_engine_list : goal.returns-in_err-put_engine_list
returns-in_err-put_engine_list g c =
    let p = err_from_is_err_and c.from_residual-in_err-put_engine_list.result c.from_residual-in_err-put_engine_list.ensures.1 in
    let names = option_copied c.args.names in
    let entry = c.args.entry.now in
    let line = json_line (thing_row names Json (Pattern entry c.args.rows.now)) in
    let s0 = sheet c.args.block.now c.args.writer.now in
    let s1 = sheet c.put.new.block c.put.new.writer in
    let s2 = sheet c.put_engine_list.new.block c.put_engine_list.new.writer in
    let first = head_of names entry in
    let second = middle_of names entry in
    let last = end_of names entry in
    let engines = content_json (engines_behind (said entry.outcome).behind c.args.rows.now) in
    let parts = content_json (parts_behind (said entry.outcome).behind c.args.rows.now) in
    let head = subst (λ t. TellsAfter t s0 s1) (c.as_slice.ensures.value ∙ c.in_ok-head.ensures) c.put.ensures in
    rw p.1
    (front_around line first engines (second ++ (parts ++ last)) (line-pieces names entry c.args.rows.now) s0 s1 s2 head
    (subst (λ kind. TellsFront (content_json (engines_behind kind c.args.rows.now)) s1 s2) c.behind-kind.ensures c.in_err-put_engine_list.ensures))

pub returns-in_err-put_part_list : goal.returns-in_err-put_part_list
returns-in_err-put_part_list g c =
    let p = err_from_is_err_and c.from_residual-in_err-put_part_list.result c.from_residual-in_err-put_part_list.ensures.1 in
    let names = option_copied c.args.names in
    let entry = c.args.entry.now in
    let line = json_line (thing_row names Json (Pattern entry c.args.rows.now)) in
    let s0 = sheet c.args.block.now c.args.writer.now in
    let s1 = sheet c.put.new.block c.put.new.writer in
    let s2 = sheet c.put_engine_list.new.block c.put_engine_list.new.writer in
    let first = head_of names entry in
    let second = middle_of names entry in
    let last = end_of names entry in
    let engines = content_json (engines_behind (said entry.outcome).behind c.args.rows.now) in
    let parts = content_json (parts_behind (said entry.outcome).behind c.args.rows.now) in
    let head = subst (λ t. TellsAfter t s0 s1) (c.as_slice.ensures.value ∙ c.in_ok-head.ensures) c.put.ensures in
    let s3 = sheet c.put-2.new.block c.put-2.new.writer in
    let s4 = sheet c.put_part_list.new.block c.put_part_list.new.writer in
    let list = subst (λ kind. TellsAfter (content_json (engines_behind kind c.args.rows.now)) s1 s2) c.behind-kind.ensures c.in_ok-put_engine_list.ensures in
    let middle = subst (λ t. TellsAfter t s2 s3) (c.as_slice-2.ensures.value ∙ c.in_ok-middle.ensures) c.put-2.ensures in
    let rest = second ++ (parts ++ last) in
    rw p.1
    (subst (λ t. TellsFront t s0 s4) (sym (line-pieces names entry c.args.rows.now))
    (front_more first (engines ++ rest) s0 s1 s4 head
    (front_more engines rest s1 s2 s4 list
    (front_around rest second parts last refl s2 s3 s4 middle
    (subst (λ kind. TellsFront (content_json (parts_behind kind c.args.rows.now)) s3 s4) c.behind-kind.ensures c.in_err-put_part_list.ensures)))))

pub returns : goal.returns
returns g c =
    let names = option_copied c.args.names in
    let entry = c.args.entry.now in
    let line = json_line (thing_row names Json (Pattern entry c.args.rows.now)) in
    let s0 = sheet c.args.block.now c.args.writer.now in
    let s1 = sheet c.put.new.block c.put.new.writer in
    let s2 = sheet c.put_engine_list.new.block c.put_engine_list.new.writer in
    let first = head_of names entry in
    let second = middle_of names entry in
    let last = end_of names entry in
    let engines = content_json (engines_behind (said entry.outcome).behind c.args.rows.now) in
    let parts = content_json (parts_behind (said entry.outcome).behind c.args.rows.now) in
    let head = subst (λ t. TellsAfter t s0 s1) (c.as_slice.ensures.value ∙ c.in_ok-head.ensures) c.put.ensures in
    let s3 = sheet c.put-2.new.block c.put-2.new.writer in
    let s4 = sheet c.put_part_list.new.block c.put_part_list.new.writer in
    let list = subst (λ kind. TellsAfter (content_json (engines_behind kind c.args.rows.now)) s1 s2) c.behind-kind.ensures c.in_ok-put_engine_list.ensures in
    let middle = subst (λ t. TellsAfter t s2 s3) (c.as_slice-2.ensures.value ∙ c.in_ok-middle.ensures) c.put-2.ensures in
    let s5 = sheet c.put-3.new.block c.put-3.new.writer in
    let rest = second ++ (parts ++ last) in
    told_around line first engines rest (line-pieces names entry c.args.rows.now) s0 s1 s2 head s5 list
    (told_around rest second parts last refl s2 s3 s4 middle s5
    (subst (λ kind. TellsAfter (content_json (parts_behind kind c.args.rows.now)) s3 s4) c.behind-kind.ensures c.in_ok-put_part_list.ensures)
    (subst (λ t. TellsAfter t s4 s5) (c.as_slice-3.ensures.value ∙ c.in_ok-end.ensures) c.put-3.ensures))
