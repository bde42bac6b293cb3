use Rattle.std.proofs.Common.{◌∙◌, ◌++◌, ap₂, false, List, ℕ, subst, sym}
use Rattle.std.specs.List.{filter_map}
use Rattle.std.proofs.lemmas.Result.{err_from_is_err_and}
use Rattle.watched.specs.Telling.{sheet}
use Rattle.watched.proofs.Prefixes.{front_none}
use Rattle.census_table.specs.Json.{items_text, kind_text, portion_json}
use Rattle.census_table.specs.Lists.{portion_of}
use Rattle.census_table.specs.Written.{Puts}
use Rattle.census_table.proofs.Items.{engine-pieces}
use Rattle.census_table.proofs.lists.put_kind.Goals as goal

pub returns-in_err-head : goal.returns-in_err-head
returns-in_err-head g c =
    let p = err_from_is_err_and c.from_residual.result c.from_residual.ensures.1 in
    rw p.1 (front_none (kind_text c.args.period c.args.displacement.0 c.args.displacement.1 c.args.count c.args.emits.now c.args.later) (sheet c.args.block.now c.args.writer.now))

pub returns-in_err-end : goal.returns-in_err-end
returns-in_err-end g c =
    let p = err_from_is_err_and c.from_residual-in_err-end.result c.from_residual-in_err-end.ensures.1 in
    rw p.1 (front_none (kind_text c.args.period c.args.displacement.0 c.args.displacement.1 c.args.count c.args.emits.now c.args.later) (sheet c.args.block.now c.args.writer.now))

pub returns : goal.returns
returns g c =
    let items = items_text portion_json false (filter_map portion_of c.args.emits.now) in
    subst (λ t. Puts t c.put_between.result (sheet c.args.block.now c.args.writer.now) (sheet c.put_between.new.block c.put_between.new.writer))
    (ap₂ (λ (h e : List ℕ). h ++ (items ++ e)) (c.as_slice.ensures.value ∙ c.in_ok-head.ensures) (c.as_slice-2.ensures.value ∙ c.in_ok-end.ensures)
    ∙ sym (engine-pieces c.args.later (record { count = c.args.count; dx = c.args.displacement.0; dy = c.args.displacement.1; emits = filter_map portion_of c.args.emits.now; period = c.args.period })))
    c.put_between.ensures
