use Rattle.std.proofs.Common.{◌∙◌, subst, sym}
use Rattle.std.proofs.lemmas.Result.{err_from_is_err_and}
use Rattle.watched.specs.Telling.{TellsAfter, sheet}
use Rattle.watched.proofs.Prefixes.{front_none}
use Rattle.watched.proofs.Telling.{tells_none}
use Rattle.census_table.specs.Json.{portion_json}
use Rattle.census_table.specs.Lists.{portion_of}
use Rattle.census_table.specs.Json.{item_text}
use Rattle.census_table.proofs.lists.put_portion.Goals as goal

pub returns-in_err-text-in-Some-clause-told : goal.returns-in_err-text-in-Some-clause-told
returns-in_err-text-in-Some-clause-told g c =
    let p = err_from_is_err_and c.from_residual.result c.from_residual.ensures.1 in
    rw p.1 (front_none (item_text portion_json c.args.later (portion_of c.args.row.now)) (sheet c.args.block.now c.args.writer.now))

pub returns-in-None-clause-told : goal.returns-in-None-clause-told
returns-in-None-clause-told g c =
    let s = sheet c.args.block.now c.args.writer.now in
    subst (λ o. TellsAfter (item_text portion_json c.args.later o) s s) (sym c.in-None.is ∙ c.portion_of.ensures) (tells_none s)
