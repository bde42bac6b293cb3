use Rattle.std.proofs.Common.{◌<◌, arith, length, subst, sym, vec_len, ◌∙◌}
use Rattle.std.proofs.lemmas.Bool.{eqb-false}
use Rattle.census_folders.specs.Sources.{Stops}
use Rattle.census_command.proofs.Starts.{unread}
use Rattle.census_command.proofs.starting.read_collections.Goals as goal

pub returns-in-Err-read_source : goal.returns-in-Err-read_source
returns-in-Err-read_source g c =
    let from = c.args.collections.now in
    let shelf = g.S.Shelf.tellings c.args.shelf.now in
    let fault = c.in-Err-read_source.fault in
    let none = eqb-false (vec_len from.folders) 0 (sym c.is_empty.ensures ∙ c.if-is_empty.false) in
    let some : 0 < length from.folders.items = omega (arith, none, from.folders.ok) in
    unread shelf from c.args.input.now.stream c.reading.result.error fault some c.reading.ensures
    (subst (λ a. Stops shelf a fault) c.folders_of.ensures c.in-Err-read_source.ensures)
