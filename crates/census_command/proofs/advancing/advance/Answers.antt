use Rattle.std.proofs.Common.{ap, subst}
use Rattle.std.proofs.lemmas.Result.{err_from_is_err_and}
use Rattle.census_command.specs.Advances.{LacksText, Takes}
use Rattle.census_command.proofs.Advanced.{fails_taken}
use Rattle.census_command.proofs.advancing.advance.Goals as goal

pub returns-in_err-later-clause-fails : goal.returns-in_err-later-clause-fails
returns-in_err-later-clause-fails g c =
    let shelf = g.S.Shelf.tellings c.args.shelf.now in
    let before = c.args.streams.now in
    let after = c.given_text.new.streams in
    let text = c.in_ok-text.text.items in
    let error = c.in_err-later.field-0.0 in
    let p = err_from_is_err_and c.from_residual-in_err-later.result c.from_residual-in_err-later.ensures.1 in
    rw (p.1, p.2)
    (fails_taken shelf _ text c.args.generations c.args.cells before error after
    (subst (λ f. Takes shelf f text before after) c.file_of.ensures c.in_ok-text.ensures.taken)
    (subst (λ t. LacksText error t c.args.generations c.args.cells) c.as_slice.ensures.value c.in_err-later.ensures)
    (record { written = ap (λ o. o.written) c.in_ok-text.ensures.unwritten; sound = c.in_ok-text.ensures.sound }))
