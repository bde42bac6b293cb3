use Rattle.std.proofs.Common.{◌≡◌, true, length, eqb, ◌∙◌, rules}
use Rattle.std.proofs.lemmas.Bool.{eqb-true}
use Rattle.std.proofs.lemmas.Result.{err_from_is_err_and}
use Rattle.census_bundle.proofs.Sections.{read_ends, read_fails}
use Rattle.census_bundle.proofs.reading.read_bundle.Goals as goal

pub returns-clause-found : goal.returns-clause-found
returns-clause-found c =
    let none : eqb (length c.loop-rest.rest.now) 0 ≡ true = search rules in
    (read_ends c.args.text.now _ _ _ c.loop-rest.invariant.reads (eqb-true _ 0 none)).0

pub returns-clause-lawful : goal.returns-clause-lawful
returns-clause-lawful c =
    let none : eqb (length c.loop-rest.rest.now) 0 ≡ true = search rules in
    (read_ends c.args.text.now _ _ _ c.loop-rest.invariant.reads (eqb-true _ 0 none)).1

pub returns-in_err-place-clause-refused : goal.returns-in_err-place-clause-refused
returns-in_err-place-clause-refused c =
    let p = err_from_is_err_and c.from_residual.result c.from_residual.ensures.1 in
    rw (p.1, p.2) (λ other. read_fails c.args.text.now _ (c.loop-rest.invariant.reads ∙ c.in_err-place.ensures.refused other))
