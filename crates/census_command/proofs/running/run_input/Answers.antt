use Rattle.std.proofs.Common.{refl, ap, ◌∙◌}
use Rattle.std.proofs.lemmas.Result.{err_from_is_err_and}
use Rattle.census_command.proofs.Reports.{input_fails, input_stops, read_whole}
use Rattle.census_command.proofs.running.run_input.Goals as goal

pub returns-in_err-bundle-clause-fails : goal.returns-in_err-bundle-clause-fails
returns-in_err-bundle-clause-fails g c =
    let p = err_from_is_err_and c.from_residual.result c.from_residual.ensures.1 in
    rw (p.1, p.2, ← c.streams.view_is)
    (input_stops _ _ _ _ c.in_err-bundle.ensures.failed c.in_err-bundle.ensures.read refl (ap (λ s. s.output.failed) c.streams.view_is ∙ c.requires.sound.write))

pub returns-in_err-lines-clause-fails : goal.returns-in_err-lines-clause-fails
returns-in_err-lines-clause-fails g c =
    let p = err_from_is_err_and c.from_residual-in_err-lines.result c.from_residual-in_err-lines.ensures.1 in
    rw (p.1, p.2, ← c.streams.view_is)
    (input_fails _ _ _ c.in_ok-bundle.bundle _ c.in_err-lines.ensures.failed c.in_ok-bundle.ensures.read c.in_err-lines.ensures.report
    (read_whole c.in_ok-bundle.bundle _ c.in_ok-bundle.ensures.failed))
