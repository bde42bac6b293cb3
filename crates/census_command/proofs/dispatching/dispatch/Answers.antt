use Rattle.std.proofs.Common.{Bool, inl, inr, refl, subst}
use Rattle.census_cli.proofs.Commands.{asked_are_lawful}
use Rattle.census_command.proofs.Gates.{hears_answered, hears_asked}
use Rattle.census_command.specs.Outcomes.{Ends}
use Rattle.census_command.proofs.dispatching.dispatch.Goals as goal

pub carry_out-requires-clause-lawful : goal.carry_out-requires-clause-lawful
carry_out-requires-clause-lawful g c κs lasts = asked_are_lawful _ (c.in-Ok.asked.request) c.in-Ok.ensures.0

pub returns-in-Err-clause-outcome : goal.returns-in-Err-clause-outcome
returns-in-Err-clause-outcome g c = inr (c.in-Err.fault, c.in-Err.ensures, c.answer.ensures)

pub returns-clause-outcome : goal.returns-clause-outcome
returns-clause-outcome g c =
    inl (
      c.in-Ok.asked,
      c.in-Ok.ensures,
      subst (λ (explain : Bool). Ends (g.S.Shelf.tellings c.args.shelf.now) c.in-Ok.asked.request explain c.carry_out.result c.args.streams.now c.carry_out.new.streams)
          c.explains-explain.ensures c.carry_out.ensures.ends,
    )

pub returns-in-Err-clause-gate : goal.returns-in-Err-clause-gate
returns-in-Err-clause-gate g c = hears_answered _ _ _ _ _ _ _ c.in-Err.fault _ _ c.in-Err.ensures c.answer.ensures refl

pub returns-clause-gate : goal.returns-clause-gate
returns-clause-gate g c = hears_asked _ _ _ _ _ _ c.in-Ok.asked _ c.in-Ok.ensures c.carry_out.ensures.gate
