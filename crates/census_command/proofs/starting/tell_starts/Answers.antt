use Rattle.std.proofs.Common.{ap, inl, inr, subst, sym, ◌∙◌}
use Rattle.watched.specs.Streams.{Sink, Streams}
use Rattle.census_errors.specs.Explained.{TellsOf}
use Rattle.census_errors.specs.Sources.{source_of}
use Rattle.census_errors.specs.declared.error.CommandError.TheVariants as command
use Rattle.census_command.specs.Starting.{MissesStarts}
use Rattle.census_command.proofs.starting.tell_starts.Goals as goal

pub returns-in-Err : goal.returns-in-Err
returns-in-Err g c =
    let shelf = g.S.Shelf.tellings c.args.shelf.now in
    let error = c.in-Err.stopped.error in
    let to = sym c.streams.view_is in
    inr (record {
      error = error;
      status_is = c.stop_at_place.ensures.status;
      why = subst (λ (s : Streams). MissesStarts shelf (source_of c.args.collections.now) error c.args.streams.now s) to c.in-Err.ensures.fails;
      told = subst (λ (s : Sink). TellsOf (command.Run error) c.args.explain s c.stop_at_place.new.errors.stream)
          (ap (λ (s : Streams). s.errors) c.streams.view_is ∙ c.in-Err.ensures.quiet) c.stop_at_place.ensures.lines;
    })
