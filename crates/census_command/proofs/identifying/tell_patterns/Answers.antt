use Rattle.std.proofs.Common.{◌≡◌, ◌∷◌, [], List, ℕ, Some, ap, inr, subst, sym, ◌∙◌}
use Rattle.watched.specs.Streams.{Sink, Streams}
use Rattle.census_errors.specs.Explained.{TellsFault}
use Rattle.census_errors.specs.Files.{file_in}
use Rattle.census_command.specs.Identifying.{LacksNames}
use Rattle.census_command.proofs.Outcomes.{untold_is}
use Rattle.census_command.proofs.identifying.tell_patterns.Goals as goal

pub returns-in-Err : goal.returns-in-Err
returns-in-Err g c =
    let held = (g.S.Shelf.tellings c.args.shelf.now).held [] in
    let before = c.args.streams.now in
    let error = c.in-Err.error in
    let word = c.in-Some.word.now in
    let inside = c.streams.inside in
    let reached : Streams = record { input = inside.input.stream; output = inside.output.stream; errors = inside.errors.stream } in
    let told = c.stop_at_file.new.errors.stream in
    let quiet = ap (λ (s : Streams). s.errors) c.streams.view_is ∙ c.in-Err.ensures.quiet in
    let why = subst (λ (s : Streams). LacksNames error held word before s) (sym c.streams.view_is) c.in-Err.ensures.names in
    rw c.in-Some.is
    (inr (record {
      error = error;
      status_is = c.stop_at_file.ensures.status;
      why = subst (λ (s : Streams). LacksNames error held word before s) (untold_is before reached told quiet) why;
      told = subst (λ (s : Sink). TellsFault (file_in (Some word) (word ∷ []) error) error c.args.explain s told) quiet c.stop_at_file.ensures.told;
    }))
