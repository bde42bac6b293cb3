use Rattle.std.proofs.Common.{List, ℕ, subst, ◌∙◌}
use Rattle.watched.specs.Streams.{PutsMoreBytes}
use Rattle.census_errors.specs.Messages.{error_line}
use Rattle.census_errors.proofs.Telling.{at_sound}
use Rattle.census_command.proofs.dispatching.stop.Goals as goal

pub returns-clause-line : goal.returns-clause-line
returns-clause-line g c =
    at_sound (error_line c.args.error) c.args.errors.now.stream c.tell.new.self.stream c.requires
    (subst (λ (t : List ℕ). PutsMoreBytes t c.args.errors.now.stream c.tell.new.self.stream) (c.as_bytes.ensures.value ∙ c.as_str.ensures.value ∙ c.line.ensures) c.tell.ensures)
