use Rattle.std.proofs.Common.{List, ℕ, subst, ◌∙◌}
use Rattle.watched.specs.Streams.{PutsMoreBytes}
use Rattle.census_errors.proofs.Telling.{error_told}
use Rattle.census_errors.proofs.saying.stop_saying.Goals as goal

pub returns-clause-lines : goal.returns-clause-lines
returns-clause-lines g c =
    error_told c.args.error c.args.explain c.args.errors.now.stream c.tell.new.self.stream c.say_if.new.errors.stream c.requires
    (subst (λ (t : List ℕ). PutsMoreBytes t c.args.errors.now.stream c.tell.new.self.stream) (c.as_bytes.ensures.value ∙ c.as_str.ensures.value ∙ c.line.ensures) c.tell.ensures) c.say_if.ensures
