use Rattle.std.proofs.Common.{List, ℕ, codes, subst}
use Rattle.census_errors.proofs.Telling.{more_after}
use Rattle.census_faults.specs.Printed.{printable_text}
use Rattle.watched.specs.Streams.{PutsMoreBytes}
use Rattle.census_errors.proofs.naming.tell_file.Goals as goal

pub returns-in-Some : goal.returns-in-Some
returns-in-Some g c =
    rw c.in-Some.is
    (more_after (printable_text c.in-Some.name.now) (codes ": ") c.args.errors.now.stream c.tell_bytes.new.errors.stream c.tell.new.self.stream
    (subst (λ (t : List ℕ). PutsMoreBytes (printable_text t) c.args.errors.now.stream c.tell_bytes.new.errors.stream) c.as_bytes.ensures.value c.tell_bytes.ensures) c.tell.ensures)
