use Rattle.std.proofs.Common.{List, ℕ, arith, sym, subst}
use Rattle.std.proofs.lemmas.List.{take_all}
use Rattle.census_faults.specs.Printed.{printable_text}
use Rattle.census_errors.proofs.Telling.{more_after, printed_more}
use Rattle.watched.proofs.Written.{tells_no_more}
use Rattle.watched.specs.Streams.{PutsMoreBytes}
use Rattle.census_errors.proofs.saying.tell_bytes.Goals as goal

pub loop-byte-init : goal.loop-byte-init
loop-byte-init g c = tells_no_more _

pub loop-byte-preserved : goal.loop-byte-preserved
loop-byte-preserved g c =
    subst (λ (t : List ℕ). PutsMoreBytes t c.args.errors.now.stream c.tell_byte.new.errors.stream)
    (sym (printed_more c.args.name.now c.loop-byte.byte-index (omega (arith, c.loop-byte-test.true))))
    (more_after _ _ _ _ _ c.loop-byte.invariant c.tell_byte.ensures)

pub returns : goal.returns
returns g c =
    subst (λ (t : List ℕ). PutsMoreBytes (printable_text t) c.args.errors.now.stream c.loop-byte.errors.stream)
    (take_all c.loop-byte.byte-index c.args.name.now (omega (arith, c.loop-byte-test.false))) c.loop-byte.invariant
