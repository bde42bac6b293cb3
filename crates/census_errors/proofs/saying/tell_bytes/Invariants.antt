use Rattle.std.proofs.Common.{take}
use Rattle.census_faults.specs.Printed.{printable_text}
use Rattle.watched.specs.Streams.{PutsMoreBytes}
use Rattle.census_errors.proofs.saying.tell_bytes.Given as goal

abbrev pub invariant-loop-byte : goal.invariant-loop-byte
invariant-loop-byte g l = PutsMoreBytes (printable_text (take l.byte-index l.name)) l.fn.errors.stream l.errors.stream
