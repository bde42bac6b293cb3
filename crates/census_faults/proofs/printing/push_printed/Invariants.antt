use Rattle.std.proofs.Common.{◌≡◌, ◌++◌, drop}
use Rattle.census_faults.specs.Printed.{printable_text}
use Rattle.census_faults.proofs.printing.push_printed.Given as goal

abbrev pub invariant-loop-byte : goal.invariant-loop-byte
invariant-loop-byte l = l.text.items ++ printable_text (drop l.byte-index l.bytes) ≡ l.fn.text.items ++ printable_text l.bytes
