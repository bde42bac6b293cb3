use Rattle.std.proofs.Common.{◌≡◌, take}
use Rattle.std.specs.List.{flat_map}
use Rattle.census_page.specs.Pages.{escaped_byte}
use Rattle.census_page.proofs.called.escaped.Given as goal

abbrev pub invariant-loop-byte : goal.invariant-loop-byte
invariant-loop-byte l = l.made.items ≡ flat_map escaped_byte (take l.byte-index l.bytes)
