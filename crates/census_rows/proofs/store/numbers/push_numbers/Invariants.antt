use Rattle.std.proofs.Common.{◌≡◌, ◌++◌, take}
use Rattle.census_rows.specs.Store.Numbers.{Grown, numbers_bytes}
use Rattle.census_rows.proofs.store.numbers.push_numbers.Given as goal

abbrev pub invariant-loop-number : goal.invariant-loop-number
invariant-loop-number l = Grown l.fn.bytes.items l.bytes.items × (l.bytes.items ≡ l.fn.bytes.items ++ numbers_bytes (take l.number-index l.numbers))
