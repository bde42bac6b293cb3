use Rattle.std.proofs.Common.{◌≡◌, ◌++◌, drop, map}
use Rattle.std.specs.List.{flat_map}
use Rattle.census_page.specs.Pages.{code_in, row_at}
use Rattle.census_page.proofs.chosen.told_codes.Given as goal

abbrev pub invariant-loop-index : goal.invariant-loop-index
invariant-loop-index l = map (row_at l.rows) l.numbers.items ++ flat_map code_in (drop l.index l.rows) ≡ flat_map code_in l.rows
