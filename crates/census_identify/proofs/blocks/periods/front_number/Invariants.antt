use Rattle.std.proofs.Common.{◌≡◌, ◌≤◌, drop}
use Rattle.census_identify.specs.Blocks.Periods.{number_after}
use Rattle.census_identify.proofs.blocks.periods.front_number.Given as goal

abbrev pub invariant-loop-at : goal.invariant-loop-at
invariant-loop-at l = record {
  small : l.number ≤ 100001;
  told : number_after l.number (drop l.at l.digits) ≡ number_after 0 l.digits;
}
