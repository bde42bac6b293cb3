use Rattle.std.proofs.Common.{◌≡◌, ◌≤◌, ◌+◌, [], length}
use Rattle.census_bundle.specs.Lines.{whole_lines}
use Rattle.census_bundle.specs.Scan.{read_on, IsClosedText}
use Rattle.census_bundle.proofs.reading.read_bundle.Given as goal

abbrev pub invariant-loop-rest : goal.invariant-loop-rest
invariant-loop-rest l = record {
  reads : read_on [] 1 (whole_lines l.text) ≡ read_on l.bundle l.number (whole_lines l.rest);
  closed : IsClosedText l.bundle l.rest;
  fits : l.number + length l.rest ≤ 1 + length l.text;
}

abbrev pub decreases-loop-rest : goal.decreases-loop-rest
decreases-loop-rest l = length l.rest
