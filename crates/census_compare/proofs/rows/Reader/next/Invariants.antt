use Rattle.std.proofs.Common.{◌≡◌, ◌+◌, ◌≤◌, drop}
use Rattle.census_compare.specs.Read.{begun_read, rows_left}
use Rattle.census_compare.specs.Rows.{rows_from}
use Rattle.census_compare.proofs.rows.Reader.next.Given as goal

abbrev pub invariant-loop-index : goal.invariant-loop-index
invariant-loop-index l = record {
  own : l.self ≡ l.fn.self;
  line : l.row.line ≤ l.fn.self.line + l.index;
  same : rows_from (begun_read l.row) (drop l.index l.text) ≡ rows_left l.fn.self;
}
