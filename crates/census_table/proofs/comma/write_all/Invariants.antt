use Rattle.std.proofs.Common.{◌≡◌, ◌++◌, drop}
use Rattle.census_table.specs.Written.{IsBetweenRecords, records_text, text_written}
use Rattle.census_table.proofs.comma.write_all.Given as goal

abbrev pub invariant-loop-fields : goal.invariant-loop-fields
invariant-loop-fields l =
    IsBetweenRecords l.writer × (text_written l.writer ++ records_text (drop l.fields-index l.records) ≡ text_written l.fn.writer ++ records_text l.records)
