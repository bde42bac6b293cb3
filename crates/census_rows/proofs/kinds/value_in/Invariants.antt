use Rattle.std.proofs.Common.{◌≡◌, drop}
use Rattle.census_rows.specs.Kinds.{present, value_at}
use Rattle.census_rows.proofs.kinds.value_in.Given as goal

abbrev pub invariant-loop-field : goal.invariant-loop-field
invariant-loop-field l = value_at l.label (present (drop l.field-index l.fields)) ≡ value_at l.label (present l.fields)
