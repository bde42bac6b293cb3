use Rattle.std.proofs.Common.{◌≡◌, [], map, take}
use Rattle.csv.specs.Records.{fields_of, partial_of}
use Rattle.census_table.proofs.comma.titles_record.Given as goal

abbrev pub invariant-loop-title : goal.invariant-loop-title
invariant-loop-title l = (fields_of l.fields ≡ map (λ s. s.now) (take l.title-index l.titles)) × (partial_of l.fields ≡ [])
