use Rattle.std.proofs.Common.{◌≡◌, [], map, take}
use Rattle.csv.specs.Records.{fields_of, partial_of}
use Rattle.census_table.specs.Contents.{content_bytes, row_of}
use Rattle.census_table.proofs.comma.row_record.Given as goal

abbrev pub invariant-loop-field : goal.invariant-loop-field
invariant-loop-field l = (fields_of l.fields ≡ map (λ member. content_bytes l.safe member.content) (row_of (take l.field-index l.row))) × (partial_of l.fields ≡ [])
