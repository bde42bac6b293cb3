use Rattle.std.proofs.Common.{◌≡◌, ◌++◌, drop}
use Rattle.census_table.specs.Contents.{row_of}
use Rattle.census_table.specs.Json.{items_text, member_json}
use Rattle.census_table.proofs.json.push_members.Given as goal

abbrev pub invariant-loop-field : goal.invariant-loop-field
invariant-loop-field l =
    l.text.items ++ items_text member_json l.behind (row_of (drop l.field-index l.row)) ≡ l.fn.text.items ++ items_text member_json l.later (row_of l.row)
