use Rattle.std.proofs.Common.{◌≡◌, ◌++◌, map, drop}
use Rattle.std.specs.Prelude.{filter}
use Rattle.std.specs.Option.{option_copied}
use Rattle.census_table.specs.Columns.{is_shown, name_of}
use Rattle.census_table.proofs.subject.pattern_names.Given as goal

abbrev pub invariant-loop-column : goal.invariant-loop-column
invariant-loop-column l = map (λ s. s.now) l.titles.items ++ map name_of (filter (is_shown (option_copied l.names)) (drop l.column-index l.columns)) ≡ map name_of (filter (is_shown (option_copied l.names)) l.columns)
