use Rattle.std.proofs.Common.{◌≡◌, ◌++◌, map, drop}
use Rattle.std.specs.Prelude.{filter}
use Rattle.std.specs.Option.{option_copied}
use Rattle.census_table.specs.EngineColumns.{heading_of, is_headed}
use Rattle.census_table.proofs.subject.engine_names.Given as goal

abbrev pub invariant-loop-column : goal.invariant-loop-column
invariant-loop-column l = map (λ s. s.now) l.titles.items ++ map heading_of (filter (is_headed (option_copied l.names)) (drop l.column-index l.columns)) ≡ map heading_of (filter (is_headed (option_copied l.names)) l.columns)
