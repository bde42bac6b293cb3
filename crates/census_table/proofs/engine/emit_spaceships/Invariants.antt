use Rattle.std.proofs.Common.{◌≡◌, drop}
use Rattle.std.specs.List.{list_all}
use Rattle.census_table.specs.Emitting.{emits_spaceship}
use Rattle.census_table.proofs.engine.emit_spaceships.Given as goal

abbrev pub invariant-loop-index : goal.invariant-loop-index
invariant-loop-index l = list_all emits_spaceship (drop l.index l.rows) ≡ list_all emits_spaceship l.rows
