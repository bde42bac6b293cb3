use Rattle.std.proofs.Common.{◌≡◌, map, take}
use Rattle.census_table.specs.Places.{AreBefore}
use Rattle.census_compare.specs.StartsRead.{told_in}
use Rattle.census_compare.proofs.starts.places_of.Given as goal

abbrev pub invariant-loop-index : goal.invariant-loop-index
invariant-loop-index l = record {
  told : map (told_in l.nothing l.tolds) l.places.items ≡ take l.index l.tolds;
  placed : AreBefore 0 l.index l.places.items;
}
