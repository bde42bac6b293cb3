use Rattle.std.proofs.Common.{◌≡◌, ◌++◌, None, drop, map}
use Rattle.census_table.specs.Places.{row_in, AreBefore}
use Rattle.census_compare.specs.SamePatterns.{collection_after, told_from}
use Rattle.census_compare.specs.Places.{told_at}
use Rattle.census_compare.proofs.tolds.add_section.Given as goal

abbrev pub invariant-loop-index : goal.invariant-loop-index
invariant-loop-index l = record {
  told : map (told_at l.nothing l.sections) l.places.items ++ told_from l.opened (drop l.index l.rows)
      ≡ map (told_at l.nothing l.sections) l.fn.places.items ++ told_from None l.rows;
  opened : l.opened ≡ collection_after None (row_in l.rows l.under);
  placed : AreBefore l.collection 0 l.fn.places.items → AreBefore l.collection l.index l.places.items;
}
