use Rattle.std.proofs.Common.{◌≡◌, ◌≤◌, ◌++◌, drop}
use Rattle.life_cells.specs.Wechsler.{columns_text}
use Rattle.life_codes.specs.Lengths.Grids.{columns_from}
use Rattle.life_codes.proofs.writing.push_strip.Given as goal

-- the columns so far are written, but for the zeros at their end
abbrev pub invariant-columns : goal.invariant-columns
invariant-columns l = record {
  skipped : l.skipped ≤ l.place;
  text : l.initial.text.items ++ columns_text 0 (columns_from l.back l.strip) ≡ l.text.items ++ columns_text l.skipped (drop l.place (columns_from l.back l.strip));
}
