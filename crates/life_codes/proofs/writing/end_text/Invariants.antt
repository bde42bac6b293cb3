use Rattle.std.proofs.Common.{◌≡◌}
use Rattle.life_cells.specs.Wechsler.{columns_text}
use Rattle.life_cells.proofs.Columns.{joined}
use Rattle.life_codes.specs.Lengths.Grids.{columns_from, strip_of}
use Rattle.life_codes.proofs.writing.end_text.Given as goal

-- the strips so far are written
abbrev pub invariant-strips : goal.invariant-strips
invariant-strips l = l.text.items ≡ joined (λ k. columns_text 0 (columns_from l.back (strip_of l.values l.wide k))) l.strip
