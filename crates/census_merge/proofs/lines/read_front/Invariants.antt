use Rattle.std.proofs.Common.{◌≡◌, ◌++◌, ℕ, List, length}
use Rattle.census_rows.specs.declared.row.Row.{Row}
use Rattle.census_readback.specs.Texts.{AllLines, IsStuck}
use Rattle.census_rows.specs.Lines.{text_of}
use Rattle.census_readback.proofs.Reached.{Reached}
use Rattle.census_merge.proofs.lines.read_front.Given as goal

abbrev pub invariant-loop-first : goal.invariant-loop-first
invariant-loop-first l = record {
  lines : AllLines l.rows.items;
  whole : l.text ≡ text_of l.rows.items ++ l.rest;
  all : (rows : List Row) (after : List ℕ) → AllLines rows → l.text ≡ text_of rows ++ after → IsStuck after → Reached rows after l.rows.items l.rest;
}

abbrev pub decreases-loop-first : goal.decreases-loop-first
decreases-loop-first l = length l.rest
