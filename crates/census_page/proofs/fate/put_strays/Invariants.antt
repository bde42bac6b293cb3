use Rattle.std.specs.Option.{option_copied}
use Rattle.watched.specs.Telling.{sheet}
use Rattle.census_page.specs.Pages.{stray_in}
use Rattle.census_page.proofs.Steps.{PutsUpTo}
use Rattle.census_page.proofs.fate.put_strays.Given as goal

abbrev pub invariant-loop-index : goal.invariant-loop-index
invariant-loop-index g l = PutsUpTo (option_copied l.view.names) (stray_in l.view.patterns) l.rows l.index (sheet l.fn.block l.fn.writer) (sheet l.block l.writer)
