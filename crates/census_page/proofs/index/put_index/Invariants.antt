use Rattle.watched.specs.Telling.{sheet}
use Rattle.census_page.specs.Pages.{PutsHtml}
use Rattle.census_page.proofs.index.put_index.Given as goal

abbrev pub invariant-loop-index : goal.invariant-loop-index
invariant-loop-index g l = PutsHtml (sheet l.fn.block l.fn.writer) (sheet l.block l.writer)
