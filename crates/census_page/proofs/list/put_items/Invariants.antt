use Rattle.watched.specs.Telling.{sheet}
use Rattle.census_page.specs.Pages.{PutsHtml}
use Rattle.census_page.proofs.list.put_items.Given as goal

abbrev pub invariant-loop-place : goal.invariant-loop-place
invariant-loop-place g l = PutsHtml (sheet l.fn.block l.fn.writer) (sheet l.block l.writer)
