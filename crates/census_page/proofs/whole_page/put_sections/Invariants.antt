use Rattle.std.specs.Option.{option_copied}
use Rattle.watched.specs.Telling.{sheet}
use Rattle.census_page.proofs.Tables.{PutsSections}
use Rattle.census_page.proofs.whole_page.put_sections.Given as goal

abbrev pub invariant-loop-index : goal.invariant-loop-index
invariant-loop-index g l = PutsSections (option_copied l.names) l.options l.sections l.index (sheet l.fn.block l.fn.writer) (sheet l.block l.writer)
