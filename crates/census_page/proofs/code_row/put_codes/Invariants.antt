use Rattle.std.proofs.Common.{◌∷◌, []}
use Rattle.std.specs.Option.{option_copied}
use Rattle.watched.specs.Telling.{sheet}
use Rattle.census_page.specs.Pages.{row_at}
use Rattle.census_page.proofs.Steps.{PutsUpTo}
use Rattle.census_page.proofs.code_row.put_codes.Given as goal

abbrev pub invariant-loop-index : goal.invariant-loop-index
invariant-loop-index g l = PutsUpTo (option_copied l.view.names) (λ number. row_at l.holders.rows.now number ∷ []) l.numbers l.index (sheet l.fn.block l.fn.writer) (sheet l.block l.writer)
