use Rattle.census_book.proofs.Padding.{row_new}
use Rattle.census_book.proofs.slots.Row.new.Goals as goal

pub returns : goal.returns
returns c = row_new c.args.len c.new.result.items c.new.ensures.items
