use Rattle.std.proofs.Common.{ap, sym, ◌∙◌, length}
use Rattle.census_book.proofs.Padding.{drop_row, row_length}
use Rattle.census_book.proofs.slots.Row.drop_results.Goals as goal

pub returns : goal.returns
returns c =
    drop_row c.self.inside.len c.args.self.now (ap length (sym c.self.view_is) ∙ row_length c.self.inside.is_dropped c.self.inside.len c.self.inside.slots.items c.self.invariant.0) c.requires
