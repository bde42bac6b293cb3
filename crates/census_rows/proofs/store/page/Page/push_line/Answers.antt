use Rattle.std.proofs.Common.{refl}
use Rattle.census_rows.specs.declared.row.Outcome.TheVariants.{Bad}
use Rattle.census_rows.specs.declared.row.Row.TheVariants.{Line}
use Rattle.census_rows.proofs.store.page.Page.push_line.Goals as goal

pub put-requires : goal.put-requires
put-requires c = (Line c.args.collection c.args.pattern (Bad c.in-Bad.fault) c.args.name, refl)
