use Rattle.std.proofs.Common.{◌++◌, [], append-nil, subst, sym}
use Rattle.std.specs.List.{cons_option}
use Rattle.std.specs.Option.{option_copied}
use Rattle.watched.specs.Telling.{sheet}
use Rattle.census_table.specs.Tables.{things_text}
use Rattle.census_table.specs.Written.{TellsBut, records_text}
use Rattle.census_table.proofs.Held.{but_held}
use Rattle.census_table.proofs.table.put_some.Goals as goal

pub returns-in-None : goal.returns-in-None
returns-in-None g c =
    let s = sheet c.args.block.now c.args.writer.now in
    let before = records_text c.args.held.now.items in
    subst (λ some. TellsBut (before ++ things_text (option_copied c.args.names) c.args.format (cons_option some [])) before s s) (sym c.in-None.is)
    (subst (λ t. TellsBut t before s s) (sym (append-nil before)) (but_held before s))
