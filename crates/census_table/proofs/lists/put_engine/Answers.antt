use Rattle.std.proofs.Common.{ap, subst, sym}
use Rattle.std.specs.List.{take_while}
use Rattle.watched.specs.Telling.{TellsAfter, sheet}
use Rattle.watched.proofs.Telling.{tells_none}
use Rattle.census_readback.specs.Following.{is_emits}
use Rattle.census_table.specs.Json.{engine_json}
use Rattle.census_table.specs.Json.{is_later, item_text}
use Rattle.census_table.proofs.Items.{no-engines}
use Rattle.census_table.proofs.lists.put_engine.Goals as goal

pub returns-in_default : goal.returns-in_default
returns-in_default g c =
    let s = sheet c.args.block.now c.args.writer.now in
    let none = no-engines c.args.row.now (take_while is_emits c.args.behind.now)
    (λ collection pattern number period dx dy count e. c.in_default.not-Engine collection pattern number period dx dy count e) in
    record {
      told = subst (λ o. TellsAfter (item_text engine_json c.args.later o) s s) (sym none) (tells_none s);
      later = ap (is_later c.args.later) (sym none);
    }
