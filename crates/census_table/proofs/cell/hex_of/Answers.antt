use Rattle.std.proofs.Common.{ap, Some, ◌∙◌}
use Rattle.census_table.proofs.Hex.{hex-none, hex-some}
use Rattle.census_table.proofs.cell.hex_of.Goals as goal

pub returns-in-Ok : goal.returns-in-Ok
returns-in-Ok c = hex-none c.args.bytes.now c.in-Ok.ensures.cases.1

pub returns-in_ok-encode-in-Err : goal.returns-in_ok-encode-in-Err
returns-in_ok-encode-in-Err c = ap Some c.in_ok-encode-in-Err.ensures ∙ hex-some c.args.bytes.now c.in-Err.ensures.cases.0
