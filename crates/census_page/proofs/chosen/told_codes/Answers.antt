use Rattle.std.proofs.Common.{arith}
use Rattle.census_page.proofs.Tables.{told-end, told-more}
use Rattle.census_page.proofs.chosen.told_codes.Goals as goal

pub loop-index-preserved : goal.loop-index-preserved
loop-index-preserved c = told-more c.args.rows.now _ _ c.loop-index.index (omega arith) c.in_ok-note_code.ensures c.loop-index.invariant

pub returns : goal.returns
returns c = told-end c.args.rows.now _ c.loop-index.index (omega arith) c.loop-index.invariant
