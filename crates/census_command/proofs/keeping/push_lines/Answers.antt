use Rattle.std.proofs.Common.{arith}
use Rattle.census_command.proofs.Kept.{next_line}
use Rattle.census_command.proofs.keeping.push_lines.Goals as goal

pub loop-loss-preserved : goal.loop-loss-preserved
loop-loss-preserved c =
    next_line c.args.lost.now c.loop-loss.loss-index c.loss-item.result _ _ _ (omega (arith, c.loop-loss-test.true)) c.loss-item.is c.in_ok-push_line.ensures c.loop-loss.invariant
