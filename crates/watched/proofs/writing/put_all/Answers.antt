use Rattle.std.proofs.Common.{arith}
use Rattle.std.proofs.lemmas.Grind.{common_steps}
use Rattle.watched.proofs.Fronts.{front_more, front_err}
use Rattle.watched.proofs.writing.put_all.Goals as goal

pub loop-rest-preserved : goal.loop-rest-preserved
loop-rest-preserved g c = record {
  written = front_more _ _ _ _ _ _ _ c.loop-rest.invariant.written c.in-Ok.ensures.bytes (grind (arith, common_steps));
  sound = c.in-Ok.ensures.failed;
}

pub returns-in-Err-clause-bytes : goal.returns-in-Err-clause-bytes
returns-in-Err-clause-bytes g c = front_err _ _ _ _ _ c.loop-rest.invariant.written c.in-Err.ensures.bytes
