use Rattle.std.proofs.Common.{◌≡◌, false, length}
use Rattle.watched.proofs.Fronts.{IsFrontWritten}
use Rattle.watched.proofs.writing.put_all.Given as goal

abbrev pub invariant-loop-rest : goal.invariant-loop-rest
invariant-loop-rest g l = record {
  written : IsFrontWritten l.fn.writer.stream.written l.writer.stream.written l.fn.bytes l.rest;
  sound : l.writer.stream.failed ≡ false;
}

abbrev pub decreases-loop-rest : goal.decreases-loop-rest
decreases-loop-rest g l = length l.rest
