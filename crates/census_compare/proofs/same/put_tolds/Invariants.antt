use Rattle.std.proofs.Common.{◌≡◌, None, take}
use Rattle.watched.specs.Telling.{TellsAfter, sheet}
use Rattle.census_compare.specs.Same.{tolds_text}
use Rattle.census_compare.proofs.Listed.{last_told}
use Rattle.census_compare.proofs.same.put_tolds.Given as goal

abbrev pub invariant-loop-index : goal.invariant-loop-index
invariant-loop-index g l = record {
  tells : TellsAfter (tolds_text l.json None (take l.index l.tolds)) (sheet l.fn.block l.fn.writer) (sheet l.block l.writer);
  last : l.before ≡ last_told None (take l.index l.tolds);
}
