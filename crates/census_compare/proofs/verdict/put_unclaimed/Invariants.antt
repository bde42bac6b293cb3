use Rattle.std.proofs.Common.{◌≡◌, take}
use Rattle.watched.specs.Telling.{sheet}
use Rattle.census_compare.specs.Index.{are_none}
use Rattle.census_compare.specs.Reporting.{Reports}
use Rattle.census_compare.proofs.verdict.put_unclaimed.Given as goal

abbrev pub invariant-loop-spot : goal.invariant-loop-spot
invariant-loop-spot g l = record {
  told : Reports l.agree (sheet l.fn.block l.fn.writer) (sheet l.block l.writer);
  agree : l.agree ≡ are_none (take l.spot-index l.spot-items);
}
