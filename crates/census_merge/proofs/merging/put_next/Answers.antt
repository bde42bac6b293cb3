use Rattle.std.proofs.Common.{◌∙◌, subst, sym, Option}
use Rattle.watched.specs.Telling.{sheet}
use Rattle.watched.proofs.Telling.{tells_none}
use Rattle.census_merge.specs.Putting.{PutsEnd}
use Rattle.census_merge.specs.declared.report_sums.Sums.{Sums}
use Rattle.census_merge.proofs.merging.put_next.Goals as goal

pub returns : goal.returns
returns g c =
    let here = sheet c.args.block.now c.args.writer.now in
    subst (λ (o : Option Sums). PutsEnd o c.args.sums c.args.row c.with.result here here) (sym (sym c.sums_at_end.ensures ∙ c.in-Some.is)) (tells_none here, c.with.ensures)
