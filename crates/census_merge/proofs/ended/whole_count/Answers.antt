use Rattle.std.proofs.Common.{arith, sym, ◌∙◌}
use Rattle.census_merge.proofs.Counting.{count-end, count-less}
use Rattle.census_merge.proofs.ended.whole_count.Goals as goal

pub loop-count-preserved : goal.loop-count-preserved
loop-count-preserved c =
    let inv = c.loop-count.invariant in
    let some = c.loop-count-test.true in
    record {
      within = omega (arith, inv.within);
      same = count-less c.args.rows.now c.loop-count.count _ (omega (arith, some)) inv.within (sym c.is_end.ensures ∙ c.if-not-is_end.true) inv.same;
    }

pub returns-else-not-is_end-clause-value : goal.returns-else-not-is_end-clause-value
returns-else-not-is_end-clause-value c =
    let inv = c.loop-count.invariant in
    let some = c.loop-count-test.true in
    count-end c.args.rows.now c.loop-count.count _ (omega (arith, some)) inv.within (sym c.is_end.ensures ∙ c.if-not-is_end.false) inv.same
