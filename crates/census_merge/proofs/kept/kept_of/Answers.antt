use Rattle.std.proofs.Common.{sym, ◌∙◌}
use Rattle.census_readback.specs.Limits.{count_limit}
use Rattle.census_readback.proofs.Sorted.{of-at}
use Rattle.census_merge.proofs.Counting.{gathers-more, gathers-same, of-high}
use Rattle.census_merge.proofs.kept.kept_of.Goals as goal
use Rattle.census_merge.proofs.kept.kept_of.Goals.{in-Some+in_ok-push, in_default}

pub kept_row-requires-clause-low : goal.kept_row-requires-clause-low
kept_row-requires-clause-low c = (of-at count_limit c.args.rows.now c.loop-row.row-index _ c.requires.owned c.loop-row-test.true).0

pub kept_row-requires-clause-high : goal.kept_row-requires-clause-high
kept_row-requires-clause-high c = of-high count_limit _ c.args.rows.now c.loop-row.row-index _ c.requires.owned c.loop-row-test.true c.requires.numbers.size

pub loop-row-preserved : goal.loop-row-preserved
loop-row-preserved c =
    elim c.match-kept_row.branch [
      | in-Some+in_ok-push w ↦
          rw (w.kept-is, w.in_ok-push.ensures.items)
          (gathers-more c.args.rows.now c.loop-row.row-index _ c.args.numbers.now c.requires.numbers c.requires.owned c.loop-row-test.true c.loop-row.kept.items c.loop-row.invariant
          w.in-Some.row (sym c.kept_row.ensures ∙ w.in-Some.is))
      | in_default w ↦
          rw w.kept-is
          (gathers-same c.args.rows.now c.loop-row.row-index _ c.args.numbers.now c.requires.numbers c.requires.owned c.loop-row-test.true c.loop-row.kept.items c.loop-row.invariant
          (sym c.kept_row.ensures ∙ w.in_default.is))
    ]
