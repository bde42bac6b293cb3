use Rattle.std.proofs.Common.{arith, ◌∙◌}
use Rattle.census_rows.proofs.StoreLemmas.Coded.{pushing-none, pushing-on, pushing-end}
use Rattle.census_rows.proofs.store.numbers.push_number.Goals as goal

pub loop-left-init : goal.loop-left-init
loop-left-init c = pushing-none c.args.bytes.now.items c.args.number (omega arith)

pub loop-left-preserved : goal.loop-left-preserved
loop-left-preserved c = rw c.in_ok-push.ensures.items (pushing-on _ _ _ _ c.loop-left.invariant c.loop-left-test.true)

pub returns-clause-all : goal.returns-clause-all
returns-clause-all c = c.in_ok-push-2.ensures.items ∙ pushing-end _ _ _ _ c.loop-left.invariant (omega arith)
