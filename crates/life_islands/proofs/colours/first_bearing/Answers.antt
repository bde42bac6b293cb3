use Rattle.std.proofs.Common.{◌≡◌, false, below_more, sym, ◌∙◌}
use Rattle.life_islands.specs.Seats.{bears_at, listed}
use Rattle.life_islands.proofs.colours.first_bearing.Goals as goal

pub loop-n-preserved : goal.loop-n-preserved
loop-n-preserved c = below_more (λ k. bears_at c.args.rule.now c.args.seats.now (listed c.args.colours.now) k ≡ false) c.loop-n.n c.loop-n.invariant (sym c.bears.ensures ∙ c.if-bears.false)
