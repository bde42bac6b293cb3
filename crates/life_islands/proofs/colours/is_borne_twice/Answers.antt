use Rattle.std.proofs.Common.{◌≡◌, true, below_more, sym, ◌∙◌}
use Rattle.std.proofs.lemmas.Bool.{both_ways}
use Rattle.life_islands.specs.Seats.{bears_at, listed}
use Rattle.life_islands.proofs.colours.is_borne_twice.Goals as goal
use Rattle.life_islands.proofs.colours.is_borne_twice.Goals.{else-bears-via-then-bears+else-colours-n, else-bears-via-else-bears}

pub loop-n-preserved : goal.loop-n-preserved
loop-n-preserved c =
    below_more
    (λ k. bears_at c.args.rule.now c.args.seats.now (listed c.args.colours.now) k ≡ true → listed c.args.colours.now k ≡ listed c.args.colours.now c.args.first)
    c.loop-n.n c.loop-n.invariant (λ h. elim c.else-bears.branch [
      | else-bears-via-then-bears+else-colours-n w ↦ w.if-colours-n.false
      | else-bears-via-else-bears w ↦ absurd (both_ways (bears_at c.args.rule.now c.args.seats.now (listed c.args.colours.now) c.loop-n.n) (sym c.bears.ensures ∙ w.if-bears.false) h)
    ])
