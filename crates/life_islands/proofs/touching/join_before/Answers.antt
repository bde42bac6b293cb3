use Rattle.std.proofs.Common.{below_more, arith}
use Rattle.life_islands.specs.Labels.{HasMet}
use Rattle.life_islands.proofs.Touched.{by_touch_new, by_touch_old, met_further}
use Rattle.life_islands.proofs.touching.join_before.Goals as goal
use Rattle.life_islands.proofs.touching.join_before.Goals.{then-join_neighbour, else-join_neighbour}

pub loop-number-preserved : goal.loop-number-preserved
loop-number-preserved c =
    let G = c.args.list.now in
    let L = c.args.all.now in
    let M = c.loop-number.all in
    let N = c.join_neighbour.new.all in
    let a = c.loop-number.joined in
    let b = c.join_neighbour.result in
    let d = c.if-join_neighbour.joined in
    let before = c.loop-number.invariant in
    let it = c.join_neighbour.ensures in
    record {
      touched = elim c.if-join_neighbour.branch [
        | then-join_neighbour w ↦ by_touch_new G L M N a b d before.touched it.touched w.if-join_neighbour.true w.joined-is
        | else-join_neighbour w ↦ by_touch_old G L M N a b d before.touched it.touched w.if-join_neighbour.false w.joined-is
      ];
      met = below_more (HasMet G N c.args.n) c.loop-number.number
          (λ k less. met_further G M N b it.touched.further c.args.n k (before.met k less)) it.met;
    }

pub returns-clause-met : goal.returns-clause-met
returns-clause-met c number few = c.loop-number.invariant.met number (omega arith)
