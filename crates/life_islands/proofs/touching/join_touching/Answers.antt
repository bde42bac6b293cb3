use Rattle.std.proofs.Common.{ℕ, ◌<◌, below_more, arith}
use Rattle.life_model.proofs.Generations.{size-cells}
use Rattle.life_islands.specs.Labels.{HasMet}
use Rattle.life_islands.proofs.Further.{further_fits}
use Rattle.life_islands.proofs.Touched.{by_touch_new, by_touch_old, met_further, whole_by_met}
use Rattle.life_islands.proofs.touching.join_touching.Goals as goal
use Rattle.life_islands.proofs.touching.join_touching.Goals.{then-join_before, else-join_before}

pub join_before-requires-clause-within : goal.join_before-requires-clause-within
join_before-requires-clause-within c = omega (arith, c.len-n-end.ensures, size-cells c.args.list.now)

pub loop-n-preserved : goal.loop-n-preserved
loop-n-preserved c =
    let G = c.args.list.now in
    let L = c.args.all.now in
    let M = c.loop-n.all in
    let N = c.join_before.new.all in
    let a = c.loop-n.joined in
    let b = c.join_before.result in
    let d = c.if-join_before.joined in
    let before = c.loop-n.invariant in
    let it = c.join_before.ensures in
    record {
      touched = elim c.if-join_before.branch [
        | then-join_before w ↦ by_touch_new G L M N a b d before.touched it.touched w.if-join_before.true w.joined-is
        | else-join_before w ↦ by_touch_old G L M N a b d before.touched it.touched w.if-join_before.false w.joined-is
      ];
      met = λ n number less few.
          below_more (λ k. (l : ℕ) → l < 4 → HasMet G N k l) c.loop-n.n
          (λ k under l small. met_further G M N b it.touched.further k l (before.met k l under small)) it.met n less number few;
    }

pub returns-clause-whole : goal.returns-clause-whole
returns-clause-whole c =
    let G = c.args.list.now in
    let all = c.loop-n.all in
    let far = c.loop-n-test.false in
    whole_by_met G all (further_fits G c.args.all.now all c.loop-n.joined c.loop-n.invariant.touched.further c.requires)
    (λ n number h few. c.loop-n.invariant.met n number (omega (arith, c.len-n-end.ensures, size-cells G)) few)
