use Rattle.std.proofs.Common.{◌≡◌, subst, sym, ◌∙◌, arith}
use Rattle.std.proofs.lemmas.List.{get_or_default}
use Rattle.life_classes.proofs.Forests.{root-up}
use Rattle.life_classes.specs.Forest.{root}
use Rattle.life_classes.proofs.forest.root.Goals as goal

pub loop-at-preserved : goal.loop-at-preserved
loop-at-preserved c =
    let f = c.args.forest.now in
    let at = c.loop-at.at in
    let same = get_or_default f at 0 at (omega arith) in
    record {
      same = subst (λ k. root f k ≡ root f at) (sym same) (sym (root-up f at (omega arith))) ∙ c.loop-at.invariant.same;
      less = omega arith;
    }
