use Rattle.std.proofs.Common.{◌+◌, ap, ◌∙◌, add_assoc}
use Rattle.life_strays.proofs.choosing.unsettled.Goals as goal

pub loop-preserved : goal.loop-preserved
loop-preserved g c =
    let at = c.loop.invariant in
    record {
      aged = c.in_ok-step.ensures.age ∙ ap (λ k. k + 1) at.aged ∙ add_assoc _ _ _;
      kept = λ R G all. c.in_ok-left.ensures.left R G (at.kept R G all);
      standing = λ R G all before. c.in_ok-left.ensures.standing R G (at.kept R G all) (at.standing R G all before);
    }
