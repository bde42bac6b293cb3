use Rattle.std.proofs.Common.{◌≡◌, ◌+◌, ap, subst, ◌∙◌, add_assoc, arith}
use Rattle.life_classes.specs.Parted.{LeadFor, classes_beside}
use Rattle.life_classes.proofs.Steps.{for_one_more}
use Rattle.life_classes.proofs.walking.walked_apart.Goals as goal

pub loop-made-preserved : goal.loop-made-preserved
loop-made-preserved g c =
    let at = c.loop-made.invariant in
    let p = c.args.parted in
    let q = c.loop-made.parted in
    let s = c.in_ok-parted.parted in
    record {
      parted = c.in_ok-parted.ensures.parted;
      others = c.in_ok-parted.ensures.others;
      alike = c.in_ok-parted.ensures.alike;
      aged = c.in_ok-parted.ensures.aged ∙ ap (λ k. k + 1) at.aged ∙ add_assoc _ _ _;
      led =
          for_one_more c.args.rule.now c.loop-made.made (classes_beside p.first (g.P.Plane.members p.herd) p.rest)
          (classes_beside q.first (g.P.Plane.members q.herd) q.rest) (classes_beside s.first (g.P.Plane.members s.herd) s.rest)
          at.led c.in_ok-parted.ensures.led;
    }

pub returns-clause-led : goal.returns-clause-led
returns-clause-led g c =
    let p = c.args.parted in
    let q = c.loop-made.parted in
    let past = c.loop-made-test.false in
    let end = c.loop-made.auto.made-end in
    let whole : c.loop-made.made ≡ c.args.limit = omega arith in
    subst (λ m. LeadFor c.args.rule.now m (classes_beside p.first (g.P.Plane.members p.herd) p.rest)
    (classes_beside q.first (g.P.Plane.members q.herd) q.rest)) whole c.loop-made.invariant.led
