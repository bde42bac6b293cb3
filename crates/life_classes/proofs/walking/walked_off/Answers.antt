use Rattle.std.proofs.Common.{sym, subst}
use Rattle.life_classes.specs.Parted.{LeadFor, classes_beside}
use Rattle.life_classes.specs.Splits.{classes_of_split}
use Rattle.life_classes.proofs.Steps.{for_then, then_for}
use Rattle.life_classes.proofs.walking.walked_off.Goals as goal

pub returns-in_ok-walk-in-Some-clause-led : goal.returns-in_ok-walk-in-Some-clause-led
returns-in_ok-walk-in-Some-clause-led g c =
    let R = c.args.rule.now in
    let cs = classes_of_split c.args.split in
    let p = c.in_ok-parted-in-Some.parted in
    let q = c.in_ok-far-in-Some.far.parted in
    let m = c.in_ok-far-in-Some.far.made in
    let ds = classes_beside p.first (g.P.Plane.members p.herd) p.rest in
    let es = classes_beside q.first (g.P.Plane.members q.herd) q.rest in
    let end = classes_of_split c.in_ok-walk-in-Some.walk.split in
    subst (λ k. LeadFor R k cs end) (sym c.in_ok-walk-in-Some.ensures.made)
    (then_for R m cs ds end c.in_ok-parted-in-Some.ensures.led
    (for_then R m ds es end c.in_ok-far-in-Some.ensures.led c.in_ok-walk-in-Some.ensures.led))
