use Rattle.std.proofs.Common.{◌≡◌, ◌+◌, sym, subst, arith}
use Rattle.life_classes.specs.Parted.{LeadFor}
use Rattle.life_classes.specs.Splits.{classes_of_split}
use Rattle.life_classes.proofs.Steps.{for_one_more}
use Rattle.life_classes.proofs.walking.onward.Goals as goal

pub returns-then-not-is_time-clause-led : goal.returns-then-not-is_time-clause-led
returns-then-not-is_time-clause-led g c =
    subst (λ m. LeadFor c.args.rule.now m (classes_of_split c.args.split) (classes_of_split c.in_ok-walk.walk.split))
    (sym c.in_ok-walk.ensures.made) c.in_ok-walk.ensures.led

pub returns-clause-led : goal.returns-clause-led
returns-clause-led g c =
    let R = c.args.rule.now in
    let cs = classes_of_split c.args.split in
    let ds = classes_of_split c.in_ok-far.far.split in
    let es = classes_of_split c.in_ok-walk-2.walk.split in
    let none = c.if-far-gt0.false in
    let one = c.in_ok-walk-2.ensures.made in
    let sum : c.in_ok-far.far.made + 1 ≡ c.in_ok-walk-2.walk.made = omega arith in
    subst (λ m. LeadFor R m cs es) sum
    (for_one_more R c.in_ok-far.far.made cs ds es c.in_ok-far.ensures.led c.in_ok-walk-2.ensures.led)
