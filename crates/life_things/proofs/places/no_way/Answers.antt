use mir.Syntax.{w128}
use mir.Val.{SFits, of_z}
use Rattle.std.proofs.Common.{◌≡◌, pos, refl, ap, rules, arith}
use Rattle.std.proofs.lemmas.Int.{ints}
use Rattle.life_things.proofs.Going.{at_another_time, at_no_step, no_step_at}
use Rattle.life_things.proofs.places.no_way.Goals as goal

pub returns-then-start-ne0 : goal.returns-then-start-ne0
returns-then-start-ne0 c = (
  λ t. at_another_time c.args.one.now c.args.other.now c.args.start (λ e. c.if-start-ne0.true (ap (of_z w128) e)),
  λ clear. refl,
)

at_its_time : (c : goal.After-is_clear) → c.args.start.0 ≡ pos 0
at_its_time c =
    let fits : SFits w128 c.args.start.0 = search rules in
    let none = c.if-start-ne0.false in
    omega (arith, ints)

pub returns : goal.returns
returns c = (
  λ t. at_no_step c.args.one.now c.args.other.now c.args.start (at_its_time c) (c.is_clear.ensures.0 t),
  λ clear. c.is_clear.ensures.1 (no_step_at c.args.one.now c.args.other.now c.args.start (at_its_time c) clear),
)
