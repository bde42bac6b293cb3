use mir.Syntax.{w32}
use mir.Val.{SFits}
use Rattle.std.proofs.Common.{◌*◌, sym, subst, ◌∙◌, rules}
use Rattle.life_model.proofs.Cells.{pair}
use Rattle.life_orbit.specs.Reach.{IsReach}
use Rattle.life_orbit.proofs.Reaching.{place_reach, product_value, reach_times, x_axis, y_axis}
use Rattle.life_orbit.proofs.Shifts.{times-scaled}
use Rattle.life_orbit.proofs.shift.repeated.Goals as goal

pub returns-clause-value : goal.returns-clause-value
returns-clause-value c =
    let x : SFits w32 c.args.by.0 = search rules in
    let y : SFits w32 c.args.by.1 = search rules in
    pair (product_value c.args.count c.args.by.0 c.requires x
    ∙ sym (times-scaled (λ d. d.0) x_axis c.args.count c.args.by))
    (product_value c.args.count c.args.by.1 c.requires y
    ∙ sym (times-scaled (λ d. d.1) y_axis c.args.count c.args.by))

pub returns-clause-reach : goal.returns-clause-reach
returns-clause-reach c =
    let x : SFits w32 c.args.by.0 = search rules in
    let y : SFits w32 c.args.by.1 = search rules in
    subst (IsReach (c.args.count * 2147483648)) (sym (returns-clause-value c))
    (reach_times 2147483648 c.args.count c.args.by (place_reach c.args.by x y))
