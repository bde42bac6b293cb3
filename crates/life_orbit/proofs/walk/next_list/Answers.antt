use Rattle.std.proofs.Common.{◌+◌, sym, ap, ◌∙◌}
use Rattle.life_model.specs.Evolution.{next}
use Rattle.life_model.specs.Generation.{cells}
use Rattle.life_model.proofs.Generations.{contains-cells}
use Rattle.life_cells.specs.Limits.{IsWithin}
use Rattle.life_cells.proofs.Within.{within_next}
use Rattle.life_model.proofs.Members.{of_all_members, of_member}
use Rattle.life_orbit.proofs.walk.next_list.Goals as goal

pub returns-clause-within : goal.returns-clause-within
returns-clause-within g c a all =
    let is = c.in_ok-later.ensures.cells ∙ c.in_ok-step.ensures.cells ∙ ap (next c.args.rule.now) c.in_ok-plane.ensures.cells in
    of_all_members (IsWithin (a + 1)) (cells c.in_ok-later.later) (λ q h.
    within_next c.args.rule.now c.args.cells.now c.in_ok-later.later a is
    (λ g there. of_member (IsWithin a) (cells c.args.cells.now) all g (sym (contains-cells c.args.cells.now g) ∙ there))
    q (contains-cells c.in_ok-later.later q ∙ h))
