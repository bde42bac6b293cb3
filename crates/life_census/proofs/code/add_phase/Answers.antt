use Rattle.std.proofs.Common.{◌≤◌, sym, subst, arith}
use Rattle.life_model.specs.Box.{width, height}
use Rattle.life_cells.specs.Limits.{extent_limit}
use Rattle.life_census.proofs.Phases.{phase_high, phase_wide}
use Rattle.life_census.proofs.code.add_phase.Goals as goal

pub add-requires-clause-wide : goal.add-requires-clause-wide
add-requires-clause-wide c =
    subst (λ H. width H ≤ extent_limit) (sym c.phase.ensures)
    (phase_wide c.args.orbit.now.rule c.args.orbit.now.set c.args.n c.requires.within (omega arith))

pub add-requires-clause-high : goal.add-requires-clause-high
add-requires-clause-high c =
    subst (λ H. height H ≤ extent_limit) (sym c.phase.ensures)
    (phase_high c.args.orbit.now.rule c.args.orbit.now.set c.args.n c.requires.within (omega arith))
