use Rattle.std.proofs.Common.{◌≤◌, ◌+◌, ◌∙◌, arith}
use Rattle.life_model.specs.Box.{width, height}
use Rattle.life_cells.specs.Limits.{place_limit}
use Rattle.life_cells.proofs.Boxes.{width_at_age, height_at_age}
use Rattle.census_compare.proofs.starts.code_of.Goals as goal

pub add-requires-clause-wide : goal.add-requires-clause-wide
add-requires-clause-wide c =
    let wide : width c.args.cells.now ≤ place_limit + (0 + 0) = width_at_age c.args.cells.now 0 c.requires in
    omega (arith, wide)

pub add-requires-clause-high : goal.add-requires-clause-high
add-requires-clause-high c =
    let high : height c.args.cells.now ≤ place_limit + (0 + 0) = height_at_age c.args.cells.now 0 c.requires in
    omega (arith, high)
