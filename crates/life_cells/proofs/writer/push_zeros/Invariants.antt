use Rattle.std.proofs.Common.{◌≡◌, ◌++◌}
use Rattle.life_cells.specs.Wechsler.{zeros}
use Rattle.life_cells.proofs.writer.push_zeros.Given as goal

abbrev pub invariant-runs : goal.invariant-runs
invariant-runs l = l.initial.text.items ++ zeros l.count ≡ l.text.items ++ zeros l.left

abbrev pub decreases-runs : goal.decreases-runs
decreases-runs l = l.left
