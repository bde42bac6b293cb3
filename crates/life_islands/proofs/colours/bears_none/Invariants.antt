use Rattle.std.proofs.Common.{◌≡◌, ℕ, ◌<◌, false}
use Rattle.life_model.specs.Rule.{born}
use Rattle.life_islands.proofs.colours.bears_none.Given as goal

abbrev pub invariant-loop-n : goal.invariant-loop-n
invariant-loop-n l = (k : ℕ) → k < l.n → born l.rule k ≡ false
