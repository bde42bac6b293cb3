use Rattle.std.proofs.Common.{◌≡◌, ℕ, ◌<◌, []}
use Rattle.life_growing.specs.Emissions.{left_at}
use Rattle.life_growing.proofs.finding.emit.Given as goal

-- nothing lasts of those looked at
abbrev pub invariant-loop-left : goal.invariant-loop-left
invariant-loop-left l = (n : ℕ) → n < l.left-index → (left_at l.lefts n).parts ≡ []
