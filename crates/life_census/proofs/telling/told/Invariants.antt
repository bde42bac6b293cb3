use Rattle.std.proofs.Common.{◌≡◌, ℕ, take}
use Rattle.std.specs.List.{All}
use Rattle.life_model.specs.Rule.{Rule}
use Rattle.life_answer.specs.Told.{told_of_engines}
use Rattle.life_growing.specs.Growths.{IsEngineFound, starts_of}
use Rattle.life_census.proofs.telling.told.Given as goal

-- the engines so far are reported
abbrev pub invariant-loop-engine : goal.invariant-loop-engine
invariant-loop-engine l = (R : Rule) (b : ℕ) → All (IsEngineFound R b) l.growth.engines →
    l.engines ≡ told_of_engines l.near R b (starts_of (take l.engine-index l.growth.engines))
