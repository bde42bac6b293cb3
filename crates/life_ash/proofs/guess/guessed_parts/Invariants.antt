use Rattle.std.proofs.Common.{◌≡◌}
use Rattle.life_ash.proofs.guess.guessed_parts.Given as goal

-- what is known has its rule and its bound still
abbrev pub invariant-loop-effort : goal.invariant-loop-effort
invariant-loop-effort g l = l.known ≡ l.initial.known
