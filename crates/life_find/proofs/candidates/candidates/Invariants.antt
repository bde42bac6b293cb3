use Rattle.std.proofs.Common.{◌≡◌, ◌-◌}
use Rattle.std.specs.List.{filter, range_with_len}
use Rattle.life_find.specs.Search.{ends_alike}
use Rattle.life_find.proofs.candidates.candidates.Given as goal

-- the candidates so far
abbrev pub invariant-loop-period : goal.invariant-loop-period
invariant-loop-period l = l.periods.items ≡ filter (ends_alike l.fingerprints) (range_with_len 1 (l.period - 1))
