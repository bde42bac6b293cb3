use Rattle.std.proofs.Common.{◌≡◌, ◌++◌, drop, take}
use Rattle.life_answer.specs.CountedTales.{with_tale}
use Rattle.life_answer.proofs.engine_list.place_of.Given as goal

-- the tale comes after those of the engines so far
abbrev pub invariant-loop-n : goal.invariant-loop-n
invariant-loop-n l = with_tale l.tale l.engines ≡ take l.n l.engines ++ with_tale l.tale (drop l.n l.engines)
