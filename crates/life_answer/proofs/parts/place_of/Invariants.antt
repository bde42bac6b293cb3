use Rattle.std.proofs.Common.{◌≡◌, ◌++◌, drop, take}
use Rattle.life_answer.specs.Parts.{with_code}
use Rattle.life_answer.proofs.parts.place_of.Given as goal

-- the code comes after those of the parts so far
abbrev pub invariant-loop-n : goal.invariant-loop-n
invariant-loop-n l = with_code l.code l.parts ≡ take l.n l.parts ++ with_code l.code (drop l.n l.parts)
