use Rattle.std.proofs.Common.{◌≡◌, take}
use Rattle.life_answer.specs.Parts.{with_codes}
use Rattle.life_census.proofs.known_sets.add_codes.Given as goal

-- the codes so far are counted
abbrev pub invariant-loop-n : goal.invariant-loop-n
invariant-loop-n l = l.parts ≡ with_codes (take l.n l.codes) l.fn.parts
