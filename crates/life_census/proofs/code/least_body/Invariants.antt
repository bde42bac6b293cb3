use Rattle.std.proofs.Common.{◌≡◌, None}
use Rattle.std.specs.List.{fold}
use Rattle.life_answer.specs.Apgcode.{bodies}
use Rattle.life_codes.specs.Least.{with_text}
use Rattle.life_census.proofs.code.least_body.Given as goal

-- the least of the phases so far
abbrev pub invariant-loop-n : goal.invariant-loop-n
invariant-loop-n l = l.least ≡ fold with_text None (bodies l.orbit.rule l.orbit.set l.n)
