-- The codes of sets that recur.
use Rattle.std.specs.Prelude.{ℕ, List}
use Rattle.life_answer.specs.Apgcode.{code_of}
use Rattle.life_orbit.specs.Course.{Course}

-- the code of a set that recurs like this
abbrev pub course_code : Course → List ℕ
course_code o = code_of o.rule o.set o.period o.displacement
