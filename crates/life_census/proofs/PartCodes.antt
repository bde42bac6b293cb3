-- The codes of the parts of ash, whatever finds them.
use Rattle.std.proofs.Common.{◌≡◌, ◌≢◌, ℕ, ◌+◌, ◌≤◌}
use Rattle.std.proofs.Common.{sym, ap, subst, ◌∙◌, arith}
use Rattle.life_model.specs.Cell.{Cell}
use Rattle.life_model.specs.Generation.{empty}
use Rattle.life_model.specs.Evolution.{generation}
use Rattle.life_model.specs.Recurrence.{Recurrence, RecursBy, Settles}
use Rattle.life_model.specs.Symmetry.{translate_of}
use Rattle.life_model.proofs.Recurrences.{generation-zero}
use Rattle.life_answer.specs.Apgcode.{code_of}
use Rattle.life_answer.proofs.Findings.{outcome-settled}
use Rattle.life_orbit.specs.Course.{Course, IsCourse}
use Rattle.life_answer.specs.Census.{code_found, part_code}
use Rattle.life_census.specs.Courses.{course_code}

-- ---- a set that recurs so, alone

-- it recurs from the first generation on
abbrev pub recurrence_of : Course → Recurrence
recurrence_of o = record { onset = 0; period = o.period; displacement = o.displacement }

module _ (o : Course) (b : ℕ) (course : IsCourse o) (within : o.period ≤ b) (some : o.set ≢ empty) where
  start : generation o.rule o.set 0 ≡ o.set
  start = generation-zero o.rule o.set

  at_start : (n : ℕ) (d : Cell) → RecursBy o.rule (generation o.rule o.set 0) n d → RecursBy o.rule o.set n d
  at_start n d = subst (λ G. RecursBy o.rule G n d) start

  pub settles : Settles o.rule o.set b (recurrence_of o)
  settles = record {
    settles = record {
      steps = o.period;
      by = o.displacement;
      later = course.recurs.later;
      within = let whole : 0 + o.period ≤ b = omega arith in whole;
      again = ap (generation o.rule o.set) (let e : 0 + o.period ≡ o.period = omega arith in e) ∙ course.recurs.again ∙ ap (λ G. translate_of G o.displacement) (sym start);
    };
    first = λ g s. omega arith;
    recurs = subst (λ G. RecursBy o.rule G o.period o.displacement) (sym start) course.recurs;
    least = λ n d r. course.least n d (at_start n d r);
    unmoved = λ gone. absurd (some (sym start ∙ gone));
  }

  pub code_alone : part_code o.rule b o.set ≡ course_code o
  code_alone =
      ap code_found (outcome-settled o.rule o.set b (recurrence_of o) settles)
      ∙ ap (λ G. code_of o.rule G o.period o.displacement) start
