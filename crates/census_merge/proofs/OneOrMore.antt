-- What is reported of what has fallen apart is how the pattern recurs, or what was found.
use Rattle.std.proofs.Common.{◌==◌, true, false, cond}
use Rattle.life_answer.specs.Census.{unless_one}
use Rattle.life_answer.specs.Parts.{objects_in}
use Rattle.life_answer.specs.declared.finding.Outcome.{Outcome}
use Rattle.life_answer.specs.declared.finding.Outcome.TheVariants.{Recurs, Unresolved, Large, Ash, Grows}

-- so what holds of both holds of it
pub one_of_two : (Holds : Outcome → Type 0) (recurring found : Outcome) → Holds recurring → Holds found →
    Holds (unless_one recurring found)
one_of_two Holds recurring (Ash onset parts) h k =
    elim (objects_in parts == 1) as (λ t. Holds (cond t recurring (Ash onset parts))) [
      | true ↦ h
      | false ↦ k
    ]
one_of_two Holds recurring (Recurs onset period dx dy code) h k = k
one_of_two Holds recurring Unresolved h k = k
one_of_two Holds recurring (Large generation) h k = k
one_of_two Holds recurring (Grows engines) h k = k
