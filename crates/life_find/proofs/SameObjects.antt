-- Sets with equal codes are one object.
use Rattle.std.proofs.Common.{◌≡◌, ℕ, ℤ, inl, inr, List, Bool, Decides, sym, ◌∙◌}
use Rattle.life_model.specs.Rule.{Rule}
use Rattle.life_model.specs.Generation.{Generation}
use Rattle.life_model.specs.Recurrence.{Recurrence, SettlesAt}
use Rattle.life_answer.specs.declared.finding.Outcome.{Outcome}
use Rattle.life_answer.specs.declared.finding.Outcome.TheVariants.{Recurs}
use Rattle.life_answer.specs.Apgcode.{code_of}
use Rattle.life_model.specs.Evolution.{generation}
use Rattle.life_answer.specs.Answers.{outcome_of, recurrence_outcome}
use Rattle.life_answer.proofs.Findings.{outcome-settled, settled_or_not, settles_by_outcome}
use Rattle.life_answer.proofs.Codes.{codes_tell_objects}
use Rattle.life_find.specs.Objects.{SettlesIntoCode, TellsObject}

code_found : (R : Rule) (G : Generation) (b onset period : ℕ) (dx dy : ℤ) (code : List ℕ) → Recurs onset period dx dy code ≡ recurrence_outcome R G (record { onset = onset; period = period; displacement = (dx, dy) })
    → code ≡ code_of R (generation R G onset) period (dx, dy)
code_found R G b onset period dx dy code e = cc

pub HasCode_by_outcome : (R : Rule) (G : Generation) (b onset period : ℕ) (dx dy : ℤ) (code : List ℕ) → Recurs onset period dx dy code ≡ outcome_of R G b → SettlesIntoCode R G b code
HasCode_by_outcome R G b onset period dx dy code e =
    let r : Recurrence = record { onset = onset; period = period; displacement = (dx, dy) } in
    let s = settles_by_outcome R G b onset period dx dy code (sym e) in
    record {
      recurrence = r;
      settles = s;
      coded = code_found R G b onset period dx dy code (e ∙ outcome-settled R G b r s);
    }

-- a set that becomes anything else settles nowhere
pub nowhere_found : (R : Rule) (G : Generation) (b : ℕ) (outcome : Outcome) → outcome ≡ outcome_of R G b
    → ((onset period : ℕ) (dx dy : ℤ) (code : List ℕ) → outcome ≡ Recurs onset period dx dy code → ⊥) → (g : ℕ) → SettlesAt R G b g → ⊥
nowhere_found R G b outcome e differs g s =
    elim (settled_or_not R G b) [
      | inl found ↦ differs _ _ _ _ _ (e ∙ found.found)
      | inr not ↦ not.nowhere g s
    ]

pub TellsObject_by_codes : (R : Rule) (F S : Generation) (b : ℕ) (one other : List ℕ) (same : Bool) → SettlesIntoCode R F b one → SettlesIntoCode R S b other → Decides same (one ≡ other) → TellsObject R F S b same
TellsObject_by_codes R F S b one other same f s decides =
    let law = codes_tell_objects R F S b b f.recurrence s.recurrence f.settles s.settles in
    record {
      first = f.recurrence;
      first_settles = f.settles;
      second = s.recurrence;
      second_settles = s.settles;
      one_object = (
        λ h. law.0 (sym f.coded ∙ decides.0 h ∙ s.coded),
        λ object. decides.1 (f.coded ∙ law.1 object ∙ sym s.coded),
      );
    }
