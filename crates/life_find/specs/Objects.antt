-- Sets that settle into objects, and two that settle into one.
use Rattle.std.specs.Prelude.{◌≡◌, ℕ, List, Bool, IsTrue, ◌↔◌}
use Rattle.life_model.specs.Rule.{Rule}
use Rattle.life_model.specs.Generation.{Generation}
use Rattle.life_model.specs.Evolution.{generation}
use Rattle.life_answer.specs.Apgcode.{code_of}
use Rattle.life_model.specs.Recurrence.{Recurrence, Settles, AreOneObject}

-- It settles within the bound, into an object with this code.
pub record SettlesIntoCode (R : Rule) (G : Generation) (b : ℕ) (code : List ℕ) : Type 0 where
  pub recurrence : Recurrence
  pub settles : Settles R G b recurrence
  pub coded : code ≡ code_of R (generation R G recurrence.onset) recurrence.period recurrence.displacement

-- Both settle within the bound, and `same` is true exactly if their generations at the onset are one object.
pub record TellsObject (R : Rule) (F S : Generation) (b : ℕ) (same : Bool) : Type 0 where
  pub first : Recurrence
  pub first_settles : Settles R F b first
  pub second : Recurrence
  pub second_settles : Settles R S b second
  pub one_object : IsTrue same ↔ AreOneObject R (generation R F first.onset) (generation R S second.onset)
