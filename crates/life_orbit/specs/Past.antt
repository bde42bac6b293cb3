-- The past of sets that recur, and the generation since which two of them have been apart.
use Rattle.std.specs.Prelude.{◌≡◌, ℕ, ◌≤◌}
use Rattle.life_model.specs.Evolution.{generation}
use Rattle.life_model.specs.Generation.{Generation}
use Rattle.life_model.specs.Recurrence.{RecursBy}
use Rattle.life_model.specs.Rule.{Rule}
use Rattle.life_objects.specs.Apart.{AreApartForEver}
use Rattle.life_orbit.specs.Course.{Course}

-- P recurs as the set does, and is the set n generations later
pub record IsPast (n : ℕ) (o : Course) (P : Generation) : Type 0 where
  pub recurs : RecursBy o.rule P o.period o.displacement
  pub becomes : generation o.rule P n ≡ o.set

-- From generation t on P and Q are apart for ever, and from no generation before it.
pub record AreApartSince (R : Rule) (P Q : Generation) (t : ℕ) : Type 0 where
  pub apart : AreApartForEver R (generation R P t) (generation R Q t)
  pub first : (n : ℕ) → AreApartForEver R (generation R P n) (generation R Q n) → t ≤ n
