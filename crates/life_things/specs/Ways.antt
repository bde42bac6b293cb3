-- The ways of a thing, in machine integers, and the coding of a thing by its fields.
use Rattle.std.specs.Prelude.{ℕ, ◌≤◌, List, [], ◌∷◌, refl}
use Rattle.std.specs.Coded.{Coded, code_by, coded_list, coded×, coded_ℕ, coded_ℤ}
use Rattle.life_model.specs.Cell.{Cell}
use Rattle.life_model.specs.Coded.{coded_generation}
use Rattle.life_model.specs.Generation.{Generation}
use Rattle.life_growth.specs.Things.{Thing}
use Rattle.life_things.specs.Lattice.Short.{IsWithin, way_limit}
use Rattle.life_things.specs.declared.way.Way.{Way}
use Rattle.life_things.specs.declared.way.Ways.{Ways}
use Rattle.life_things.specs.declared.way.Ways.TheVariants.{Never, Once, Twice}

abbrev pub way_of : Way → ℕ × Cell
way_of w = (w.generations, w.by)

abbrev pub ways_of : Ways → List (ℕ × Cell)
ways_of Never = []
ways_of (Once w) = way_of w ∷ []
ways_of (Twice w v) = way_of w ∷ way_of v ∷ []

-- a way that takes time, and goes neither too long nor too far
pub record IsFit (w : ℕ × Cell) : Type 0 where
  pub some : 1 ≤ w.0
  pub few : w.0 ≤ way_limit
  pub across : IsWithin way_limit w.1.0
  pub along : IsWithin way_limit w.1.1

abbrev pub coded_thing : Coded Thing
coded_thing =
    code_by (ℕ × (Generation × List (ℕ × Cell)))
    (coded× coded_ℕ (coded× coded_generation (coded_list (coded× coded_ℕ (coded× coded_ℤ coded_ℤ)))))
    (λ t. (t.time, (t.set, t.ways))) (λ p. record { time = p.0; set = p.1.0; ways = p.1.1 }) (λ _. refl)
