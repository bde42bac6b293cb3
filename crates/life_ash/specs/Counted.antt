-- Totals of the cells of generations past the bound.
use Rattle.std.specs.Prelude.{◌≡◌, ℕ, ◌+◌, ◌-◌, ◌*◌, length}
use Rattle.life_model.specs.Evolution.{generation}
use Rattle.life_model.specs.Generation.{Generation}
use Rattle.life_model.specs.Rule.{Rule}
use Rattle.life_strays.specs.Totals.{AreTotals, total}
use Rattle.life_ash.specs.declared.stretches.Totals.{Totals}

-- the cells of the first n generations of H are counted, and also those before each stretch of b generations
pub record IsCounted (R : Rule) (b : ℕ) (H : Generation) (n : ℕ) (t : Totals) : Type 0 where
  pub counted : t.total ≡ total R H n
  pub before : AreTotals R b H t.before.items
  pub stretch : length t.before.items * b ≡ n + t.left

-- these cells are the generation of this age of G, and those from generation b on are counted
pub record IsPast (R : Rule) (b : ℕ) (G : Generation) (age : ℕ) (now : Generation) (t : Totals) : Type 0 where
  pub here : now ≡ generation R G age
  pub counted : IsCounted R b (generation R G b) (age - b) t
