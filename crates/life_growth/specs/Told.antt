-- The facts reported of an engine: its period, its displacement, and the number of objects of each kind that it
-- emits.
use Rattle.std.specs.Prelude.{◌≡◌, ℕ, ◌*◌, Bool, List, count_by, sum_by}
use Rattle.life_model.specs.Generation.{Generation}
use Rattle.life_model.specs.Rule.{Rule}
use Rattle.life_objects.specs.Kinds.{AreAlike}
use Rattle.life_growth.specs.Engine.{Emits, IsEngine, Way}

-- two engines have the same period and displacement, and emit alike objects
pub record AreToldAlike (R : Rule) (b c : ℕ) (E F : Generation) : Type 0 where
  pub way : Way
  pub other : Way
  pub engine : IsEngine R b E way
  pub too : IsEngine R c F other
  pub periods : way.period ≡ other.period
  pub displacements : way.displacement ≡ other.displacement
  pub emitted : (Ps Qs : List Generation) → Emits R b way Ps → Emits R c other Qs → AreAlike R Ps Qs

-- m generations are `row.0` periods of E, and in each of these it emits the objects `row.1`
abbrev pub EmitsOver : Rule → ℕ → ℕ → Generation → ℕ × List Generation → Type 0
EmitsOver R b m E row = (way : Way) × IsEngine R b E way × (m ≡ row.0 * way.period) × Emits R b way row.1

-- the number of objects of a kind that the engines emit, each in its number of periods
abbrev pub emitted_by : (Generation → Bool) → List (ℕ × List Generation) → ℕ
emitted_by kind rows = sum_by (λ row. row.0 * count_by kind row.1) rows
