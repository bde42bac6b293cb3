-- A class of a film's first generation that comes back, and its way until then.
use Rattle.std.specs.Prelude.{◌≡◌, ◌≢◌, ℕ, suc, ◌-◌, ◌<◌, ◌≤◌, List, refl}
use Rattle.std.specs.Coded.{Coded, code_by, coded×, coded_list, coded_ℕ}
use Rattle.std.specs.List.{Contains}
use Rattle.life_model.specs.Cell.{Cell}
use Rattle.life_model.specs.Coded.{coded_generation}
use Rattle.life_model.specs.Generation.{Generation, empty}
use Rattle.life_model.specs.Rule.{Rule}
use Rattle.life_model.specs.Evolution.{next}
use Rattle.life_model.specs.Symmetry.{translate_of}
use Rattle.life_objects.specs.Union.{union}
use Rattle.life_growth.specs.Engines.Tracks.{Step, way_along}
use Rattle.life_growth.specs.Engine.{IsEngine, Way}
use Rattle.life_growth.specs.Unsplit.{IsUnsplit}

-- The class at a place goes along a track. Each step has the core after it, and the cells that left in it.
pub record Path : Type 0 where
  pub place : ℕ
  pub start : Generation
  pub steps : List Step

-- coded by its fields
abbrev pub coded_path : Coded Path
coded_path =
    code_by (ℕ × (Generation × List Step))
    (coded× coded_ℕ (coded× coded_generation (coded_list (coded× coded_generation coded_generation))))
    (λ p. (p.place, (p.start, p.steps))) (λ p. record { place = p.0; start = p.1.0; steps = p.1.1 }) (λ _. refl)

abbrev pub way_of : Path → Way
way_of path = way_along path.start path.steps

-- E comes back for the first time, moved or not, along this way within T generations. Each core is unsplit up to
-- generation T. A core and the cells that left in its step are together what the core before becomes. At least once
-- something leaves.
pub record ComesBack (R : Rule) (T : ℕ) (E : Generation) (way : Way) : Type 0 where
  pub start : way.core 0 ≡ E
  pub later : 1 ≤ way.period
  pub within : way.period ≤ T
  pub again : way.core way.period ≡ translate_of E way.displacement
  pub first : (n : ℕ) (e : Cell) → 1 ≤ n → n < way.period → way.core n ≡ translate_of E e → ⊥
  pub together : (n : ℕ) → n < way.period → union (way.core (suc n)) (way.left n) ≡ next R (way.core n)
  pub whole : (n : ℕ) → n ≤ way.period → IsUnsplit R (T - n) (way.core n)
  pub some : (n : ℕ) × (n < way.period) × (way.left n ≢ empty)

-- some track of the class at a place is the way of an engine
abbrev pub HasTrack : Rule → ℕ → Generation → ℕ → List Path → Type 0
HasTrack R b E place paths =
    (path : Path) × Contains paths path × (path.place ≡ place) × IsEngine R b E (way_of path)
