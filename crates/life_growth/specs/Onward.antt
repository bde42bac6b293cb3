-- An engine's way beyond its first period, for ever.
use Rattle.std.specs.Prelude.{◌≡◌, ℕ, zero, suc, ◌+◌, ◌/◌, ◌%◌, ◌<◌, ◌≤◌}
use Rattle.life_model.specs.Generation.{Generation, empty}
use Rattle.life_model.specs.Rule.{Rule}
use Rattle.life_model.specs.Evolution.{generation, next}
use Rattle.life_model.specs.Symmetry.{translate_of}
use Rattle.life_objects.specs.Apart.{AreApart}
use Rattle.life_objects.specs.Drift.{multiple_of}
use Rattle.life_objects.specs.Union.{union}
use Rattle.life_growth.specs.Engine.{IsEngine, Way}

-- the set at step n, where those of one period recur, each time moved once more
abbrev pub at_step : Way → (ℕ → Generation) → ℕ → Generation
at_step way sets n = translate_of (sets (n % way.period)) (multiple_of (n / way.period) way.displacement)

-- the endless way: each period is the first one, moved
abbrev pub endless : Way → Way
endless way = record {
  period = way.period;
  displacement = way.displacement;
  core = at_step way way.core;
  left = at_step way way.left;
}

-- the way from step n on
abbrev pub onward : Way → ℕ → Way
onward way n = record {
  period = way.period;
  displacement = way.displacement;
  core = λ m. (endless way).core (n + m);
  left = λ m. (endless way).left (n + m);
}

-- the union of what the sets that were added, one in each step, have become in n steps
unfoldable pub accumulated : Rule → (ℕ → Generation) → ℕ → Generation
accumulated R added zero = empty
accumulated R added (suc n) = union (next R (accumulated R added n)) (added n)

-- what all that has left an engine has become in n steps
abbrev pub debris_after : Rule → Way → ℕ → Generation
debris_after R way n = accumulated R (endless way).left n

-- F is the core of the engine E after n steps
abbrev pub IsCoreAfter : Rule → ℕ → ℕ → Generation → Generation → Type 0
IsCoreAfter R b n E F = (way : Way) × IsEngine R b E way × (F ≡ (endless way).core n)

-- D is what has left the engine E in n steps
abbrev pub IsDebrisAfter : Rule → ℕ → ℕ → Generation → Generation → Type 0
IsDebrisAfter R b n E D = (way : Way) × IsEngine R b E way × (D ≡ debris_after R way n)

-- What has left at a step is never near the core, at any later time.
abbrev pub LeavesCores : Rule → Way → Type 0
LeavesCores R way =
    (n m : ℕ) → n < way.period → AreApart ((endless way).core (suc (n + m))) (generation R (way.left n) m)

-- What has left at a step is never near what leaves k steps later, at any later time.
abbrev pub LeavesLefts : Rule → Way → Type 0
LeavesLefts R way =
    (n k m : ℕ) → n < way.period → 1 ≤ k →
    AreApart (generation R (way.left n) (k + m)) (generation R ((endless way).left (n + k)) m)

-- The core of an engine and what has left it are at no time near what X becomes.
pub record IsNeverNear (R : Rule) (way : Way) (X : Generation) : Type 0 where
  pub core : (n : ℕ) → AreApart ((endless way).core n) (generation R X n)
  pub left : (n m : ℕ) → AreApart (generation R ((endless way).left n) m) (generation R X (suc n + m))

-- The cores of two engines and what has left them are at no time near each other.
pub record AreNeverNear (R : Rule) (way other : Way) : Type 0 where
  pub cores : (n : ℕ) → AreApart ((endless way).core n) ((endless other).core n)
  pub core_left : (n m : ℕ) → AreApart ((endless way).core (suc n + m)) (generation R ((endless other).left n) m)
  pub left_core : (n m : ℕ) → AreApart (generation R ((endless way).left n) m) ((endless other).core (suc n + m))
  pub lefts : (n m k l : ℕ) → n + m ≡ k + l →
      AreApart (generation R ((endless way).left n) m) (generation R ((endless other).left k) l)
