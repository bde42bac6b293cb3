-- An engine recurs, moved or not, and has left something behind that lasts for ever.
use Rattle.std.specs.Prelude.{◌≡◌, ℕ, zero, suc, ◌<◌, ◌≤◌, List, [], ◌++◌}
use Rattle.life_model.specs.Cell.{Cell}
use Rattle.life_model.specs.Generation.{Generation}
use Rattle.life_model.specs.Rule.{Rule}
use Rattle.life_model.specs.Symmetry.{translate_of}
use Rattle.life_objects.specs.Ash.{HasFallenApart}
use Rattle.life_objects.specs.Piece.{LivesThrough}
use Rattle.life_growth.specs.Unsplit.{IsUnsplit, Leaves}

-- P falls apart within b, into some objects or none
abbrev pub FallsApart : Rule → ℕ → Generation → Type 0
FallsApart R b P = (parts : List Generation) × HasFallenApart R b P parts

-- The way of an engine: its core after n steps, and what leaves that core in the next step.
pub record Way : Type 0 where
  pub period : ℕ
  pub displacement : Cell
  pub core : ℕ → Generation
  pub left : ℕ → Generation

-- E goes this way within b. After a period, and not before, its core is E again, moved. What leaves falls apart, and at least
-- once something of it lasts.
pub record IsEngine (R : Rule) (b : ℕ) (E : Generation) (way : Way) : Type 0 where
  pub start : way.core 0 ≡ E
  pub later : 1 ≤ way.period
  pub within : way.period ≤ b
  pub again : way.core way.period ≡ translate_of E way.displacement
  pub first : (n : ℕ) (e : Cell) → 1 ≤ n → n < way.period → way.core n ≡ translate_of E e → ⊥
  pub leaves : (n : ℕ) → n < way.period → Leaves R (way.core n) (way.core (suc n)) (way.left n)
  pub whole : (n : ℕ) → n ≤ way.period → IsUnsplit R b (way.core n)
  pub settles : (n : ℕ) → n < way.period → FallsApart R b (way.left n)
  pub emitting : (n : ℕ) × (n < way.period) × LivesThrough R b (way.left n)

-- E is an engine within b, whichever way it goes
abbrev pub IsEngineWithin : Rule → ℕ → Generation → Type 0
IsEngineWithin R b E = (way : Way) × IsEngine R b E way

-- the first n lists, one after the other
abbrev pub joined : (ℕ → List Generation) → ℕ → List Generation
joined lists zero = []
joined lists (suc n) = joined lists n ++ lists n

-- These are the objects that an engine emits in a period: the parts of the ashes of what leaves it.
pub record Emits (R : Rule) (b : ℕ) (way : Way) (objects : List Generation) : Type 0 where
  pub ashes : ℕ → List Generation
  pub each : (n : ℕ) → n < way.period → HasFallenApart R b (way.left n) (ashes n)
  pub together : objects ≡ joined ashes way.period
