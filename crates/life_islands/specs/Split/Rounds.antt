-- Cells of a set that are joined because they are tied, over the generations of one period.
use Rattle.std.specs.Prelude.{◌≡◌, ℕ, ◌<◌, Bool, false, List, length}
use Rattle.life_model.specs.Rule.{Rule}
use Rattle.life_model.specs.Generation.{Generation, cells}
use Rattle.life_model.specs.Evolution.{generation}
use Rattle.life_objects.specs.Union.{generations}
use Rattle.life_parts.specs.Parts.Apart.{AreHeldApart}
use Rattle.life_parts.specs.Parts.Parts.{AreIndependentParts}
use Rattle.life_islands.specs.declared.labels.Labels.{Labels}
use Rattle.life_islands.specs.Labels.{AreThoseWithCells, AreTiedFirsts, AreTiedLabels, Fits, joined_sets, sets_of}

-- cells of P are joined by their places, and joined cells are tied
pub record AreJoinedTied (R : Rule) (P : Generation) (forest : List ℕ) : Type 0 where
  pub long : length forest ≡ length (cells P)
  pub tied : AreTiedFirsts R P (cells P) forest

-- The joined sets of cells of P are held apart before generation n, and the sets of the labels are what they are then.
pub record AreHeldUntil (R : Rule) (P : Generation) (n : ℕ) (L : Labels) : Type 0 where
  pub before : (m : ℕ) → m < n → AreHeldApart R (generation R P m) (generations R (joined_sets P L.forest.items) m)
  pub now : sets_of (generation R P n) L ≡ generations R (joined_sets P L.forest.items) n

-- The cells of generation n have labels that they are tied to; if nothing new was joined, the sets are held apart so far.
pub record HaveArrived (R : Rule) (P : Generation) (n : ℕ) (L : Labels) (is_joined : Bool) : Type 0 where
  pub fits : Fits (generation R P n) L
  pub firsts : AreJoinedTied R P L.forest.items
  pub labels : AreTiedLabels R P (cells P) n (λ c. c) (generation R P n) L.labels.items
  pub held : is_joined ≡ false → AreHeldUntil R P n L

-- The labels have arrived at generation n, and their sets are held apart in it.
pub record HaveWalked (R : Rule) (P : Generation) (n : ℕ) (L : Labels) (is_joined : Bool) : Type 0 where
  pub arrived : HaveArrived R P n L is_joined
  pub here : AreHeldApart R (generation R P n) (sets_of (generation R P n) L)

-- the joined sets are the independent parts
abbrev pub AreParted : Rule → Generation → List ℕ → Type 0
AreParted R P forest =
    (Ks : List Generation) → AreThoseWithCells (joined_sets P forest) Ks → AreIndependentParts R P Ks
