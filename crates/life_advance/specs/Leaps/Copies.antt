-- Squares of a store that are copied into another one.
use Rattle.std.specs.Prelude.{◌≡◌, ℕ, suc, ◌<◌, Some, None, length, slice_index_or}
use Rattle.life_model.specs.Cell.{Cell}
use Rattle.life_model.specs.Generation.{Generation}
use Rattle.life_advance.specs.declared.leaps.collecting.Copier.{Copier}
use Rattle.life_advance.specs.Leaps.Squares.{View, IsAt, IsKept, Shows}
use Rattle.life_advance.specs.Leaps.Stores.{view}

-- a square of a level has the cells that one of another store has
pub record IsCopyOf (v : View) (n i : ℕ) (w : View) (copy : ℕ) : Type 0 where
  pub at : IsAt w n copy
  pub shows : (G : Generation) (p : Cell) → Shows v n i G p → Shows w n copy G p

-- the invariant of a store that takes copies
pub record IsCopier (v : View) (c : Copier) : Type 0 where
  pub kept : IsKept (view c.store)
  pub many : length c.places.items ≡ v.squares
  pub copies : (i copy : ℕ) → i < v.squares → slice_index_or c.places.items i None ≡ Some copy →
      IsCopyOf v (suc (v.square i).level) i (view c.store) copy
