-- The places by which one set can be moved to be near another.
use Rattle.std.specs.Prelude.{◌≡◌, true, ◌^◌, ◌≤ℤ◌}
use Rattle.life_model.specs.Cell.{Cell, plus}
use Rattle.life_model.specs.Generation.{Generation, contains}
use Rattle.life_objects.specs.Apart.{AreNear}
use Rattle.life_things.specs.declared.field.Field.{Field}
use Rattle.life_things.specs.Lattice.Short.{IsWithin}

-- the place is in the field
pub record IsInField (f : Field) (d : Cell) : Type 0 where
  pub left : f.left ≤ℤ d.0
  pub right : d.0 ≤ℤ f.right
  pub above : f.top ≤ℤ d.1
  pub below : d.1 ≤ℤ f.bottom

-- each edge of the field is at most 2 ^ 34 from 0
pub record IsNarrow (f : Field) : Type 0 where
  pub left : IsWithin (2 ^ 34) f.left
  pub right : IsWithin (2 ^ 34) f.right
  pub top : IsWithin (2 ^ 34) f.top
  pub bottom : IsWithin (2 ^ 34) f.bottom

-- The field has each place by which P can be moved to be near Q.
pub record IsFieldOf (f : Field) (P Q : Generation) : Type 0 where
  pub narrow : IsNarrow f
  pub holds : (d c e : Cell) → contains P c ≡ true → contains Q e ≡ true → AreNear (plus c d) e → IsInField f d
