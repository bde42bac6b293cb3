-- Squares of one level in a row, and the results of a leap in a store.
use Rattle.std.specs.Prelude.{ℕ, ◌+◌, ◌*◌, nat_lt, if◌then◌else◌}
use Rattle.life_model.specs.Cell.{Cell}
use Rattle.life_model.specs.Rule.{Rule}
use Rattle.life_model.specs.Generation.{Generation}
use Rattle.life_model.specs.Evolution.{generation}
use Rattle.life_plane.specs.Logics.{IsLogicOf}
use Rattle.life_advance.specs.declared.leaps.rows.FourInRow.{FourInRow}
use Rattle.life_advance.specs.declared.leaps.rows.ThreeInRow.{ThreeInRow}
use Rattle.life_advance.specs.declared.leaps.rows.TwoInRow.{TwoInRow}
use Rattle.life_advance.specs.declared.leaps.rows.Step.{Step}
use Rattle.life_advance.specs.Leaps.Squares.{View, half, width, beyond, Shows, IsAt, jump, IsKept, AreRight}

pub record AreFourAt (v : View) (n : ℕ) (row : FourInRow) : Type 0 where
  pub first : IsAt v n row.first
  pub second : IsAt v n row.second
  pub third : IsAt v n row.third
  pub fourth : IsAt v n row.fourth

pub record AreThreeAt (v : View) (n : ℕ) (row : ThreeInRow) : Type 0 where
  pub west : IsAt v n row.west
  pub middle : IsAt v n row.middle
  pub east : IsAt v n row.east

pub record AreTwoAt (v : View) (n : ℕ) (row : TwoInRow) : Type 0 where
  pub west : IsAt v n row.west
  pub east : IsAt v n row.east

-- four squares of a level side by side have the cells of a set from a place on
pub record ShowsFourInRow (v : View) (n : ℕ) (row : FourInRow) (G : Generation) (p : Cell) : Type 0 where
  pub first : Shows v n row.first G p
  pub second : Shows v n row.second G (beyond p (width n) 0)
  pub third : Shows v n row.third G (beyond p (2 * width n) 0)
  pub fourth : Shows v n row.fourth G (beyond p (3 * width n) 0)

pub record ShowsThreeInRow (v : View) (n : ℕ) (row : ThreeInRow) (G : Generation) (p : Cell) : Type 0 where
  pub west : Shows v n row.west G p
  pub middle : Shows v n row.middle G (beyond p (width n) 0)
  pub east : Shows v n row.east G (beyond p (2 * width n) 0)

pub record ShowsTwoInRow (v : View) (n : ℕ) (row : TwoInRow) (G : Generation) (p : Cell) : Type 0 where
  pub west : Shows v n row.west G p
  pub east : Shows v n row.east G (beyond p (width n) 0)

-- the number of generations that a square whose quarters have a level still has to make after one of the level below
abbrev pub rest : ℕ → ℕ → ℕ
rest exponent n = if nat_lt (n + 4) exponent then jump exponent n else 0

-- three squares are the middles, some generations later, of the three that two rows of four make, one row below the
-- other
pub record AreThreeLater (rule : Rule) (t : ℕ) (v : View) (n : ℕ) (north south : FourInRow) (w : View) (three : ThreeInRow) : Type 0 where
  pub at : AreThreeAt w n three
  pub shows : (G : Generation) (p : Cell) → ShowsFourInRow v n north G p → ShowsFourInRow v n south G (beyond p 0 (width n)) →
      ShowsThreeInRow w n three (generation rule G t) (beyond p (half n) (half n))

-- two squares are the middles, some generations later, of the two that two rows of three make, one row below the
-- other
pub record AreTwoLater (rule : Rule) (t : ℕ) (v : View) (n : ℕ) (north south : ThreeInRow) (w : View) (two : TwoInRow) : Type 0 where
  pub at : AreTwoAt w n two
  pub shows : (G : Generation) (p : Cell) → ShowsThreeInRow v n north G p → ShowsThreeInRow v n south G (beyond p 0 (width n)) →
      ShowsTwoInRow w n two (generation rule G t) (beyond p (half n) (half n))

-- the step can be made in the store
pub record IsReady (step : Step) (v : View) : Type 0 where
  pub logic : IsLogicOf step.logic step.rule
  pub kept : IsKept v
  pub right : AreRight step.rule step.exponent v
