-- Squares at sites, and the live cells that they have.
use Rattle.std.specs.Prelude.{◌≡◌, suc, ◌⊎◌}
use Rattle.life_model.specs.Cell.{Cell}
use Rattle.life_advance.specs.declared.leaps.far.Spot.{Spot}
use Rattle.life_advance.specs.declared.leaps.far.Spots.{Spots}
use Rattle.life_advance.specs.Leaps.Squares.{View, IsAt}
use Rattle.life_advance.specs.Leaps.Cells.{IsListed, cells_of}
use Rattle.life_advance.specs.Leaps.Sites.{IsSite, corner}

-- there is a square of the site's level
pub record IsSpot (v : View) (spot : Spot) : Type 0 where
  pub site : IsSite spot.site
  pub at : IsAt v spot.site.level spot.place

-- a cell is one of those that a square has at its site
abbrev pub IsLiveIn : View → Spot → Cell → Type 0
IsLiveIn v spot c = IsListed (cells_of v spot.site.level spot.place (corner spot.site)) c

-- a square is a part of one of the next level
pub record IsPartAt (v : View) (spot part : Spot) : Type 0 where
  pub placed : IsSpot v part
  pub level : suc part.site.level ≡ spot.site.level
  pub live : (c : Cell) → IsLiveIn v part c → IsLiveIn v spot c

-- four squares are the quarters of one
pub record AreSpotsOf (v : View) (spot : Spot) (spots : Spots) : Type 0 where
  pub first : IsPartAt v spot spots.first
  pub second : IsPartAt v spot spots.second
  pub third : IsPartAt v spot spots.third
  pub fourth : IsPartAt v spot spots.fourth
  pub all : (c : Cell) → IsLiveIn v spot c →
      (IsLiveIn v spots.first c ⊎ IsLiveIn v spots.second c) ⊎ (IsLiveIn v spots.third c ⊎ IsLiveIn v spots.fourth c)
