-- The places of squares.
use Rattle.std.specs.Prelude.{◌≡◌, ℕ, suc, ℤ, pos, neg_ℤ, ◌+ℤ◌, ◌<◌, ◌≤◌, ◌≤ℤ◌, List}
use Rattle.life_model.specs.Cell.{Cell}
use Rattle.life_advance.specs.declared.leaps.site.Site.{Site}
use Rattle.life_advance.specs.declared.leaps.site.Sites.{Sites}
use Rattle.life_advance.specs.Leaps.Squares.{beyond, width}
use Rattle.life_advance.specs.Leaps.Cells.{IsInside, IsListed}

-- the level of the square that has all cells of a plane, and the place where it begins
abbrev pub root_level : ℕ
root_level = 20

abbrev pub first_place : ℤ
first_place = neg_ℤ (pos 16777216)

abbrev pub root_corner : Cell
root_corner = (first_place, first_place)

-- the place where the square begins that has that one in its middle
abbrev pub wide_corner : Cell
wide_corner = (neg_ℤ (pos 33554432), neg_ℤ (pos 33554432))

abbrev pub corner : Site → Cell
corner site = (site.left, site.top)

-- a place of a square in that one
pub record IsSite (site : Site) : Type 0 where
  pub level : site.level ≤ root_level
  pub wide : site.wide ≡ width site.level
  pub west : first_place ≤ℤ site.left
  pub east : (site.left +ℤ pos (width site.level)) ≤ℤ pos 16777216
  pub north : first_place ≤ℤ site.top
  pub south : (site.top +ℤ pos (width site.level)) ≤ℤ pos 16777216

-- a cell is in a column and a row of the square at a place
pub record IsPlaceIn (site : Site) (c : Cell) (place : ℕ × ℕ) : Type 0 where
  pub wide : place.0 < width site.level
  pub high : place.1 < width site.level
  pub is : c ≡ beyond (corner site) place.0 place.1

-- the place of a quarter
pub record IsQuarterOf (site quarter : Site) (x y : ℕ) : Type 0 where
  pub placed : IsSite quarter
  pub level : suc quarter.level ≡ site.level
  pub corner : corner quarter ≡ beyond (corner site) x y

pub record AreQuartersOf (site : Site) (sites : Sites) : Type 0 where
  pub north_west : IsQuarterOf site sites.north_west 0 0
  pub north_east : IsQuarterOf site sites.north_east (width sites.north_east.level) 0
  pub south_west : IsQuarterOf site sites.south_west 0 (width sites.south_west.level)
  pub south_east : IsQuarterOf site sites.south_east (width sites.south_east.level) (width sites.south_east.level)

-- cells of a list, among them all that are in a square
pub record IsPartOf (cells : List Cell) (site : Site) (part : List Cell) : Type 0 where
  pub listed : (q : Cell) → IsListed part q → IsListed cells q
  pub all : (q : Cell) → IsListed cells q → IsInside site.level (corner site) q → IsListed part q

-- all cells of a list are in a square
abbrev pub AreInside : Site → List Cell → Type 0
AreInside site cells = (q : Cell) → IsListed cells q → IsInside site.level (corner site) q
