-- Islands of cells that come back nowhere, or only with something new, and the cells that hang on them later.
use Rattle.std.specs.Prelude.{◌≡◌, ℕ, zero, suc, ◌*◌, ◌<◌, ◌≤◌, true}
use Rattle.life_model.specs.Cell.{Cell, IsNear, opposite}
use Rattle.life_model.specs.Evolution.{generation}
use Rattle.life_model.specs.Generation.{Generation, contains}
use Rattle.life_model.specs.Rule.{Rule}
use Rattle.life_objects.specs.Union.{IsSubsetOf}
use Rattle.life_objects.specs.Whole.{StaysWhole}
use Rattle.life_classes.specs.declared.class.Class.{Class}
use Rattle.life_plane.specs.Offsets.{HasNoneWithin, IsMovedInto, IsMoveWithin}
use Rattle.life_strays.specs.declared.stray.Stray.{Stray}
use Rattle.life_strays.specs.declared.trail.Trail.{Trail}

-- P is a set of some of G's cells, at least one, and however G splits into two sets that are apart now, P lies in one of
-- them.
pub record IsIsland (R : Rule) (G P : Generation) : Type 0 where
  pub some : (c : Cell) × (contains P c ≡ true)
  pub within : IsSubsetOf P G
  pub whole : StaysWhole R 0 G P

-- the first cells of a class are an island of G, and its last cells are the same
pub record IsIslandNow (R : Rule) (G : Generation) (class : Class) : Type 0 where
  pub island : IsIsland R G class.first
  pub now : class.last ≡ class.first

-- In none of the next n generations past half the bound is P found, moved as far as it can have come by then. A set that
-- recurs within the bound also recurs in the later half of it, at a multiple of its period.
abbrev pub ComesBackNowhere : Rule → ℕ → ℕ → Generation → Generation → Type 0
ComesBackNowhere R b n G P =
    (m : ℕ) → b < 2 * m → m ≤ n → HasNoneWithin m P (generation R G m)

-- c is a cell of G, and it is a cell of K or next to one
abbrev pub IsHeir : Generation → Generation → Cell → Type 0
IsHeir G K c = (contains G c ≡ true) × (d : Cell) × (contains K d ≡ true) × IsNear c d

-- each cell of L is a cell of G, and it is a cell of K or next to one
abbrev pub AreHeirs : Generation → Generation → Generation → Type 0
AreHeirs G K L = (c : Cell) → contains L c ≡ true → IsHeir G K c

-- L is in generation n of G and hangs on P: each of its cells hung on P a generation before, or is next to one that did.
unfoldable pub HangsOn : Rule → Generation → Generation → ℕ → Generation → Type 0
HangsOn R G P zero L = IsSubsetOf L P
HangsOn R G P (suc n) L = (K : Generation) × HangsOn R G P n K × AreHeirs (generation R G (suc n)) K L

-- The move d, of at most m places, does not both take P to cells of H and, reversed, take L to cells of G.
abbrev pub IsNoReturn : ℕ → Generation → Generation → Generation → Generation → Cell → Type 0
IsNoReturn m G H P L d = IsMoveWithin m d → IsMovedInto P H d → IsMovedInto L G (opposite d) → ⊥

-- Each move of at most m places that takes P to cells of H takes, reversed, some of L out of G.
abbrev pub LacksSome : ℕ → Generation → Generation → Generation → Generation → Type 0
LacksSome m G H P L = (d : Cell) → IsNoReturn m G H P L d

-- In each generation after `after`, up to n, some of the cells that hang on P, moved back, are not in G.
abbrev pub LacksSomeUntil : Rule → ℕ → ℕ → Generation → Generation → Type 0
LacksSomeUntil R after n G P =
    (m : ℕ) → after < m → m ≤ n → (L : Generation) × HangsOn R G P m L × LacksSome m G (generation R G m) P L

-- an island of G that is followed, and cells that hang on it in generation n; where `tells`, some are lacking in each
-- generation after `after`
pub record IsTrail (R : Rule) (after n : ℕ) (G : Generation) (trail : Trail) : Type 0 where
  pub island : IsIsland R G trail.set
  pub heirs : HangsOn R G trail.set n trail.heirs
  pub lacks : trail.tells ≡ true → LacksSomeUntil R after n G trail.set

-- an island of G that comes back nowhere in n generations, and cells that hang on it at the end of these
pub record IsStray (R : Rule) (b n : ℕ) (G : Generation) (stray : Stray) : Type 0 where
  pub island : IsIsland R G stray.set
  pub gone : ComesBackNowhere R b n G stray.set
  pub heirs : HangsOn R G stray.set n stray.heirs

-- An island of G comes back nowhere within b generations, nor does an island of generation b that hangs on it.
pub record LeavesStrays (R : Rule) (b : ℕ) (G : Generation) : Type 0 where
  pub first : Stray
  pub start : IsStray R b b G first
  pub last : Stray
  pub later : IsStray R b b (generation R G b) last
  pub common : Cell
  pub heir : contains first.heirs common ≡ true
  pub here : contains last.set common ≡ true
