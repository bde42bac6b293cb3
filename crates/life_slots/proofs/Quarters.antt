-- Areas and leaves that have cells of one set.
use Rattle.std.proofs.Common.{◌≡◌, ℕ, pos, ◌+ℤ◌, ◌+◌, ◌<◌, ◌≤◌, sym, subst, ◌∙◌, arith}
use Rattle.std.proofs.lemmas.Int.{ints}
use Rattle.life_model.specs.Rule.{Rule}
use Rattle.life_model.specs.Cell.{Cell, plus}
use Rattle.life_model.specs.Generation.{Generation}
use Rattle.life_model.specs.Evolution.{next, generation}
use Rattle.life_model.proofs.Recurrences.{generation-next}
use Rattle.life_plane.specs.declared.tile.Tile.{Tile}
use Rattle.life_plane.specs.Area.{tile_cell}
use Rattle.life_slots.specs.Kernels.Rows.{state}
use Rattle.life_slots.specs.declared.leaf.Leaf.{Leaf}
use Rattle.life_slots.specs.Areas.{ShowsWithin}
use Rattle.life_slots.specs.Leaves.{leaf_cell, ShowsLeaf}

-- a cell of a quarter of an area, whose corner is in column a and row b
pub quarter : (area : Tile) (leaf : Leaf) (G : Generation) (place corner : Cell) (a b : ℕ) →
    corner.0 ≡ (place.0 +ℤ pos a) → corner.1 ≡ (place.1 +ℤ pos b) → ShowsLeaf leaf G corner →
    (x y p q : ℕ) → x < 32 → y < 32 → p ≡ x + a → q ≡ y + b → tile_cell area p q ≡ leaf_cell leaf x y →
    tile_cell area p q ≡ state G (plus place (pos p, pos q))
quarter area leaf G place corner a b left top shows x y p q column row p_is q_is is =
    let across : (corner.0 +ℤ pos x) ≡ (place.0 +ℤ pos p) = omega (arith, ints) in
    let down : (corner.1 +ℤ pos y) ≡ (place.1 +ℤ pos q) = omega (arith, ints) in
    is ∙ shows x y column row ∙ (λ i. state G (across i, down i))

-- the leaf in the middle of an area
pub middle_shows : (area : Tile) (leaf : Leaf) → ((x y : ℕ) → x < 32 → y < 32 → leaf_cell leaf x y ≡ tile_cell area (x + 16) (y + 16)) →
    (rim : ℕ) → rim ≤ 16 → (G : Generation) (place : Cell) → ShowsWithin rim area G place → ShowsLeaf leaf G (plus place (pos 16, pos 16))
middle_shows area leaf middle rim small G place shows = λ x y column row.
    let across : (place.0 +ℤ pos (x + 16)) ≡ ((place.0 +ℤ pos 16) +ℤ pos x) = omega (arith, ints) in
    let down : (place.1 +ℤ pos (y + 16)) ≡ ((place.1 +ℤ pos 16) +ℤ pos y) = omega (arith, ints) in
    middle x y column row
    ∙ shows.cell (x + 16) (y + 16) (omega arith) (omega arith) (omega arith) (omega arith)
    ∙ (λ i. state G (across i, down i))

module _ (R : Rule) (G : Generation) (place : Cell) (area : Tile) where
  -- one generation more
  pub one_more : (n m : ℕ) → n + 1 ≡ m → ShowsWithin (n + 1) area (next R (generation R G n)) place → ShowsWithin m area (generation R G m) place
  one_more n m is shows =
      subst (λ (k : ℕ). ShowsWithin k area (generation R G k) place) is
      (subst (λ (K : Generation). ShowsWithin (n + 1) area K place) (sym (generation-next R G n)) shows)

  -- and two
  pub two_more : (n m : ℕ) → n + 1 + 1 ≡ m → ShowsWithin (n + 1 + 1) area (next R (next R (generation R G n))) place → ShowsWithin m area (generation R G m) place
  two_more n m is shows =
      one_more (n + 1) m is (subst (λ (K : Generation). ShowsWithin (n + 1 + 1) area (next R K) place) (sym (generation-next R G n)) shows)
