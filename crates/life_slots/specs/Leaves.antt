-- Leaves, and the cells of a set that they have.
use Rattle.std.specs.Prelude.{◌≡◌, ℕ, pos, ◌<◌, slice_index}
use Rattle.std.specs.Int.{bit_at}
use Rattle.life_model.specs.Cell.{Cell, plus}
use Rattle.life_model.specs.Generation.{Generation}
use Rattle.life_slots.specs.Kernels.Rows.{state}
use Rattle.life_slots.specs.declared.leaf.Leaf.{Leaf}
use Rattle.life_slots.specs.declared.leaf.FourLeaves.{FourLeaves}

-- the cell of a leaf in column x and row y: 1 if it is live, 0 if not
abbrev pub leaf_cell : Leaf → ℕ → ℕ → ℕ
leaf_cell leaf x y = bit_at (slice_index leaf.rows y) x

-- the leaf has the cells of a set from a place on, eastwards and southwards
abbrev pub ShowsLeaf : Leaf → Generation → Cell → Type 0
ShowsLeaf leaf G place = (x y : ℕ) → x < 32 → y < 32 → leaf_cell leaf x y ≡ state G (plus place (pos x, pos y))

-- four leaves have the cells of a set from a place on
pub record ShowsFour (four : FourLeaves) (G : Generation) (place : Cell) : Type 0 where
  pub north_west : ShowsLeaf four.north_west.now G place
  pub north_east : ShowsLeaf four.north_east.now G (plus place (pos 32, pos 0))
  pub south_west : ShowsLeaf four.south_west.now G (plus place (pos 0, pos 32))
  pub south_east : ShowsLeaf four.south_east.now G (plus place (pos 32, pos 32))
