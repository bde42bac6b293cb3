-- The leaves and squares of a store, by their places.
use Rattle.std.specs.Prelude.{◌≡◌, ℕ, List, [], length, slice_index_or, None}
use Rattle.life_slots.specs.declared.leaf.Leaf.{Leaf}
use Rattle.life_advance.specs.declared.leaps.square.Square.{Square}
use Rattle.life_advance.specs.declared.leaps.store.Store.{Store}
use Rattle.life_advance.specs.Leaps.Places.{empty_at}
use Rattle.life_advance.specs.Leaps.Squares.{View}

abbrev pub no_leaf : Leaf
no_leaf = record { rows = [] }

abbrev pub no_square : Square
no_square = record { quarters = record { north_west = 0; north_east = 0; south_west = 0; south_east = 0 }; level = 0; later = None }

-- the empty square that has quarters of a level
abbrev pub empty_square : ℕ → Square
empty_square n = record { quarters = record { north_west = empty_at n; north_east = empty_at n; south_west = empty_at n; south_east = empty_at n }; level = n; later = None }

-- leaves and squares by their places in lists
abbrev pub listed : List Leaf → List Square → View
listed leaves squares = record {
  leaf = λ i. slice_index_or leaves i no_leaf;
  leaves = length leaves;
  square = λ i. slice_index_or squares i no_square;
  squares = length squares;
}

abbrev pub view : Store → View
view s = listed s.leaves.items s.squares.items

-- the leaves and the squares are the same
pub record HasSame (s t : Store) : Type 0 where
  pub leaves : t.leaves.items ≡ s.leaves.items
  pub squares : t.squares.items ≡ s.squares.items
