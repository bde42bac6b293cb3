-- The number of live cells of a square, and where they are.
use Rattle.std.proofs.Common.{List, ◌≡◌, ℤ, All, length, ℕ, ◌+◌, ◌-◌, ◌<◌, ◌≤◌, slice_index, sym, ap, ◌∙◌, arith}
use Rattle.life_model.specs.Cell.{Cell}
use Rattle.life_model.specs.Generation.{cells, size}
use Rattle.life_model.proofs.Generations.{contains-cells}
use Rattle.life_cells.specs.Limits.{IsWithin}
use Rattle.life_plane.specs.declared.tile.Tile.{Tile}
use Rattle.life_slots.specs.Cells.{block_cells, row_cells, IsCountFrom}
use Rattle.life_slots.proofs.Pushed.{block_empty, block_short}
use Rattle.life_slots.proofs.Counted.{counted_from, counted_from_none, size-fresh}
use Rattle.life_slots.proofs.Inserted.{all_listed}
use Rattle.life_slots.proofs.Sizes.{fresh_block}
use Rattle.life_board.specs.Squares as squares
use Rattle.life_board.specs.Squares.{shown}
use Rattle.life_board.specs.Kinds.{age_of, members_of, IsKind}
use Rattle.life_board.specs.declared.kind.Kind.{Kind}
use Rattle.life_board.specs.declared.kind.Kind.TheVariants.{Small, Large}
use Rattle.life_board.specs.declared.small.Square.{Square}

pub shown_size : (left top : ℤ) (tile : Tile) → size (shown left top tile) ≡ length (block_cells left top tile.rows 64)
unfolding shown
shown_size left top tile = size-fresh (block_cells left top tile.rows 64) (fresh_block left top tile.rows 64)

pub square_fits : (square : Square) → squares.IsSquare square → All (IsWithin square.age) (cells (squares.members_of square))
square_fits square kept = all_listed (IsWithin square.age) (squares.members_of square) (cells (squares.members_of square)) (contains-cells (squares.members_of square)) kept.within

pub fits : (kind : Kind) → IsKind kind → All (IsWithin (age_of kind)) (cells (members_of kind))
fits (Small square) kept = square_fits square kept
fits (Large plane) kept = kept

-- ---- row by row

pub counted_start : (rows : List ℕ) (first : ℕ) → ((k : ℕ) → k < first → slice_index rows k ≡ 0) → (left top : ℤ) → 0 ≡ length (block_cells left top rows first)
counted_start rows first void left top = sym (ap (λ (cs : List Cell). length cs) (block_empty left top rows first void))

pub counted_more : (rows : List ℕ) (n count row : ℕ) → ((left y : ℤ) → row ≡ length (row_cells left y (slice_index rows n) 64)) →
    ((left top : ℤ) → count ≡ length (block_cells left top rows n)) → (left top : ℤ) → count + row ≡ length (block_cells left top rows (n + 1))
counted_more rows n count row counts before left top =
    let at : n + 0 ≡ n = omega arith in
    let more : IsCountFrom rows (record { from = n; height = 1; cells = 0 + row }) =
    counted_from rows n 0 0 row (λ west y. counts west y ∙ ap (λ (k : ℕ). length (row_cells west y (slice_index rows k) 64)) (sym at)) (counted_from_none rows n) in
    let start : count ≡ length (block_cells left top rows n) = before left top in
    let all : length (block_cells left top rows n) + (0 + row) ≡ length (block_cells left top rows (n + 1)) = more left top in
    omega arith

pub counted_end : (rows : List ℕ) (n count : ℕ) → n ≤ 64 → ((k : ℕ) → n ≤ k → k < 64 → slice_index rows k ≡ 0) →
    ((left top : ℤ) → count ≡ length (block_cells left top rows n)) → (left top : ℤ) → count ≡ length (block_cells left top rows 64)
counted_end rows n count few void before left top =
    let sum : (64 - n) + n ≡ 64 = omega arith in
    before left top ∙ sym (ap (λ (cs : List Cell). length cs) (block_short left top rows n (64 - n) 64 sum void))
