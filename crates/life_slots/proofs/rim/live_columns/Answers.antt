use Rattle.std.proofs.Common.{◌≡◌, ℕ, slice_index, bit_or, max, sym, ◌∙◌, arith}
use Rattle.std.specs.Int.{bit_at}
use Rattle.std.proofs.lemmas.Nat.Bits.{bit_at_or}
use borrow.Author.Count.{below_more}
use Rattle.life_plane.specs.Area.{tile_cell}
use Rattle.life_slots.proofs.rim.live_columns.Goals as goal
use Rattle.life_model.proofs.Numbers.{max_zero, zero_max}

pub loop-row-preserved : goal.loop-row-preserved
loop-row-preserved c = λ x column.
    let row : ℕ = slice_index c.args.tile.now.rows c.loop-row.row-index in
    let is : bit_at (bit_or c.loop-row.columns (slice_index c.args.tile.now.rows c.loop-row.row-index)) x
    ≡ max (bit_at c.loop-row.columns x) (bit_at (slice_index c.args.tile.now.rows c.loop-row.row-index) x) =
    bit_at_or c.loop-row.columns (slice_index c.args.tile.now.rows c.loop-row.row-index) x in (
      λ none.
          let both = zero_max (bit_at c.loop-row.columns x) (bit_at (slice_index c.args.tile.now.rows c.loop-row.row-index) x) (sym is ∙ none) in
          below_more (λ (y : ℕ). tile_cell c.args.tile.now x y ≡ 0) c.loop-row.row-index ((c.loop-row.invariant x column).0 both.0) both.1,
      λ dead.
          is
          ∙ max_zero (bit_at c.loop-row.columns x) (bit_at (slice_index c.args.tile.now.rows c.loop-row.row-index) x)
          ((c.loop-row.invariant x column).1 (λ y below. dead y (omega arith))) (dead c.loop-row.row-index (omega arith)),
    )
