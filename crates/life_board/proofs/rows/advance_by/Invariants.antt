use Rattle.std.proofs.Common.{◌≡◌, ℕ, ◌+◌, ◌<◌, ◌≤◌, length, slice_index}
use Rattle.life_model.specs.Rule.{Rule}
use Rattle.life_plane.specs.Area.{area_row, next_in_area, tile_cell}
use Rattle.life_plane.specs.Logics.{IsLogicOf}
use Rattle.life_plane.specs.Rows.{IsRowSumsOf}
use Rattle.life_board.specs.Squares.{alone}
use Rattle.life_board.proofs.Columns.{AreColumnsTo}
use Rattle.life_board.proofs.rows.advance_by.Given as goal

abbrev pub invariant-loop-y : goal.invariant-loop-y
invariant-loop-y l = record {
  whole : length l.tile.rows ≡ 64;
  from : l.first ≤ l.y + 1;
  above : IsRowSumsOf l.above (area_row (alone l.initial.tile) (l.y + 63));
  beside : IsRowSumsOf l.beside (area_row (alone l.initial.tile) (l.y + 64));
  rest : (k : ℕ) → l.y ≤ k → slice_index l.tile.rows k ≡ slice_index l.initial.tile.rows k;
  void : (k : ℕ) → k + 1 < l.first → slice_index l.tile.rows k ≡ 0;
  columns : AreColumnsTo l.columns l.tile.rows l.y;
  done : (k : ℕ) → k < l.y → (rule : Rule) → IsLogicOf l.logic rule → (x : ℕ) → x < 64 → tile_cell l.tile x k ≡ next_in_area rule (alone l.initial.tile) x k;
}
