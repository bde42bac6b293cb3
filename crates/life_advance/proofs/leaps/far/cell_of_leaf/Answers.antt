-- The lowest bit of the first row that is not 0.
use Rattle.std.proofs.Common.{◌≡◌, pos, ◌+ℤ◌, ◌^◌, ◌<◌, ◌≤ℤ◌, w32, to_z, of_z, slice_index, subst, sym, arith, rules}
use Rattle.std.specs.Int.{trailing_zeros}
use Rattle.std.proofs.lemmas.Int.{ints}
use Rattle.std.proofs.lemmas.Nat.Bits.{bit_at-trailing_zeros}
use Rattle.life_model.specs.Cell.{Cell}
use Rattle.life_model.proofs.Cells.{pair}
use Rattle.life_advance.specs.Leaps.Squares.{width}
use Rattle.life_advance.specs.Leaps.Sites.{first_place}
use Rattle.life_advance.specs.Leaps.Cells.{IsListed, rows_cells}
use Rattle.life_advance.proofs.LeapsLemmas.FarLemmas.{row_live, rows_dead}
use Rattle.life_advance.proofs.leaps.far.cell_of_leaf.Goals as goal

pub returns-then-row-ne0 : goal.returns-then-row-ne0
returns-then-row-ne0 c =
    let west : first_place ≤ℤ c.args.site.now.left = c.requires.site.west in
    let north : first_place ≤ℤ c.args.site.now.top = c.requires.site.north in
    let east : (c.args.site.now.left +ℤ pos (width c.args.site.now.level)) ≤ℤ pos 16777216 = c.requires.site.east in
    let south : (c.args.site.now.top +ℤ pos (width c.args.site.now.level)) ≤ℤ pos 16777216 = c.requires.site.south in
    let fits : slice_index c.args.leaf.now.rows c.loop-y.y < 2 ^ 32 = search rules in
    let test = c.if-row-ne0.true in
    let some : 0 < slice_index c.args.leaf.now.rows c.loop-y.y = omega arith in
    let column : trailing_zeros w32 (slice_index c.args.leaf.now.rows c.loop-y.y) < 32 = (bit_at-trailing_zeros w32 (slice_index c.args.leaf.now.rows c.loop-y.y) some fits).0 in
    let row = c.loop-y-test.true in
    let left_is : to_z w32 (of_z w32 (to_z w32 (of_z w32 c.args.site.now.left) +ℤ to_z w32 (trailing_zeros w32 (slice_index c.args.leaf.now.rows c.loop-y.y)))) ≡ (c.args.site.now.left +ℤ pos (trailing_zeros w32 (slice_index c.args.leaf.now.rows c.loop-y.y))) = omega (arith, ints) in
    let top_is : to_z w32 (of_z w32 (to_z w32 (of_z w32 c.args.site.now.top) +ℤ to_z w32 c.loop-y.y)) ≡ (c.args.site.now.top +ℤ pos c.loop-y.y) = omega (arith, ints) in
    let P : Cell → Type 0 = λ q. IsListed (rows_cells c.args.site.now.left c.args.site.now.top c.args.leaf.now.rows 32) q in
    subst P (sym (pair left_is top_is)) (row_live c.args.site.now.left c.args.site.now.top c.args.leaf.now.rows c.loop-y.y row some fits)

pub returns : goal.returns
returns c = rows_dead c.args.site.now.left c.args.site.now.top c.args.leaf.now.rows (λ q high. c.loop-y.invariant q (omega arith))
