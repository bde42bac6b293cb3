-- The rows of a leaf, one after another.
use Rattle.std.proofs.Common.{◌≡◌, pos, ◌+ℤ◌, ◌≤ℤ◌, ◌++◌, ◌∙◌, reverse, to_z, of_z, w32, arith}
use Rattle.std.proofs.lemmas.Int.{ints}
use Rattle.life_slots.specs.Cells.{row_cells}
use Rattle.life_advance.specs.Leaps.Squares.{width}
use Rattle.life_advance.specs.Leaps.Sites.{first_place}
use Rattle.life_advance.proofs.LeapsLemmas.ListLemmas.{row_pushed, rows_none}
use Rattle.life_advance.proofs.leaps.listing.push_leaf.Goals as goal

pub loop-y-init : goal.loop-y-init
loop-y-init c = λ q. rows_none c.args.cells.now.items c.args.site.now.left c.args.site.now.top c.args.leaf.now.rows q

pub loop-y-preserved : goal.loop-y-preserved
loop-y-preserved c =
    let west : first_place ≤ℤ c.args.site.now.left = c.requires.site.west in
    let north : first_place ≤ℤ c.args.site.now.top = c.requires.site.north in
    let east : (c.args.site.now.left +ℤ pos (width c.args.site.now.level)) ≤ℤ pos 16777216 = c.requires.site.east in
    let south : (c.args.site.now.top +ℤ pos (width c.args.site.now.level)) ≤ℤ pos 16777216 = c.requires.site.south in
    let left_is : to_z w32 (of_z w32 c.args.site.now.left) ≡ c.args.site.now.left = omega (arith, ints) in
    let top_is : to_z w32 (of_z w32 (to_z w32 (of_z w32 c.args.site.now.top) +ℤ to_z w32 c.loop-y.y)) ≡ (c.args.site.now.top +ℤ pos c.loop-y.y) = omega (arith, ints) in
    row_pushed c.args.cells.now.items c.loop-y.cells.items c.push_row.new.cells.items c.args.site.now.left c.args.site.now.top c.args.leaf.now.rows c.loop-y.y c.from.result
    c.from.ensures (omega arith)
    (c.in_ok-push_row.ensures ∙ (λ i. c.loop-y.cells.items ++ reverse (row_cells (left_is i) (top_is i) c.from.result 64))) c.loop-y.invariant
