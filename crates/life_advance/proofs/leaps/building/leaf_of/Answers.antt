-- The cells of a leaf, one after another.
use Rattle.std.proofs.Common.{◌≡◌, ℕ, pos, ◌<◌, ◌+◌, sym, ap, subst, length, get_or, take, arith}
use Rattle.life_model.specs.Cell.{Cell}
use Rattle.life_model.specs.Generation.{Generation, from_list, insert}
use Rattle.life_slots.specs.declared.leaf.Leaf.{Leaf}
use Rattle.life_slots.specs.Leaves.{ShowsLeaf}
use Rattle.life_advance.specs.Leaps.Squares.{half, width}
use Rattle.life_advance.specs.Leaps.Cells.{IsInside}
use Rattle.life_advance.specs.Leaps.Sites.{corner}
use Rattle.life_advance.proofs.LeapsLemmas.BuildLemmas.{leaf_none, leaf_passed, leaf_put, next_set}
use Rattle.life_advance.proofs.leaps.building.leaf_of.Goals as goal
use Rattle.life_advance.proofs.leaps.building.leaf_of.Goals.{in-Some, in_default}

pub loop-cell-init : goal.loop-cell-init
loop-cell-init c = leaf_none c.empty-leaf.result (corner c.args.site.now) c.empty-leaf.ensures

leaf_wide : (n : ℕ) → n ≡ 0 → width n ≡ 32
unfolding half
leaf_wide n e = ap width e

pub set-requires-clause-column : goal.set-requires-clause-column
set-requires-clause-column c =
    let e : width c.args.site.now.level ≡ 32 = leaf_wide c.args.site.now.level c.requires.leaf in
    let h = c.in-Some.ensures.wide in
    omega (arith, e, h)

pub set-requires-clause-row : goal.set-requires-clause-row
set-requires-clause-row c =
    let e : width c.args.site.now.level ≡ 32 = leaf_wide c.args.site.now.level c.requires.leaf in
    let h = c.in-Some.ensures.high in
    omega (arith, e, h)

pub loop-cell-preserved : goal.loop-cell-preserved
loop-cell-preserved c =
    let inside : c.loop-cell.cell-index < length c.args.cells.now = omega arith in
    let next : from_list (take (c.loop-cell.cell-index + 1) c.args.cells.now) ≡ insert (from_list (take c.loop-cell.cell-index c.args.cells.now)) (get_or c.args.cells.now c.loop-cell.cell-index (pos 0, pos 0)) =
    next_set c.args.cells.now c.loop-cell.cell-index (pos 0, pos 0) inside in
    let Q : Generation → Type 0 = λ H. ShowsLeaf c.match-place_of.leaf H (corner c.args.site.now) in
    let R : Leaf → Type 0 = λ l. ShowsLeaf l (insert (from_list (take c.loop-cell.cell-index c.args.cells.now)) (get_or c.args.cells.now c.loop-cell.cell-index (pos 0, pos 0))) (corner c.args.site.now) in
    let at_zero : (q : Cell) → IsInside 0 (corner c.args.site.now) q → IsInside c.args.site.now.level (corner c.args.site.now) q =
    λ q h. (let S : ℕ → Type 0 = λ n. IsInside n (corner c.args.site.now) q in subst S (sym c.requires.leaf) h) in
    subst Q (sym next) (elim c.match-place_of.branch [
      | in-Some w ↦ subst R (sym w.leaf-is)
          (leaf_put c.loop-cell.leaf w.set.new.self (from_list (take c.loop-cell.cell-index c.args.cells.now)) (corner c.args.site.now) (get_or c.args.cells.now c.loop-cell.cell-index (pos 0, pos 0))
          w.in-Some.x w.in-Some.y w.in-Some.ensures.is w.set.ensures.here w.set.ensures.elsewhere c.loop-cell.invariant)
      | in_default w ↦ subst R (sym w.leaf-is)
          (leaf_passed c.loop-cell.leaf (from_list (take c.loop-cell.cell-index c.args.cells.now)) (corner c.args.site.now) (get_or c.args.cells.now c.loop-cell.cell-index (pos 0, pos 0))
          (λ h. w.in_default.ensures (at_zero _ h)) c.loop-cell.invariant)
    ])
