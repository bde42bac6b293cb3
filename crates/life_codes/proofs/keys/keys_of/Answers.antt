use Rattle.std.proofs.Common.{◌≡◌, ◌<◌, pos, get_or, map, take, subst, sym, ap, ◌∙◌, arith}
use Rattle.std.proofs.lemmas.Int.{ints}
use Rattle.life_model.specs.Cell.{Cell, origin}
use Rattle.life_model.specs.Symmetry.{Same, FlipX, FlipY, Half, Swap, SwapFlipX, SwapFlipY, SwapHalf, turn}
use Rattle.life_model.proofs.Cells.{pair}
use Rattle.life_codes.specs.Lengths.Frames.{IsInFrame, cell_in_frame, turned_frame, wide_of}
use Rattle.life_codes.proofs.Keyed.{key_placed}
use Rattle.life_codes.proofs.LengthsLemmas.Marked.{inside_turned}
use Rattle.life_codes.proofs.keys.keys_of.Goals as goal

pub place_in-left-requires-clause-inside : goal.place_in-left-requires-clause-inside
place_in-left-requires-clause-inside c = inside_turned Same c.args.frame _ (c.requires.inside c.loop-cell.cell-index origin c.loop-cell-test.true)

pub place_in-right-requires-clause-inside : goal.place_in-right-requires-clause-inside
place_in-right-requires-clause-inside c =
    let cell = get_or c.args.cells.now c.loop-cell.cell-index origin in
    subst (λ g. IsInFrame g (turn Half cell)) (sym c.turned-half_frame.ensures.frame) (inside_turned Half c.args.frame cell (c.requires.inside c.loop-cell.cell-index origin c.loop-cell-test.true))

pub loop-cell-preserved : goal.loop-cell-preserved
loop-cell-preserved c =
    let f = c.args.frame in
    let cs = c.args.cells.now in
    let i = c.loop-cell.cell-index in
    let inv = c.loop-cell.invariant in
    let h = c.loop-cell-test.true in
    let cell = get_or cs i origin in
    let inside = c.requires.inside i origin h in
    let in_left = inside.left in
    let in_right = inside.right in
    let in_above = inside.above in
    let in_below = inside.below in
    let left = c.place_in-left.result.0 in
    let above = c.place_in-left.result.1 in
    let right = c.place_in-right.result.0 in
    let below = c.place_in-right.result.1 in
    let first = c.place_in-left.ensures.place in
    let second : ◌≡◌ {A = Cell} (pos right, pos below) (cell_in_frame Half (turned_frame Half f) cell) = c.place_in-right.ensures.place ∙ ap (λ g. cell_in_frame Half g cell) c.turned-half_frame.ensures.frame in
    let from_left = ap (λ q. q.0) first in
    let from_top = ap (λ q. q.1) first in
    let from_right = ap (λ q. q.0) second in
    let from_bottom = ap (λ q. q.1) second in
    record {
      same =
          let inside : right < wide_of (turned_frame FlipX f) = omega (arith, ints) in
          key_placed (cell_in_frame FlipX (turned_frame FlipX f)) cs i c.with_cell.result _ _ h (pair from_right from_top) (c.with_cell.ensures (wide_of (turned_frame FlipX f)) (map (cell_in_frame FlipX (turned_frame FlipX f)) (take i cs)) inside inv.same);
      flip_x =
          let inside : left < wide_of (turned_frame Same f) = omega (arith, ints) in
          key_placed (cell_in_frame Same (turned_frame Same f)) cs i c.with_cell-in-loop-cell.result _ _ h (pair from_left from_top) (c.with_cell-in-loop-cell.ensures (wide_of (turned_frame Same f)) (map (cell_in_frame Same (turned_frame Same f)) (take i cs)) inside inv.flip_x);
      flip_y =
          let inside : right < wide_of (turned_frame Half f) = omega (arith, ints) in
          key_placed (cell_in_frame Half (turned_frame Half f)) cs i c.with_cell-in-loop-cell-2.result _ _ h (pair from_right from_bottom) (c.with_cell-in-loop-cell-2.ensures (wide_of (turned_frame Half f)) (map (cell_in_frame Half (turned_frame Half f)) (take i cs)) inside inv.flip_y);
      half =
          let inside : left < wide_of (turned_frame FlipY f) = omega (arith, ints) in
          key_placed (cell_in_frame FlipY (turned_frame FlipY f)) cs i c.with_cell-in-loop-cell-3.result _ _ h (pair from_left from_bottom) (c.with_cell-in-loop-cell-3.ensures (wide_of (turned_frame FlipY f)) (map (cell_in_frame FlipY (turned_frame FlipY f)) (take i cs)) inside inv.half);
      swap =
          let inside : below < wide_of (turned_frame SwapFlipX f) = omega (arith, ints) in
          key_placed (cell_in_frame SwapFlipX (turned_frame SwapFlipX f)) cs i c.with_cell-in-loop-cell-4.result _ _ h (pair from_bottom from_left) (c.with_cell-in-loop-cell-4.ensures (wide_of (turned_frame SwapFlipX f)) (map (cell_in_frame SwapFlipX (turned_frame SwapFlipX f)) (take i cs)) inside inv.swap);
      swap_flip_x =
          let inside : above < wide_of (turned_frame Swap f) = omega (arith, ints) in
          key_placed (cell_in_frame Swap (turned_frame Swap f)) cs i c.with_cell-in-loop-cell-5.result _ _ h (pair from_top from_left) (c.with_cell-in-loop-cell-5.ensures (wide_of (turned_frame Swap f)) (map (cell_in_frame Swap (turned_frame Swap f)) (take i cs)) inside inv.swap_flip_x);
      swap_flip_y =
          let inside : below < wide_of (turned_frame SwapHalf f) = omega (arith, ints) in
          key_placed (cell_in_frame SwapHalf (turned_frame SwapHalf f)) cs i c.with_cell-in-loop-cell-6.result _ _ h (pair from_bottom from_right) (c.with_cell-in-loop-cell-6.ensures (wide_of (turned_frame SwapHalf f)) (map (cell_in_frame SwapHalf (turned_frame SwapHalf f)) (take i cs)) inside inv.swap_flip_y);
      swap_half =
          let inside : above < wide_of (turned_frame SwapFlipY f) = omega (arith, ints) in
          key_placed (cell_in_frame SwapFlipY (turned_frame SwapFlipY f)) cs i c.with_cell-in-loop-cell-7.result _ _ h (pair from_top from_right) (c.with_cell-in-loop-cell-7.ensures (wide_of (turned_frame SwapFlipY f)) (map (cell_in_frame SwapFlipY (turned_frame SwapFlipY f)) (take i cs)) inside inv.swap_half);
    }
