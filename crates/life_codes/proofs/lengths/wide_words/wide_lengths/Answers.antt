use Rattle.std.proofs.Common.{refl, subst, sym}
use Rattle.life_model.specs.Generation.{from_list}
use Rattle.life_model.specs.Symmetry.{FlipY, Same, Swap, SwapFlipY}
use Rattle.life_codes.specs.Lengths.WideWords.{HoldsWideTurned}
use Rattle.life_codes.proofs.LengthsLemmas.Bodies.{cells_inside, framed_cells}
use Rattle.life_codes.proofs.LengthsLemmas.WideMarked.{flipped_lengths, swap_flipped_lengths, two_wide_lengths}
use Rattle.life_codes.proofs.lengths.wide_words.wide_lengths.Goals as goal

pub mark_wide-requires-clause-inside : goal.mark_wide-requires-clause-inside
mark_wide-requires-clause-inside c =
    let cs = c.args.cells.now in
    cells_inside cs Same c.args.frame (framed_cells cs Same c.args.frame c.args.frame c.requires.some c.requires.frame refl)

pub returns-clause-same : goal.returns-clause-same
returns-clause-same c =
    let r = c.requires in
    let found = c.turned_lengths in
    let cells = c.args.cells.now in
    let held = subst (λ w. HoldsWideTurned w Same c.args.frame cells) (sym c.deref.ensures.value) c.in_ok-mark_wide.ensures.same in
    two_wide_lengths cells Same c.args.frame found.result c.deref.result.now r.some r.rising r.frame held found.ensures.forward found.ensures.backward

pub returns-clause-half : goal.returns-clause-half
returns-clause-half c =
    let r = c.requires in
    let found = c.turned_lengths-2 in
    let cells = c.args.cells.now in
    let held = subst (λ w. HoldsWideTurned w FlipY c.args.frame cells) (sym c.deref-2.ensures.value) c.in_ok-mark_wide.ensures.flip in
    flipped_lengths found.result c.mirrored.result (from_list cells) (two_wide_lengths cells FlipY c.args.frame found.result c.deref-2.result.now r.some r.rising r.frame held found.ensures.forward found.ensures.backward) c.mirrored.ensures.forward c.mirrored.ensures.backward

pub returns-clause-swap : goal.returns-clause-swap
returns-clause-swap c =
    let r = c.requires in
    let found = c.turned_lengths-3 in
    let cells = c.args.cells.now in
    let held = subst (λ w. HoldsWideTurned w Swap c.args.frame cells) (sym c.deref-3.ensures.value) c.in_ok-mark_wide.ensures.swap in
    two_wide_lengths cells Swap c.args.frame found.result c.deref-3.result.now r.some r.rising r.frame held found.ensures.forward found.ensures.backward

pub returns-clause-swap_half : goal.returns-clause-swap_half
returns-clause-swap_half c =
    let r = c.requires in
    let found = c.turned_lengths-4 in
    let cells = c.args.cells.now in
    let held = subst (λ w. HoldsWideTurned w SwapFlipY c.args.frame cells) (sym c.deref-4.ensures.value) c.in_ok-mark_wide.ensures.swap_flip in
    swap_flipped_lengths found.result c.mirrored-2.result (from_list cells) (two_wide_lengths cells SwapFlipY c.args.frame found.result c.deref-4.result.now r.some r.rising r.frame held found.ensures.forward found.ensures.backward) c.mirrored-2.ensures.forward c.mirrored-2.ensures.backward
