use Rattle.std.proofs.Common.{map, refl, subst, sym, ap, ◌∙◌}
use Rattle.life_model.specs.Generation.{from_list}
use Rattle.life_model.specs.Symmetry.{Half, Same, Swap, SwapHalf}
use Rattle.life_codes.specs.Lengths.Frames.{cell_in_frame, turned_frame}
use Rattle.life_codes.specs.Lengths.Words.{HoldsRows}
use Rattle.life_codes.proofs.LengthsLemmas.Bodies.{cells_inside, framed_cells}
use Rattle.life_codes.proofs.LengthsLemmas.Marked.{mirrored_lengths}
use Rattle.life_codes.proofs.lengths.words.four_lengths.Goals as goal

pub mark_cells-requires-clause-inside : goal.mark_cells-requires-clause-inside
mark_cells-requires-clause-inside c =
    let cs = c.args.cells.now in
    cells_inside cs Same c.args.frame (framed_cells cs Same c.args.frame c.args.frame c.requires.some c.requires.frame refl)

pub returns-clause-same : goal.returns-clause-same
returns-clause-same c =
    let r = c.requires in
    c.lengths_down.ensures.lengths Same c.args.cells.now (record { some = r.some; rising = r.rising; frame = r.frame }) c.mark_cells.ensures.rows

pub returns-clause-half : goal.returns-clause-half
returns-clause-half c =
    let r = c.requires in
    mirrored_lengths (from_list c.args.cells.now) Same Half c.lengths_up.result c.mirrored.result c.mirrored.ensures.forward c.mirrored.ensures.backward refl refl
    (c.lengths_up.ensures.lengths Same c.args.cells.now (record { some = r.some; rising = r.rising; frame = r.frame }) c.mark_cells.ensures.rows)

pub returns-clause-swap : goal.returns-clause-swap
returns-clause-swap c =
    let r = c.requires in
    let cs = c.args.cells.now in
    let is = c.turned-swapped.ensures.frame in
    c.lengths_down-2.ensures.lengths Swap cs (record { some = r.some; rising = r.rising; frame = is ∙ ap (turned_frame Swap) r.frame })
    (subst (λ g. HoldsRows c.mark_cells.new.columns (map (cell_in_frame Swap g) cs)) (sym is) c.mark_cells.ensures.columns)

pub returns-clause-swap_half : goal.returns-clause-swap_half
returns-clause-swap_half c =
    let r = c.requires in
    let cs = c.args.cells.now in
    let is = c.turned-swapped.ensures.frame in
    mirrored_lengths (from_list cs) Swap SwapHalf c.lengths_up-2.result c.mirrored-2.result c.mirrored-2.ensures.forward c.mirrored-2.ensures.backward refl refl
    (c.lengths_up-2.ensures.lengths Swap cs (record { some = r.some; rising = r.rising; frame = is ∙ ap (turned_frame Swap) r.frame })
    (subst (λ g. HoldsRows c.mark_cells.new.columns (map (cell_in_frame Swap g) cs)) (sym is) c.mark_cells.ensures.columns))
