use Rattle.std.proofs.Common.{◌≡◌, ◌<◌, [], ◌∷◌, map, true, false, arith, ◌∙◌}
use Rattle.life_model.specs.Generation.{from_list}
use Rattle.life_model.specs.Symmetry.{FlipX, image_under}
use Rattle.life_cells.specs.Orients.{orientation}
use Rattle.life_cells.specs.Wechsler.{body}
use Rattle.life_codes.specs.Lengths.Frames.{cell_in_frame, strips_of, wide_of}
use Rattle.life_codes.specs.Lengths.Grids.{grid_text}
use Rattle.life_codes.proofs.LengthsLemmas.Bodies.{placed-lt, text_forward, text_backward, framed_cells, cells_inside, small_values}
use Rattle.life_codes.proofs.least_text.make_turned.Goals as goal

pub make_grid-requires-clause-inside : goal.make_grid-requires-clause-inside
make_grid-requires-clause-inside c =
    cells_inside c.args.cells.now (orientation c.args.orient) c.turned-turned.result
    (framed_cells c.args.cells.now (orientation c.args.orient) c.args.frame _ c.requires.some c.requires.frame c.turned-turned.ensures.frame)

pub make_grid-requires-clause-small : goal.make_grid-requires-clause-small
make_grid-requires-clause-small c = placed-lt c.args.cells.now (orientation c.args.orient) c.turned-turned.result c.requires.rising

pub returns-clause-small : goal.returns-clause-small
returns-clause-small c =
    let f = c.turned-turned.result in
    let cs = c.args.cells.now in
    let m = orientation c.args.orient in
    let some : 0 < wide_of f = omega arith in
    small_values c.make_grid.new.values.items (wide_of f) (strips_of f) (map (cell_in_frame m f) cs) some c.in_ok-make_grid.ensures.room c.in_ok-make_grid.ensures.weights (placed-lt cs m f c.requires.rising)

pub returns-clause-texts : goal.returns-clause-texts
returns-clause-texts c =
    let f = c.turned-turned.result in
    let cs = c.args.cells.now in
    let m = orientation c.args.orient in
    let values = c.make_grid.new.values.items in
    let framed = framed_cells cs m c.args.frame f c.requires.some c.requires.frame c.turned-turned.ensures.frame in
    let first : grid_text values c.width-grid.result c.strips-grid.result false ≡ body (image_under (from_list cs) m) =
    (λ i. grid_text values (c.width-grid.ensures i) (c.strips-grid.ensures i) false)
    ∙ text_forward cs m f framed c.requires.rising values c.in_ok-make_grid.ensures.room c.in_ok-make_grid.ensures.weights in
    let second : grid_text values c.width-grid.result c.strips-grid.result true ≡ body (image_under (image_under (from_list cs) m) FlipX) =
    (λ i. grid_text values (c.width-grid.ensures i) (c.strips-grid.ensures i) true)
    ∙ text_backward cs m f framed c.requires.rising values c.in_ok-make_grid.ensures.room c.in_ok-make_grid.ensures.weights in
    λ i. first i ∷ second i ∷ []
