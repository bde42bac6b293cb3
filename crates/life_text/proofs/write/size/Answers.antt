use Rattle.std.proofs.Common.{◌≡◌, ◌≤ℤ◌, ℕ, List, get_or, take, map, pos, sym, subst, ap, ◌∙◌, arith}
use Rattle.std.proofs.lemmas.Bool.Decides.{nat_tests}
use Rattle.std.proofs.lemmas.List.{take_all}
use Rattle.life_model.specs.Box.{extent}
use Rattle.life_model.specs.Cell.{Cell}
use Rattle.life_cells.specs.Limits.{IsPlace}
use Rattle.life_cells.proofs.Corners.{corner_place}
use Rattle.life_text.specs.Writer.{places_from}
use Rattle.life_text.proofs.CornerLemmas.{corner_left, corner_above}
use Rattle.life_text.proofs.PlaceLemmas.{extent_more, width_of_list, height_of_list}
use Rattle.life_text.proofs.write.size.Goals as goal

pub place-x-requires-clause-corner : goal.place-x-requires-clause-corner
place-x-requires-clause-corner c = subst IsPlace (sym c.requires.corner) (corner_place c.args.cells.now c.requires.placed)

pub place-x-requires-clause-left : goal.place-x-requires-clause-left
place-x-requires-clause-left c =
    let i = c.loop-cell.cell-index in
    let cell : Cell = get_or c.args.cells.now i (pos 0, pos 0) in
    subst (λ (k : Cell). k.0 ≤ℤ cell.0) (sym c.requires.corner) (corner_left c.args.cells.now i (pos 0, pos 0) c.loop-cell-test.true)

pub place-x-requires-clause-above : goal.place-x-requires-clause-above
place-x-requires-clause-above c =
    let i = c.loop-cell.cell-index in
    let cell : Cell = get_or c.args.cells.now i (pos 0, pos 0) in
    subst (λ (k : Cell). k.1 ≤ℤ cell.1) (sym c.requires.corner) (corner_above c.args.cells.now i (pos 0, pos 0) c.loop-cell-test.true)

pub loop-cell-preserved : goal.loop-cell-preserved
loop-cell-preserved c =
    let i = c.loop-cell.cell-index in
    let wide = extent_more (λ p. p.0) c.args.corner c.args.cells.now i (pos 0, pos 0) c.loop-cell-test.true in
    let high = extent_more (λ p. p.1) c.args.corner c.args.cells.now i (pos 0, pos 0) c.loop-cell-test.true in
    let column = ap (λ (p : ℕ × ℕ). p.0) c.place-x.ensures.place in
    let row = ap (λ (p : ℕ × ℕ). p.1) c.place-x.ensures.place in
    record { wide = grind (arith, nat_tests); high = grind (arith, nat_tests) }

pub returns : goal.returns
returns c =
    let cs : List Cell = c.args.cells.now in
    let k : Cell = c.args.corner in
    let whole : take c.loop-cell.cell-index cs ≡ cs = take_all c.loop-cell.cell-index cs c.loop-cell-test.false in
    let wide = c.loop-cell.invariant.wide ∙ ap (λ (bs : List Cell). extent (map (λ p. p.0) (places_from k bs))) whole ∙ width_of_list cs k c.requires.rising c.requires.corner in
    let high = c.loop-cell.invariant.high ∙ ap (λ (bs : List Cell). extent (map (λ p. p.1) (places_from k bs))) whole ∙ height_of_list cs k c.requires.rising c.requires.corner in
    λ i. (wide i, high i)
