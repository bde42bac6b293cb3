use Rattle.std.proofs.Common.{◌≤ℤ◌, ℕ, List, ◌++◌, map, get_or, pos, sym, subst, ap, arith}
use Rattle.life_model.specs.Cell.{Cell}
use Rattle.life_cells.specs.Limits.{IsPlace}
use Rattle.life_cells.proofs.Corners.{corner_place}
use Rattle.life_text.proofs.CornerLemmas.{corner_left, corner_above}
use Rattle.life_text.specs.Filled.{filled_lines}
use Rattle.life_text.specs.RleText.{token_text}
use Rattle.life_text.specs.Writer.{places_from, tokens_from}
use Rattle.life_text.proofs.GapLemmas.{onto_none}
use Rattle.life_text.proofs.PlaceLemmas.{places_behind}
use Rattle.life_text.proofs.write.push_body.Goals as goal

pub loop-cell-init : goal.loop-cell-init
loop-cell-init c =
    let cells : List Cell = c.args.cells.now in
    let places : List (ℕ × ℕ) = places_from c.args.corner cells in
    record {
      used = omega arith;
      run = omega arith;
      behind = places_behind c.args.corner cells c.requires.corner c.requires.rising;
      all = ap (λ (ts : List (ℕ × ℕ)). c.args.text.now.items ++ filled_lines 0 (map token_text ts)) (sym (onto_none (tokens_from 0 0 places)));
    }

pub place-requires-clause-corner : goal.place-requires-clause-corner
place-requires-clause-corner c = subst IsPlace (sym c.requires.corner) (corner_place c.args.cells.now c.requires.placed)

pub place-requires-clause-left : goal.place-requires-clause-left
place-requires-clause-left c =
    let i = c.loop-cell.cell-index in
    let cell : Cell = get_or c.args.cells.now i (pos 0, pos 0) in
    subst (λ (k : Cell). k.0 ≤ℤ cell.0) (sym c.requires.corner) (corner_left c.args.cells.now i (pos 0, pos 0) c.loop-cell-test.true)

pub place-requires-clause-above : goal.place-requires-clause-above
place-requires-clause-above c =
    let i = c.loop-cell.cell-index in
    let cell : Cell = get_or c.args.cells.now i (pos 0, pos 0) in
    subst (λ (k : Cell). k.1 ≤ℤ cell.1) (sym c.requires.corner) (corner_above c.args.cells.now i (pos 0, pos 0) c.loop-cell-test.true)
