use Rattle.std.proofs.Common.{◌<◌, length, get_or, map, pos, ap, sym, subst, ◌∙◌, arith}
use Rattle.std.specs.Prelude.{fold}
use Rattle.std.specs.Int.{int_min, int_max}
use Rattle.std.proofs.lemmas.Bool.Decides.{nat_tests}
use Rattle.std.proofs.lemmas.Int.{ints, to_z-of_z}
use Rattle.std.proofs.lemmas.List.{take_all}
use Rattle.life_model.specs.Cell.{origin}
use Rattle.life_codes.specs.Lengths.Frames.{IsBounded}
use Rattle.life_codes.proofs.LengthsLemmas.Framed.{fold_more, frame_bounded}
use Rattle.life_codes.proofs.lengths.frame.frame_of.Goals as goal

pub loop-cell-preserved : goal.loop-cell-preserved
loop-cell-preserved c =
    let cs = c.args.cells.now in
    let first = get_or cs 0 origin in
    let i = c.loop-cell.cell-index in
    let left = fold_more int_min (λ b. b.0) first.0 cs i (pos 0, pos 0) c.loop-cell-test.true in
    let top = fold_more int_min (λ b. b.1) first.1 cs i (pos 0, pos 0) c.loop-cell-test.true in
    let right = fold_more int_max (λ b. b.0) first.0 cs i (pos 0, pos 0) c.loop-cell-test.true in
    let bottom = fold_more int_max (λ b. b.1) first.1 cs i (pos 0, pos 0) c.loop-cell-test.true in
    record {
      left = grind (arith, ints, to_z-of_z, left);
      top = grind (arith, ints, to_z-of_z, top);
      right = grind (arith, ints, to_z-of_z, right);
      bottom = grind (arith, ints, to_z-of_z, bottom);
    }

pub returns-clause-bounded : goal.returns-clause-bounded
returns-clause-bounded c =
    let cs = c.args.cells.now in
    let some : 0 < length cs = grind (arith, nat_tests) in
    let first = get_or cs 0 origin in
    let whole = take_all c.loop-cell.cell-index cs c.loop-cell-test.false in
    let left = c.loop-cell.invariant.left ∙ ap (λ bs. fold int_min first.0 (map (λ b. b.0) bs)) whole in
    let top = c.loop-cell.invariant.top ∙ ap (λ bs. fold int_min first.1 (map (λ b. b.1) bs)) whole in
    let right = c.loop-cell.invariant.right ∙ ap (λ bs. fold int_max first.0 (map (λ b. b.0) bs)) whole in
    let bottom = c.loop-cell.invariant.bottom ∙ ap (λ bs. fold int_max first.1 (map (λ b. b.1) bs)) whole in
    subst IsBounded (λ i. record { left = sym left i; top = sym top i; right = sym right i; bottom = sym bottom i }) (frame_bounded cs some c.requires.placed)
