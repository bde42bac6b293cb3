-- The cells of a part, one after another.
use Rattle.std.proofs.Common.{pos, ◌<◌, ◌+◌, ◌∙◌, sym, ap, subst, length, take, List, arith}
use Rattle.life_model.specs.Cell.{Cell}
use Rattle.life_advance.specs.Leaps.Sites.{IsPartOf}
use Rattle.life_advance.proofs.LeapsLemmas.BuildLemmas.{part_passed, part_taken}
use Rattle.life_advance.proofs.leaps.building.part_of.Goals as goal
use Rattle.life_advance.proofs.leaps.building.part_of.Goals.{in-Some+in_ok-push, in_default}

pub loop-cell-preserved : goal.loop-cell-preserved
loop-cell-preserved c =
    let inside : c.loop-cell.cell-index < length c.args.cells.now = omega arith in
    let P : List Cell → Type 0 = λ l. IsPartOf (take (c.loop-cell.cell-index + 1) c.args.cells.now) c.args.site.now l in
    elim c.match-place_of.branch [
      | in-Some+in_ok-push w ↦ subst P (sym (ap (λ v. v.items) w.part-is ∙ w.in_ok-push.ensures.items))
          (part_taken c.args.cells.now c.loop-cell.part.items c.args.site.now c.loop-cell.cell-index (pos 0, pos 0) inside c.loop-cell.invariant)
      | in_default w ↦ subst P (sym (ap (λ v. v.items) w.part-is))
          (part_passed c.args.cells.now c.loop-cell.part.items c.args.site.now c.loop-cell.cell-index (pos 0, pos 0) inside w.in_default.ensures c.loop-cell.invariant)
    ]
