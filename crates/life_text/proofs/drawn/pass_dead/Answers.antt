use Rattle.std.proofs.Common.{◌≡◌, ◌+◌, ◌-◌, ◌<◌, ℕ, length, min, get_or, ap, ◌∙◌, arith}
use Rattle.std.proofs.lemmas.Bool.Decides.{nat_tests}
use Rattle.life_text.specs.declared.pen.Pen.{Pen}
use Rattle.life_text.specs.Drawing.{drawn_from}
use Rattle.life_text.specs.Reader.{count_cap}
use Rattle.life_text.proofs.StepLemmas.{dead_here}
use Rattle.life_text.proofs.drawn.pass_dead.Goals as goal

pub loop-at-init : goal.loop-at-init
loop-at-init c =
    let text = c.args.text.now in
    let start = c.args.start in
    let from = c.args.from in
    let lt : from < length text = omega arith in
    let one : min (start.x + 1) count_cap ≡ min (start.x + (from + 1 - from)) count_cap = omega arith in
    record {
      from = omega arith;
      within = omega arith;
      drawn = dead_here text from start lt c.requires.dead c.requires.row
          ∙ ap (λ (x : ℕ). drawn_from text (record { y = start.y; x = x; live = start.live }) (from + 1)) one;
    }

pub loop-at-preserved : goal.loop-at-preserved
loop-at-preserved c =
    let text = c.args.text.now in
    let start = c.args.start in
    let from = c.args.from in
    let at = c.loop-at.at in
    let lt : at < length text = omega arith in
    let dead : get_or text at 0 ≡ 98 = grind (arith, nat_tests) in
    let pen : Pen = record { y = start.y; x = min (start.x + (at - from)) count_cap; live = start.live } in
    let more : min (min (start.x + (at - from)) count_cap + 1) count_cap ≡ min (start.x + (at + 1 - from)) count_cap = omega arith in
    record {
      from = omega arith;
      within = omega arith;
      drawn = c.loop-at.invariant.drawn
          ∙ dead_here text at pen lt dead c.requires.row
          ∙ ap (λ (x : ℕ). drawn_from text (record { y = start.y; x = x; live = start.live }) (at + 1)) more;
    }
