use Rattle.std.proofs.Common.{◌+◌, pos, ◌≤ℤ◌, sym, subst, arith}
use Rattle.std.proofs.lemmas.Int.{ints}
use Rattle.std.proofs.lemmas.List.{get_or_default}
use Rattle.life_classes.specs.declared.tags.Tag.{Tag}
use Rattle.life_classes.proofs.tags.leap.Goals as goal

pub returns-then-tags-from-clause-least : goal.returns-then-tags-from-clause-least
returns-then-tags-from-clause-least c k d from h =
    let s : Tag = record { number = pos 0; label = 0 } in
    let ts = c.args.tags.now in
    let up = c.requires.rising (c.args.from + c.loop-step.step) k s from h in
    let reached = c.if-tags-from.true in
    subst (λ (t : Tag). c.args.low ≤ℤ t.number) (sym (get_or_default ts k d s h)) (omega (arith, ints))
