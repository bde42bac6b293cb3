use Rattle.std.proofs.Common.{◌-◌, pos, ◌<ℤ◌, sym, subst, arith}
use Rattle.std.proofs.lemmas.Int.{ints}
use Rattle.std.proofs.lemmas.List.{get_or_default}
use Rattle.life_classes.specs.declared.tags.Tag.{Tag}
use Rattle.life_classes.proofs.tags.start_from.Goals as goal

pub returns-clause-less : goal.returns-clause-less
returns-clause-less c k d before h =
    let ts = c.args.tags.now in
    let s : Tag = record { number = pos 0; label = 0 } in
    let some = c.if-near-eq0.false in
    let rise = c.requires.rising k (c.args.near - 1) s (omega arith) (omega arith) in
    let less = c.if-tags-near.false in
    subst (λ (t : Tag). t.number <ℤ c.args.low) (sym (get_or_default ts k d s h)) (omega (arith, ints))
