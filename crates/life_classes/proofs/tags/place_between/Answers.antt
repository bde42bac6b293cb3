use Rattle.std.proofs.Common.{◌+◌, ◌-◌, ◌/◌, pos, ap, arith}
use Rattle.std.proofs.lemmas.Int.{ints}
use Rattle.std.proofs.lemmas.List.{get_or_default}
use Rattle.life_classes.specs.declared.tags.Tag.{Tag}
use Rattle.life_classes.proofs.tags.place_between.Goals as goal

pub loop-from-preserved-then-tags-middle : goal.loop-from-preserved-then-tags-middle
loop-from-preserved-then-tags-middle c =
    let fits = c.ranges.low in
    let s : Tag = record { number = pos 0; label = 0 } in
    let ts = c.args.tags.now in
    let middle = c.loop-from.from + (c.loop-from.to - c.loop-from.from) / 2 in
    let within = c.loop-from.invariant.within in
    let more = c.loop-from-test.true in
    let less = c.if-tags-middle.true in
    record {
      order = omega arith;
      within = within;
      less = λ k d before h.
          let up = c.requires.rising k middle s (omega arith) (omega arith) in
          let same = ap (λ (t : Tag). t.number) (get_or_default ts k d s h) in
          omega (arith, ints);
      least = c.loop-from.invariant.least;
    }

pub loop-from-preserved : goal.loop-from-preserved
loop-from-preserved c =
    let fits = c.ranges.low in
    let s : Tag = record { number = pos 0; label = 0 } in
    let ts = c.args.tags.now in
    let middle = c.loop-from.from + (c.loop-from.to - c.loop-from.from) / 2 in
    let within = c.loop-from.invariant.within in
    let more = c.loop-from-test.true in
    let great = c.if-tags-middle.false in
    record {
      order = omega arith;
      within = omega arith;
      less = c.loop-from.invariant.less;
      least = λ k d from h.
          let up = c.requires.rising middle k s from h in
          let same = ap (λ (t : Tag). t.number) (get_or_default ts k d s h) in
          omega (arith, ints);
    }
