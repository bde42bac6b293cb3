use Rattle.std.proofs.Common.{◌≡◌, ◌-◌, ◌+ℤ◌, ◌<ℤ◌, ◌<◌, get_or, length, neg_ℤ, pos, of_z, to_z, w64, subst, arith}
use Rattle.std.proofs.lemmas.Int.{ints}
use Rattle.life_classes.specs.declared.tags.Tag.{Tag}
use Rattle.life_classes.specs.Tags.{AreFrom, AreLess}
use Rattle.life_classes.proofs.Lookups.{just_at, just_before, none_level}
use Rattle.life_classes.proofs.inheriting.place_level.Goals as goal
use Rattle.life_classes.proofs.inheriting.place_level.Goals.{else-at-tags-via-then-at-tags+else-tags-at, else-at-tags-via-else-at-tags, else-at-gt0-via-then-at-gt0+else-tags-at-3, else-at-gt0-via-else-at-gt0}

pub returns-then-tags-at-clause-found : goal.returns-then-tags-at-clause-found
returns-then-tags-at-clause-found c =
    let low = c.requires.low in
    let high = c.requires.high in
    let fits = c.ranges.number in
    let near = c.if-tags-at.true in
    let back : to_z w64 (of_z w64 c.args.number) ≡ c.args.number = omega (arith, ints) in
    just_at c.args.tags.now c.args.number c.place_of-at.result
    (subst (AreLess c.args.tags.now c.place_of-at.result) back c.place_of-at.ensures.less) c.place_of-at.ensures.within
    (record { number = pos 0; label = 0 }) c.if-at-tags.true
    (subst (AreFrom c.args.tags.now c.place_of-at.result) back c.place_of-at.ensures.least) (omega (arith, ints))

pub returns-then-tags-at-3-clause-found : goal.returns-then-tags-at-3-clause-found
returns-then-tags-at-3-clause-found c =
    let low = c.requires.low in
    let high = c.requires.high in
    let fits = c.ranges.number in
    let near = c.if-tags-at-3.true in
    let back : to_z w64 (of_z w64 c.args.number) ≡ c.args.number = omega (arith, ints) in
    just_before c.args.tags.now c.args.number c.place_of-at.result
    (subst (AreLess c.args.tags.now c.place_of-at.result) back c.place_of-at.ensures.less) c.place_of-at.ensures.within
    (record { number = pos 0; label = 0 }) (omega arith) (omega (arith, ints))

pub returns-clause-none : goal.returns-clause-none
returns-clause-none c =
    let ts = c.args.tags.now in
    let s : Tag = record { number = pos 0; label = 0 } in
    let at = c.place_of-at.result in
    let low = c.requires.low in
    let high = c.requires.high in
    let fits = c.ranges.number in
    let back : to_z w64 (of_z w64 c.args.number) ≡ c.args.number = omega (arith, ints) in
    let great : at < length ts → (c.args.number +ℤ pos 1) <ℤ (get_or ts at s).number = λ (inside : at < length ts).
    elim c.else-at-tags.branch [
      | else-at-tags-via-then-at-tags+else-tags-at w ↦ let past = w.if-tags-at.false in omega (arith, ints)
      | else-at-tags-via-else-at-tags w ↦ absurd (omega arith)
    ] in
    let small : 0 < at → (get_or ts (at - 1) s).number <ℤ (c.args.number +ℤ neg_ℤ (pos 1)) = λ (some : 0 < at).
    elim c.else-at-gt0.branch [
      | else-at-gt0-via-then-at-gt0+else-tags-at-3 w ↦ let past = w.if-tags-at-3.false in omega (arith, ints)
      | else-at-gt0-via-else-at-gt0 w ↦ absurd (omega arith)
    ] in
    none_level ts c.args.number at (subst (AreLess ts at) back c.place_of-at.ensures.less) c.place_of-at.ensures.within s
    c.requires.rising great small
