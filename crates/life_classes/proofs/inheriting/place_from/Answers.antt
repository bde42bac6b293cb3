use Rattle.std.proofs.Common.{◌≡◌, pos, of_z, to_z, w64, subst, arith}
use Rattle.std.proofs.lemmas.Int.{ints}
use Rattle.life_classes.specs.Tags.{AreFrom, AreLess}
use Rattle.life_classes.proofs.Lookups.{from_at, none_at, none_past}
use Rattle.life_classes.proofs.inheriting.place_from.Goals as goal

pub returns-then-at-tags-clause-none : goal.returns-then-at-tags-clause-none
returns-then-at-tags-clause-none c =
    let past = c.if-at-tags.true in
    let fits = c.ranges.low in
    let back : to_z w64 (of_z w64 c.args.low) ≡ c.args.low = omega (arith, ints) in
    none_past c.args.tags.now c.args.low c.place_of-at.result
    (subst (AreLess c.args.tags.now c.place_of-at.result) back c.place_of-at.ensures.less) (omega arith)

pub returns-then-tags-at-clause-none : goal.returns-then-tags-at-clause-none
returns-then-tags-at-clause-none c =
    let great = c.if-tags-at.true in
    let small = c.requires.small in
    let fits = c.ranges.low in
    let back : to_z w64 (of_z w64 c.args.low) ≡ c.args.low = omega (arith, ints) in
    none_at c.args.tags.now c.args.low c.place_of-at.result
    (subst (AreLess c.args.tags.now c.place_of-at.result) back c.place_of-at.ensures.less) (record { number = pos 0; label = 0 }) c.requires.rising
    (omega (arith, ints))

pub returns-clause-found : goal.returns-clause-found
returns-clause-found c =
    let inside = c.if-at-tags.false in
    let near = c.if-tags-at.false in
    let small = c.requires.small in
    let fits = c.ranges.low in
    let back : to_z w64 (of_z w64 c.args.low) ≡ c.args.low = omega (arith, ints) in
    from_at c.args.tags.now c.args.low c.place_of-at.result
    (subst (AreLess c.args.tags.now c.place_of-at.result) back c.place_of-at.ensures.less) (record { number = pos 0; label = 0 }) (omega arith)
    (subst (AreFrom c.args.tags.now c.place_of-at.result) back c.place_of-at.ensures.least) (omega (arith, ints))
