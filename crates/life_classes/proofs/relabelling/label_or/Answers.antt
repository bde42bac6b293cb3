use Rattle.std.proofs.Common.{inl, inr, subst, sym, refl, arith}
use Rattle.std.proofs.lemmas.Int.{ints}
use Rattle.life_classes.specs.Tags.{AreRisingTags}
use Rattle.life_classes.proofs.Numbers.{tags_rise}
use Rattle.life_classes.proofs.Relabelled.{is_there, not_past, not_there}
use Rattle.life_classes.proofs.relabelling.label_or.Goals as goal

pub place_of-at-requires-clause-rising : goal.place_of-at-requires-clause-rising
place_of-at-requires-clause-rising c =
    subst AreRisingTags (sym c.as_slice-tags.ensures.value) (tags_rise c.args.from.now c.requires.tagged)

pub returns-then-at-tags-clause-label : goal.returns-then-at-tags-clause-label
returns-then-at-tags-clause-label c =
    let number = c.place_number-number.ensures.number in
    let low = c.place_number-number.ensures.low in
    let high = c.place_number-number.ensures.high in
    inr (
      not_past c.args.from.now c.requires.tagged c.args.cell c.requires.placed c.as_slice-tags.result.now _
          c.as_slice-tags.ensures.value (omega (arith, ints)) c.place_of-at.result c.place_of-at.ensures.less
          c.place_of-at.ensures.least c.if-at-tags.true,
      refl,
    )

pub returns-then-tags-at-clause-label : goal.returns-then-tags-at-clause-label
returns-then-tags-at-clause-label c =
    let number = c.place_number-number.ensures.number in
    let low = c.place_number-number.ensures.low in
    let high = c.place_number-number.ensures.high in
    let great = c.if-tags-at.true in
    inr (
      not_there c.args.from.now c.requires.tagged c.args.cell c.requires.placed c.as_slice-tags.result.now _
          c.as_slice-tags.ensures.value (omega (arith, ints)) c.place_of-at.result c.place_of-at.ensures.less
          c.place_of-at.ensures.least c.if-at-tags.false (omega (arith, ints)),
      refl,
    )

pub returns-clause-label : goal.returns-clause-label
returns-clause-label c =
    let number = c.place_number-number.ensures.number in
    let low = c.place_number-number.ensures.low in
    let high = c.place_number-number.ensures.high in
    let small = c.if-tags-at.false in
    inl (is_there c.args.from.now c.requires.tagged c.args.cell c.requires.placed c.as_slice-tags.result.now _
    c.as_slice-tags.ensures.value (omega (arith, ints)) c.place_of-at.result c.place_of-at.ensures.less
    c.place_of-at.ensures.least c.if-at-tags.false (omega (arith, ints)))
