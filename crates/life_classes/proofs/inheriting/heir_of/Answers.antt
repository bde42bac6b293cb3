use Rattle.std.proofs.Common.{◌≡◌, ◌<◌, length, of_z, to_z, w64, sym, ap, subst, ◌∙◌, arith}
use Rattle.std.proofs.lemmas.Bool.{eqb-true, not-false}
use Rattle.std.proofs.lemmas.Int.{ints}
use Rattle.life_classes.specs.declared.tags.Tag.{Tag}
use Rattle.life_classes.specs.Tags.{AreRisingTags}
use Rattle.life_classes.proofs.Beside.{label_by, some_beside, was_there}
use Rattle.life_classes.proofs.Numbers.{tags_numbered, tags_rise}
use Rattle.life_classes.proofs.inheriting.heir_of.Goals as goal

pub place_beside-requires-clause-rising : goal.place_beside-requires-clause-rising
place_beside-requires-clause-rising c =
    subst AreRisingTags (sym c.as_slice.ensures.value) (tags_rise c.args.old.now c.requires.tagged)

pub returns-in-Some-clause-label : goal.returns-in-Some-clause-label
returns-in-Some-clause-label c =
    let number = c.place_number-number.ensures.number in
    let low = c.place_number-number.ensures.low in
    let high = c.place_number-number.ensures.high in
    label_by c.args.old.now c.requires.tagged c.args.cell c.requires.placed c.as_slice.result.now _ c.as_slice.ensures.value
    (omega (arith, ints)) c.in-Some.at c.index.result.now c.index.ensures c.in-Some.ensures.found

pub returns-in-None-clause-label : goal.returns-in-None-clause-label
returns-in-None-clause-label c =
    let number = c.place_number-number.ensures.number in
    let low = c.place_number-number.ensures.low in
    let high = c.place_number-number.ensures.high in
    absurd (some_beside c.args.old.now c.requires.tagged c.args.cell c.requires.placed c.as_slice.result.now _
    c.as_slice.ensures.value (omega (arith, ints)) c.in-None.ensures.none c.requires.reached)

pub returns-in-Some-clause-old : goal.returns-in-Some-clause-old
returns-in-Some-clause-old c kept =
    let number = c.place_number-number.ensures.number in
    let low = c.place_number-number.ensures.low in
    let high = c.place_number-number.ensures.high in
    let t = c.index-in-Some.result.now in
    let numbered = tags_numbered c.args.old.now c.requires.tagged c.in-Some.at t
    (subst (λ us. c.in-Some.at < length us) c.as_slice.ensures.value c.in-Some.ensures.found.from.inside) in
    let low_too = numbered.low in
    let high_too = numbered.high in
    let its = ap (λ (s : Tag). s.number) c.index-in-Some.ensures in
    let back : to_z w64 (of_z w64 t.number) ≡ t.number = omega (arith, ints) in
    let same : of_z w64 t.number ≡ of_z w64 c.place_number-number.result = eqb-true _ _ (not-false _ kept) in
    was_there c.args.old.now c.requires.tagged c.args.cell c.requires.placed c.as_slice.result.now _ c.as_slice.ensures.value
    (omega (arith, ints)) c.in-Some.at t c.index-in-Some.ensures c.in-Some.ensures.found
    (sym back ∙ ap (to_z w64) same)
