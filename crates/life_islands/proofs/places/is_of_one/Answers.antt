use Rattle.std.proofs.Common.{◌≡◌, get_or, inl, inr, ap, ◌∙◌, arith}
use Rattle.std.proofs.lemmas.Int.{ints}
use Rattle.life_model.specs.Cell.{origin}
use Rattle.life_model.specs.Generation.{cells}
use Rattle.life_classes.specs.Forest.{root}
use Rattle.life_classes.specs.Tags.{place_number}
use Rattle.life_islands.proofs.Rows.{row_of}
use Rattle.life_islands.proofs.places.is_of_one.Goals as goal

pub returns : goal.returns
returns c k h near =
    let cs = cells c.args.list.now in
    let e = get_or cs k origin in
    let own = get_or cs c.args.n origin in
    let low = c.place_number-low.ensures.number ∙ ap (λ ds. place_number (get_or ds c.args.n origin)) c.as_slice.ensures.cells in
    let to = λ (same : root c.args.sets.now.forest.items (get_or c.args.sets.now.labels.items k 0) ≡ c.mark-mark.result). same ∙ c.mark-mark.ensures in
    elim (row_of e own near) [
      | inl a ↦ let up = a.0 in let down = a.1 in to (c.if-not-row_has.ensures k h (omega (arith, ints)) (omega (arith, ints)))
      | inr p ↦ elim p [
        | inl a ↦ let up = a.0 in let down = a.1 in to (c.if-not-row_has-2.ensures k h (omega (arith, ints)) (omega (arith, ints)))
        | inr q ↦ elim q [
          | inl a ↦ let up = a.0 in let down = a.1 in to (c.if-not-row_has-3.ensures k h (omega (arith, ints)) (omega (arith, ints)))
          | inr r ↦ elim r [
            | inl a ↦ let up = a.0 in let down = a.1 in to (c.if-not-row_has-4.ensures k h (omega (arith, ints)) (omega (arith, ints)))
            | inr a ↦ let up = a.0 in let down = a.1 in to (c.if-not-row_has-5.ensures k h (omega (arith, ints)) (omega (arith, ints)))
          ]
        ]
      ]
    ]
