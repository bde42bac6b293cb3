use Rattle.std.proofs.Common.{◌≡◌, ℕ, inl, inr, ◌<◌, ◌≤◌, ◌+ℤ◌, ◌≤ℤ◌, pos, length, get_or, sym, subst, ◌∙◌, FitsSigned, w64, rules, arith}
use Rattle.std.proofs.lemmas.Int.{ints, to_z-of_z}
use Rattle.std.proofs.lemmas.Bool.{cases_lt}
use Rattle.life_model.specs.Cell.{origin}
use Rattle.life_classes.specs.Tags.{place_number}
use Rattle.life_classes.proofs.Lookups.{less_by_test}
use Rattle.life_classes.proofs.RowsRise.{numbers_rise}
use Rattle.life_classes.specs.Forest.{root}
use Rattle.life_islands.specs.Labels.{IsParting}
use Rattle.life_islands.proofs.places.row_has.Goals as goal
use Rattle.life_islands.proofs.places.row_has.Goals.{After-parting-start}

-- what is in the row is listed from the first place on
after_start : (c : After-parting-start) (k : ℕ) → k < length c.as_slice-cells.result.now →
    c.args.low ≤ℤ place_number (get_or c.as_slice-cells.result.now k origin) → c.parting-start.result ≤ k
after_start c k h low =
    let cs = c.as_slice-cells.result.now in
    elim (cases_lt k c.parting-start.result) [
      | inl before ↦
          let fits : FitsSigned w64 c.args.low = search rules in
          let parts = subst (λ z. IsParting cs z c.parting-start.result) (to_z-of_z w64 c.args.low fits) c.parting-start.ensures in
          let less = less_by_test (place_number (get_or cs k origin)) c.args.low (parts.before k origin before) in
          absurd (omega (arith, ints))
      | inr not_before ↦ not_before
    ]

pub loop-at-preserved : goal.loop-at-preserved
loop-at-preserved c k h from =
    let a = c.args in
    elim (cases_lt k c.loop-at.at) [
      | inl less ↦ c.loop-at.invariant k less from
      | inr no_less ↦
          let same : c.loop-at.at ≡ k = omega arith in
          subst (λ m. root a.sets.now.forest.items (get_or a.sets.now.labels.items m 0) ≡ a.mark) same (sym c.mark.ensures ∙ c.if-mark.false)
    ]

pub returns-then-place_number-low : goal.returns-then-place_number-low
returns-then-place_number-low c k h low high =
    let cs = c.as_slice-cells.result.now in
    let same = c.as_slice-cells.ensures.cells in
    let low_too = subst (λ ds. c.args.low ≤ℤ place_number (get_or ds k origin)) (sym same) low in
    let high_too = subst (λ ds. place_number (get_or ds k origin) ≤ℤ (c.args.low +ℤ pos 4)) (sym same) high in
    let inside = subst (λ ds. k < length ds) (sym same) h in
    let rise = numbers_rise cs c.as_slice-cells.ensures.rising c.as_slice-cells.ensures.placed in
    let from = after_start (goal.at.returns-then-place_number-low c).After-parting-start k inside low_too in
    elim (cases_lt k c.loop-at.at) [
      | inl less ↦ c.loop-at.invariant k less from
      | inr no_less ↦
          let up = rise c.loop-at.at k origin no_less inside in
          let it = c.place_number.ensures.number in
          let past = c.if-place_number-low.true in
          absurd (omega (arith, ints))
    ]

pub returns : goal.returns
returns c k h low high =
    let same = c.as_slice-cells.ensures.cells in
    let low_too = subst (λ ds. c.args.low ≤ℤ place_number (get_or ds k origin)) (sym same) low in
    let inside = subst (λ ds. k < length ds) (sym same) h in
    let past = c.loop-at-test.false in
    c.loop-at.invariant k (omega arith) (after_start (goal.at.returns c).After-parting-start k inside low_too)
