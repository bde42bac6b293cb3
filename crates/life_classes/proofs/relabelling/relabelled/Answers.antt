use Rattle.std.proofs.Common.{◌≡◌, ◌<◌, [], ◌∷◌, ◌++◌, get_or, length, of_z, to_z, w64, ap, subst, sym, ◌∙◌, arith}
use Rattle.std.specs.List.{All}
use Rattle.std.proofs.lemmas.Int.{ints}
use Rattle.std.proofs.lemmas.List.{get_or_default}
use Rattle.life_model.specs.Cell.{origin}
use Rattle.life_model.specs.Generation.{cells}
use Rattle.life_cells.specs.Limits.{IsPlace}
use Rattle.life_classes.specs.declared.tags.Tag.{Tag}
use Rattle.life_classes.specs.Parted.{AreLabelsOr, IsLabelOr}
use Rattle.life_classes.specs.Tags.{AreNumbersOf, place_number}
use Rattle.life_classes.proofs.Lookups.{length_pushed, pushed}
use Rattle.life_classes.proofs.relabelling.relabelled.Goals as goal

pub loop-cell-preserved : goal.loop-cell-preserved
loop-cell-preserved c =
    let xs = cells c.args.cells in
    let k = c.loop-cell.cell-index in
    let old = c.loop-cell.tags.items in
    let new = c.push.new.self.items in
    let same = c.as_slice-cell-items.ensures.cells in
    let inside : k < length xs = subst (λ ys. k < length ys) same c.loop-cell-test.true in
    let low = c.place_number.ensures.low in
    let high = c.place_number.ensures.high in
    let back : to_z w64 (of_z w64 c.place_number.result) ≡ c.place_number.result = omega (arith, ints) in
    let tag : Tag = record { number = to_z w64 (of_z w64 c.place_number.result); label = c.label_or-label.result } in
    let is : new ≡ old ++ (tag ∷ []) = c.in_ok-push.ensures.items in
    let count = c.loop-cell.invariant.count in
    let here : get_or c.as_slice-cell-items.result.now k origin ≡ get_or xs k origin = ap (λ ys. get_or ys k origin) same in
    record {
      within = c.label_or-label.ensures.within;
      count = length_pushed old new tag k count is;
      numbers = λ m d e h.
          pushed (λ n (t : Tag). t.number ≡ place_number (get_or xs n e)) old new tag k count is
          (λ n d' l. c.loop-cell.invariant.numbers n d' e l)
          (back ∙ c.place_number.ensures.number ∙ ap place_number (here ∙ get_or_default xs k origin e inside)) m d h;
      labels = λ m d e h.
          pushed (λ n (t : Tag). IsLabelOr c.args.from.now c.args.other (get_or xs n e) t.label) old new tag k count is
          (λ n d' l. c.loop-cell.invariant.labels n d' e l)
          (subst (λ q. IsLabelOr c.args.from.now c.args.other q c.label_or-label.result)
          (here ∙ get_or_default xs k origin e inside) c.label_or-label.ensures.label) m d h;
    }

pub returns-clause-tagged : goal.returns-clause-tagged
returns-clause-tagged c =
    let past = c.loop-cell-test.false in
    let end = c.loop-cell.auto.cell-index-end in
    let same = c.as_slice-cell-items.ensures.cells in
    let long = ap length same in
    let count = c.loop-cell.invariant.count in
    let tags = c.loop-cell.tags.items in
    record {
      placed = subst (All IsPlace) same c.as_slice-cell-items.ensures.placed;
      count = omega arith;
      numbers = subst (λ n. AreNumbersOf (cells c.args.cells) n tags) (sym count) c.loop-cell.invariant.numbers;
    }

pub returns-clause-labels : goal.returns-clause-labels
returns-clause-labels c =
    let past = c.loop-cell-test.false in
    let end = c.loop-cell.auto.cell-index-end in
    let long = ap length c.as_slice-cell-items.ensures.cells in
    let whole : c.loop-cell.cell-index ≡ length (cells c.args.cells) = omega arith in
    subst (λ n. AreLabelsOr c.args.from.now c.args.other (cells c.args.cells) n c.loop-cell.tags.items) whole
    c.loop-cell.invariant.labels
