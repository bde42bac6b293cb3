use Rattle.std.proofs.Common.{◌≡◌, ◌<◌, [], ◌∷◌, ◌++◌, ◌+◌, ℕ, Bool, List, true, false, inl, inr, get_or, length, of_z, to_z, w64, sym, ap, subst, ◌∙◌, arith}
use Rattle.std.specs.List.{All, Contains}
use Rattle.std.proofs.lemmas.Bool.{cases_Bool, cases_lt}
use Rattle.std.proofs.lemmas.Int.{ints}
use Rattle.std.proofs.lemmas.List.{get_or_default}
use Rattle.std.proofs.lemmas.List.Elements.{All-push}
use Rattle.life_model.specs.Cell.{Cell, origin}
use Rattle.life_model.specs.Generation.{cells, contains}
use Rattle.life_model.proofs.Generations.{cells-contained}
use Rattle.life_cells.specs.Limits.{IsPlace}
use Rattle.life_classes.specs.declared.labels.Labelled.{Labelled}
use Rattle.life_classes.specs.declared.tags.Tag.{Tag}
use Rattle.life_classes.specs.Forest.{root}
use Rattle.life_classes.specs.Labels.{AreBornOrOld, AreHeirs, IsHeir, IsLabelOf}
use Rattle.life_classes.specs.Tags.{AreNumbersOf, place_number}
use Rattle.life_classes.proofs.Forests.{root-root}
use Rattle.life_classes.proofs.Lookups.{length_pushed, pushed}
use Rattle.life_classes.proofs.inheriting.inherited.Goals as goal

pub heir_of-heir-requires-clause-reached : goal.heir_of-heir-requires-clause-reached
heir_of-heir-requires-clause-reached c =
    let G = c.args.cells in
    let k = c.loop-cell.cell-index in
    let same = c.as_slice-cell-items.ensures.cells in
    c.requires.reached (get_or c.as_slice-cell-items.result.now k origin)
    (subst (λ xs. contains G (get_or xs k origin) ≡ true) (sym same)
    (cells-contained G k origin (subst (λ xs. k < length xs) same c.loop-cell-test.true)))

-- one more cell is listed as born, or was there before
one_more_born : (l : Labelled) (cs : List Cell) (n place : ℕ) (is_born : Bool) (old new : List ℕ) (c : Cell) → place ≡ n →
    ((e : Cell) → c ≡ get_or cs n e) → ((k : ℕ) → Contains old k → Contains new k) →
    (is_born ≡ true → Contains new place) → (is_born ≡ false → contains l.cells c ≡ true) → AreBornOrOld l cs n old →
    AreBornOrOld l cs (n + 1) new
one_more_born l cs n place is_born old new c same here kept one was all k e below = elim (cases_lt k n) [
  | inl before ↦ elim (all k e before) [ inl cells-contained ↦ inl (kept k cells-contained) | inr there ↦ inr there ]
  | inr last ↦
      let it : n ≡ k = omega arith in
      elim (cases_Bool is_born) [
        | inl born ↦ inl (subst (Contains new) (same ∙ it) (one born))
        | inr stayed ↦
            inr (subst (λ m. contains l.cells (get_or cs m e) ≡ true) it
            (subst (λ d. contains l.cells d ≡ true) (here e) (was stayed)))
      ]
]

pub loop-cell-preserved : goal.loop-cell-preserved
loop-cell-preserved c =
    let xs = cells c.args.cells in
    let k = c.loop-cell.cell-index in
    let old = c.loop-cell.tags.items in
    let new = c.push.new.self.items in
    let f = c.args.forest.now in
    let same = c.as_slice-cell-items.ensures.cells in
    let inside : k < length xs = subst (λ ys. k < length ys) same c.loop-cell-test.true in
    let low = c.place_number.ensures.low in
    let high = c.place_number.ensures.high in
    let back : to_z w64 (of_z w64 c.place_number.result) ≡ c.place_number.result = omega (arith, ints) in
    let tag : Tag = record { number = to_z w64 (of_z w64 c.place_number.result); label = c.root.result } in
    let is : new ≡ old ++ (tag ∷ []) = c.in_ok-push.ensures.items in
    let count = c.loop-cell.invariant.count in
    let here : get_or c.as_slice-cell-items.result.now k origin ≡ get_or xs k origin = ap (λ ys. get_or ys k origin) same in
    let label = c.heir_of-heir.ensures.label in
    let its = label.same tag in
    let within = c.requires.labelled.within label.by tag label.inside in
    let less = c.root.ensures.less in
    let place : c.len-in-loop-cell.result ≡ k = omega arith in
    record {
      level = c.heir_of-heir.ensures.level;
      above = c.heir_of-heir.ensures.above;
      below = c.heir_of-heir.ensures.below;
      count = length_pushed old new tag k count is;
      numbers = λ m d e h.
          pushed (λ n (t : Tag). t.number ≡ place_number (get_or xs n e)) old new tag k count is
          (λ n d' l. c.loop-cell.invariant.numbers n d' e l)
          (back ∙ c.place_number.ensures.number ∙ ap place_number (here ∙ get_or_default xs k origin e inside)) m d h;
      within =
          subst (All (λ t. t.label < length f)) (sym is)
          (All-push (λ t. t.label < length f) old tag c.loop-cell.invariant.within (omega arith));
      born =
          one_more_born c.args.old.now xs k c.len-in-loop-cell.result c.heir_of-heir.result.is_born c.loop-cell.born.items
          c.list_born.new.born.items (get_or c.as_slice-cell-items.result.now k origin) place
          (λ e. here ∙ get_or_default xs k origin e inside) c.in_ok-list_born.ensures.kept c.in_ok-list_born.ensures.listed
          c.heir_of-heir.ensures.old c.loop-cell.invariant.born;
      inside =
          subst (λ m. All (λ j. j < m + 1) c.list_born.new.born.items) place
          (c.in_ok-list_born.ensures.within
          (subst (λ m. All (λ j. j < m) c.loop-cell.born.items) (sym place) c.loop-cell.invariant.inside));
      heirs = λ m d e h.
          pushed (λ n (t : Tag). IsHeir c.args.old.now f (get_or xs n e) t) old new tag k count is
          (λ n d' l. c.loop-cell.invariant.heirs n d' e l)
          (record {
            label = c.heir_of-heir.result.label;
            from = subst (λ q. IsLabelOf c.args.old.now q c.heir_of-heir.result.label) (here ∙ get_or_default xs k origin e inside) label;
            same = ap (root f) c.root.ensures.value ∙ root-root f c.heir_of-heir.result.label;
          }) m d h;
    }

pub returns-clause-labelled : goal.returns-clause-labelled
returns-clause-labelled c =
    let past = c.loop-cell-test.false in
    let end = c.loop-cell.auto.cell-index-end in
    let same = c.as_slice-cell-items.ensures.cells in
    let long = ap length same in
    let count = c.loop-cell.invariant.count in
    let tags = c.loop-cell.tags.items in
    record {
      tagged = record {
        placed = subst (All IsPlace) same c.as_slice-cell-items.ensures.placed;
        count = omega arith;
        numbers = subst (λ n. AreNumbersOf (cells c.args.cells) n tags) (sym count) c.loop-cell.invariant.numbers;
      };
      within = c.loop-cell.invariant.within;
    }

pub returns-clause-heirs : goal.returns-clause-heirs
returns-clause-heirs c =
    let past = c.loop-cell-test.false in
    let end = c.loop-cell.auto.cell-index-end in
    let long = ap length c.as_slice-cell-items.ensures.cells in
    let whole : c.loop-cell.cell-index ≡ length (cells c.args.cells) = omega arith in
    subst (λ n. AreHeirs c.args.old.now c.args.forest.now (cells c.args.cells) n c.loop-cell.tags.items) whole
    c.loop-cell.invariant.heirs
