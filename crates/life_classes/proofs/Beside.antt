-- Labels of cells that are at most one away, found by numbers.
use Rattle.std.proofs.Common.{◌≡◌, ◌⊎◌, ℕ, ◌^◌, ◌<◌, ℤ, pos, neg_ℤ, ◌+ℤ◌, true, List, length, get_or, inl, inr, sym, ap, subst, ◌∙◌, arith}
use Rattle.std.proofs.lemmas.Int.{ints}
use Rattle.std.proofs.lemmas.List.{get_or_default}
use Rattle.life_model.specs.Cell.{Cell, origin}
use Rattle.life_model.specs.Generation.{cells, contains}
use Rattle.life_model.proofs.Generations.{cells-contained}
use Rattle.life_cells.specs.Limits.{IsPlace}
use Rattle.life_classes.specs.declared.labels.Labelled.{Labelled}
use Rattle.life_classes.specs.declared.tags.Tag.{Tag}
use Rattle.life_classes.specs.Labels.{IsLabelOf, IsTagged}
use Rattle.life_classes.specs.Nearness.{reaches}
use Rattle.life_classes.specs.Tags.{HasNoneBeside, IsBeside, IsFrom, place_number}
use Rattle.life_classes.proofs.Inherited.{stands_in}
use Rattle.life_classes.proofs.Lookups.{either}
use Rattle.life_classes.proofs.Numbers.{cell_by_number, near_by_number, number_at, place_at}
use Rattle.life_classes.proofs.Reached.{touched_by}

pub beside_by : (ts : List Tag) (number low row : ℤ) (place : ℕ) →
    ((row ≡ pos 0) ⊎ ((row ≡ pos (2 ^ 31)) ⊎ (row ≡ neg_ℤ (pos (2 ^ 31))))) →
    low ≡ (number +ℤ row +ℤ neg_ℤ (pos 1)) → IsFrom ts low place → IsBeside ts number place
beside_by ts number low row place rows is from = record {
  row = row;
  rows = rows;
  from = subst (λ q. IsFrom ts q place) is from;
}

module _ (l : Labelled) (tagged : IsTagged l) (c : Cell) (placed : IsPlace c) (ts : List Tag) (number : ℤ)
    (tags : ts ≡ l.tags.items) (is : number ≡ place_number c) where
  pub label_by : (place : ℕ) (t : Tag) → t ≡ get_or l.tags.items place t → IsBeside ts number place → IsLabelOf l c t.label
  label_by place t here beside =
      let w : IsBeside l.tags.items number place = subst (λ us. IsBeside us number place) tags beside in
      let inside = w.from.inside in
      record {
        by = place;
        inside = inside;
        near = λ e.
            let first = w.from.first t in
            let last = w.from.last t in
            let at = number_at l tagged place t e inside in
            near_by_number c (get_or (cells l.cells) place e) w.row placed (place_at l tagged place e inside) w.rows
            (omega (arith, ints)) (omega (arith, ints));
        same = λ d. ap (λ (s : Tag). s.label) (get_or_default l.tags.items place d t inside ∙ sym here);
      }

  pub was_there : (place : ℕ) (t : Tag) → t ≡ get_or l.tags.items place t → IsBeside ts number place → t.number ≡ number →
      contains l.cells c ≡ true
  was_there place t here beside same =
      let w : IsBeside l.tags.items number place = subst (λ us. IsBeside us number place) tags beside in
      let inside = w.from.inside in
      let count = tagged.count in
      let at = number_at l tagged place t origin inside in
      let one : get_or (cells l.cells) place origin ≡ c =
      cell_by_number (get_or (cells l.cells) place origin) c (place_at l tagged place origin inside) placed
      (sym at ∙ ap (λ (s : Tag). s.number) (sym here) ∙ same ∙ is) in
      subst (λ d. contains l.cells d ≡ true) one (cells-contained l.cells place origin (omega arith))

  pub some_beside : HasNoneBeside ts number → reaches 1 l.cells c ≡ true → ⊥
  some_beside has_none reached =
      let none : HasNoneBeside l.tags.items number = subst (λ us. HasNoneBeside us number) tags has_none in
      let t : Tag = record { number = pos 0; label = 0 } in
      let one = touched_by l.cells c reached in
      let g = one.0 in
      let at = stands_in l.cells g one.1 in
      let k = at.0 in
      let count = tagged.count in
      let cells-contained = at.1 in
      let inside : k < length l.tags.items = omega arith in
      let its : (get_or l.tags.items k t).number ≡ place_number g = number_at l tagged k t origin inside ∙ ap place_number at.2 in
      let left = one.2.left in
      let right = one.2.right in
      let up = one.2.above in
      let down = one.2.below in
      elim (either g.1 c.1) [
        | inl not_below ↦ elim (either c.1 g.1) [
          | inl level ↦ none.level k t inside (omega (arith, ints)) (omega (arith, ints))
          | inr above ↦ none.above k t inside (omega (arith, ints)) (omega (arith, ints))
        ]
        | inr below ↦ none.below k t inside (omega (arith, ints)) (omega (arith, ints))
      ]
