-- Cells that are given the labels of others.
use Rattle.std.proofs.Common.{◌≡◌, ◌⊎◌, ℕ, zero, suc, ◌<◌, ◌≤◌, ℤ, pos, ◌<ℤ◌, ◌≤ℤ◌, true, List, [], ◌∷◌, length, get_or, inl, inr, Ordering, Less, Equal, Greater}
use Rattle.std.proofs.Common.{sym, ap, subst, ◌∙◌, arith}
use Rattle.std.specs.List.Sorted.{IsStrictlySortedBy}
use Rattle.std.specs.Cmp.{tied_itself}
use Rattle.std.proofs.lemmas.Bool.{cases_lt}
use Rattle.std.proofs.lemmas.Int.{ints}
use Rattle.std.proofs.lemmas.List.{get_or_default}
use Rattle.std.proofs.lemmas.List.Elements.{All-from_recursion}
use Rattle.life_model.specs.Cell.{Cell, cell_cmp, origin}
use Rattle.life_model.specs.Generation.{Generation, cells, contains}
use Rattle.life_model.proofs.Cells.{cell_cmp_total}
use Rattle.life_model.proofs.Generations.{cells-contained, cells-rise}
use Rattle.life_cells.specs.Limits.{IsPlace}
use Rattle.life_cells.proofs.Sorted.{sorted_from_rising}
use Rattle.life_classes.specs.declared.labels.Labelled.{Labelled}
use Rattle.life_classes.specs.declared.tags.Tag.{Tag}
use Rattle.life_classes.specs.Forest.{root}
use Rattle.life_classes.specs.Labels.{AreLabelled, IsTagged}
use Rattle.life_classes.specs.Parted.{AreLabelsOr, HasLabel}
use Rattle.life_classes.specs.Tags.{AreFrom, AreLess, place_number}
use Rattle.life_classes.proofs.Chosen.{in_root, of_root}
use Rattle.life_classes.proofs.Inherited.{stands_in}
use Rattle.life_classes.proofs.Joined.{set_of_root}
use Rattle.life_classes.proofs.Numbers.{cell_by_number, number_at, place_at, tags_rise}

abbrev tag : Tag
tag = record { number = pos 0; label = 0 }

-- ---- where a cell is found

module _ (l : Labelled) (tagged : IsTagged l) (c : Cell) (placed : IsPlace c) (ts : List Tag) (low : ℤ)
    (are : ts ≡ l.tags.items) (is : low ≡ place_number c) (at : ℕ) (less : AreLess ts at low) (least : AreFrom ts at low) where
  less_here : AreLess l.tags.items at (place_number c)
  less_here = subst (λ us. AreLess us at (place_number c)) are (subst (AreLess ts at) is less)

  least_here : AreFrom l.tags.items at (place_number c)
  least_here = subst (λ us. AreFrom us at (place_number c)) are (subst (AreFrom ts at) is least)

  pub not_past : length ts ≤ at → contains l.cells c ≡ true → ⊥
  not_past past h =
      let w = stands_in l.cells c h in
      let inside = w.1 in
      let count = tagged.count in
      let long = ap length are in
      let number = number_at l tagged w.0 tag origin (omega arith) in
      let same = ap place_number w.2 in
      let below = less_here w.0 tag (omega arith) (omega arith) in
      omega (arith, ints)

  pub not_there : at < length ts → low <ℤ (get_or ts at tag).number → contains l.cells c ≡ true → ⊥
  not_there there great h =
      let w = stands_in l.cells c h in
      let inside = w.1 in
      let count = tagged.count in
      let long = ap length are in
      let number = number_at l tagged w.0 tag origin (omega arith) in
      let same = ap place_number w.2 in
      let more = subst (λ us. low <ℤ (get_or us at tag).number) are great in
      elim (cases_lt w.0 at) [
        | inl before ↦ let below = less_here w.0 tag before (omega arith) in omega (arith, ints)
        | inr after ↦ let up = tags_rise l tagged at w.0 tag after (omega arith) in omega (arith, ints)
      ]

  pub is_there : at < length ts → (get_or ts at tag).number ≤ℤ low → HasLabel l c (get_or ts at tag).label
  is_there there small =
      let long = ap length are in
      let inside : at < length l.tags.items = omega arith in
      let from = least_here at tag (omega arith) inside in
      let to = subst (λ us. (get_or us at tag).number ≤ℤ low) are small in
      let number = number_at l tagged at tag origin inside in
      record {
        place = at;
        inside = inside;
        is = λ e.
            let count = tagged.count in
            let its = number_at l tagged at tag e inside in
            cell_by_number (get_or (cells l.cells) at e) c (place_at l tagged at e inside) placed (omega (arith, ints));
        same = λ d.
            ap (λ (t : Tag). t.label) (get_or_default l.tags.items at d tag inside)
            ∙ ap (λ us. (get_or us at tag).label) (sym are);
      }

-- ---- a cell is in one place only

not_equal_less : (r : Ordering) → r ≡ Equal → r ≡ Less → ⊥
not_equal_less Less e h = cc
not_equal_less Equal e h = cc
not_equal_less Greater e h = cc

less_before : (cs : List Cell) → IsStrictlySortedBy cell_cmp cs → (i j : ℕ) (d : Cell) → i < j → j < length cs →
    cell_cmp (get_or cs i d) (get_or cs j d) ≡ Less
unfolding IsStrictlySortedBy
less_before [] h i j d below inside = absurd (omega arith)
less_before (c ∷ cs) h i zero d below inside = absurd (omega arith)
less_before (c ∷ cs) h zero (suc j) d below inside =
    All-from_recursion (λ y. cell_cmp c y ≡ Less) cs h.0 j d (omega arith)
less_before (c ∷ cs) h (suc i) (suc j) d below inside = less_before cs h.1 i j d (omega arith) (omega arith)

pub one_place : (G : Generation) (i j : ℕ) → i < length (cells G) → j < length (cells G) →
    get_or (cells G) i origin ≡ get_or (cells G) j origin → i ≡ j
one_place G i j h k same =
    let sorted = sorted_from_rising (cells G) (cells-rise G) in
    let c = get_or (cells G) i origin in
    let not_less : (cell_cmp c c ≡ Less) → ⊥ = λ e. not_equal_less (cell_cmp c c) (tied_itself cell_cmp_total c) e in
    elim (cases_lt i j) [
      | inl less ↦ absurd (not_less (ap (cell_cmp c) same ∙ less_before (cells G) sorted i j origin less k))
      | inr more ↦ elim (cases_lt j i) [
        | inl less ↦
            absurd (not_less (ap (λ d. cell_cmp d c) same ∙ less_before (cells G) sorted j i origin less h))
        | inr both ↦ omega arith
      ]
    ]

-- ---- the sets of roots

module _ (new from : Labelled) (other : ℕ) (f : List ℕ) (tagged : IsTagged new) (tagged_too : IsTagged from)
    (labels : AreLabelsOr from other (cells new.cells) (length (cells new.cells)) new.tags.items) where
  pub labelled_or : AreLabelled from f → other < length f → AreLabelled new f
  labelled_or before within = record {
    tagged = tagged;
    within = λ k d h.
        let count = tagged.count in
        elim (labels k d origin (omega arith)) [
          | inl w ↦
              let its = before.within w.place d w.inside in
              let same = w.same d in
              omega arith
          | inr w ↦ let same = w.1 in omega arith
        ];
  }

  -- the root of a cell is the one that it had, or that of the other label
  pub root_before : (r : ℕ) (c : Cell) → contains (set_of_root new f r) c ≡ true →
      (contains (set_of_root from f r) c ≡ true) ⊎ ((contains from.cells c ≡ true → ⊥) × (root f other ≡ r))
  root_before r c h =
      let w = in_root new f r c h in
      elim (labels w.place tag origin w.inside) [
        | inl v ↦
            let count = tagged_too.count in
            let inside = v.inside in
            inl (subst (λ d. contains (set_of_root from f r) d ≡ true) (v.is origin ∙ w.is origin)
            (of_root from f r v.place tag origin (omega arith) inside (ap (root f) (v.same tag) ∙ w.label tag)))
        | inr v ↦
            inr (subst (λ d. contains from.cells d ≡ true → ⊥) (w.is origin) v.0, ap (root f) (sym v.1) ∙ w.label tag)
      ]

  pub is_kept : (r : ℕ) (c : Cell) → contains (set_of_root new f r) c ≡ true → contains new.cells c ≡ true
  is_kept r c h =
      let w = in_root new f r c h in
      subst (λ d. contains new.cells d ≡ true) (w.is origin) (cells-contained new.cells w.place origin w.inside)

  pub root_then : (r : ℕ) (c : Cell) → contains new.cells c ≡ true → contains (set_of_root from f r) c ≡ true →
      contains (set_of_root new f r) c ≡ true
  root_then r c here h =
      let at = stands_in new.cells c here in
      let inside = at.1 in
      let count = tagged.count in
      let w = in_root from f r c h in
      elim (labels at.0 tag origin inside) [
        | inl v ↦
            let count_too = tagged_too.count in
            let within = v.inside in
            let one : v.place ≡ w.place =
            one_place from.cells v.place w.place (omega arith) w.inside (v.is origin ∙ at.2 ∙ sym (w.is origin)) in
            subst (λ d. contains (set_of_root new f r) d ≡ true) at.2
            (of_root new f r at.0 tag origin inside (omega arith)
            (ap (root f) (sym (v.same tag) ∙ ap (λ k. (get_or from.tags.items k tag).label) one) ∙ w.label tag))
        | inr v ↦
            absurd (subst (λ d. contains from.cells d ≡ true → ⊥) at.2 v.0
            (subst (λ d. contains from.cells d ≡ true) (w.is origin) (cells-contained from.cells w.place origin w.inside)))
      ]

  pub other_then : (r : ℕ) (c : Cell) → contains new.cells c ≡ true → (contains from.cells c ≡ true → ⊥) →
      root f other ≡ r → contains (set_of_root new f r) c ≡ true
  other_then r c here none is =
      let at = stands_in new.cells c here in
      let inside = at.1 in
      let count = tagged.count in
      elim (labels at.0 tag origin inside) [
        | inl v ↦
            let count_too = tagged_too.count in
            let within = v.inside in
            absurd (none (subst (λ d. contains from.cells d ≡ true) (v.is origin ∙ at.2)
            (cells-contained from.cells v.place origin (omega arith))))
        | inr v ↦
            subst (λ d. contains (set_of_root new f r) d ≡ true) at.2
            (of_root new f r at.0 tag origin inside (omega arith) (ap (root f) v.1 ∙ is))
      ]
