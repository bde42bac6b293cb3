-- Cells that take the labels of those beside them in the generation before.
use Rattle.std.proofs.Common.{◌≡◌, ℕ, ◌<◌, pos, true, List, length, get_or, map, inl, inr, sym, ap, subst, ◌∙◌, arith}
use Rattle.std.proofs.lemmas.Bool.{and_from, and_parts, cases_lt}
use Rattle.std.proofs.lemmas.List.{get_or-map, get_or_default, length-map, same_lists}
use Rattle.std.proofs.lemmas.List.Folds.{Any-from_list_any}
use Rattle.life_model.specs.Cell.{Cell, origin, same_cell}
use Rattle.life_model.specs.Generation.{Generation, cells, contains, keep}
use Rattle.life_model.proofs.Cells.{same_cell-is}
use Rattle.life_model.proofs.Generations.{cells-contained, contains-cells, contains-keep}
use Rattle.life_objects.specs.Apart.{AreNear}
use Rattle.life_objects.proofs.Distances.{AreNear-swap, near_through}
use Rattle.life_objects.proofs.Sides.{within_each_other}
use Rattle.life_classes.specs.declared.class.Class.{Class}
use Rattle.life_classes.specs.declared.labels.Labelled.{Labelled}
use Rattle.life_classes.specs.declared.tags.Tag.{Tag}
use Rattle.life_classes.specs.Forest.{root}
use Rattle.life_classes.specs.Labels.{AreHeirs, AreLabelled, IsLabelOf, class_of_root, classes_by}
use Rattle.life_classes.specs.Nearness.{reaches}
use Rattle.life_classes.specs.Tracking.{AreApartNow, moved_on}
use Rattle.life_classes.proofs.Chosen.{class_at, count_classes, in_root, of_root}
use Rattle.life_classes.proofs.Forests.{root-le}
use Rattle.life_classes.proofs.Joined.{set_of_root}
use Rattle.life_classes.proofs.Reached.{touched_by, touching}

-- a member has a place in the list of cells
pub stands_in : (G : Generation) (c : Cell) → contains G c ≡ true → (k : ℕ) × (k < length (cells G)) × (get_or (cells G) k origin ≡ c)
stands_in G c h =
    let one = Any-from_list_any (same_cell c) (cells G) (sym (contains-cells G c) ∙ h) in
    let same : c ≡ one.1 = (same_cell-is c one.1).0 one.4 in
    (one.0, one.2, get_or_default (cells G) one.0 origin one.1 one.2 ∙ one.3 ∙ sym same)

module _ (a old new : Labelled) (f : List ℕ) (before : AreLabelled old f) (after : AreLabelled new f)
    (apart : AreApartNow (classes_by a old f))
    (heirs : AreHeirs old f (cells new.cells) (length (cells new.cells)) new.tags.items) where
  abbrev tag : Tag
  tag = record { number = pos 0; label = 0 }

  -- the cell is in the set of the label's root
  pub of_label : (c : Cell) (label : ℕ) (w : IsLabelOf old c label) →
      contains (set_of_root old f (root f label)) (get_or (cells old.cells) w.by origin) ≡ true
  of_label c label w =
      let count = before.tagged.count in
      let inside = w.inside in
      of_root old f (root f label) w.by tag origin (omega arith) inside (ap (root f) (w.same tag))

  pub label_within : (c : Cell) (label : ℕ) → IsLabelOf old c label → root f label < length f
  label_within c label w =
      let within = before.within w.by tag w.inside in
      let same = w.same tag in
      omega (arith, root-le f label)

  apart_less : (r s : ℕ) (g h : Cell) → r < length f → s < length f → contains (set_of_root old f r) g ≡ true →
      contains (set_of_root old f s) h ≡ true → AreNear g h → (r < s → ⊥)
  apart_less r s g h k l in_r in_s near less =
      let count = count_classes a old f in
      let d = class_of_root a old f r in
      apart r s d less (omega arith) g h
      (ap (λ (e : Class). contains e.last g) (class_at a old f r d k) ∙ in_r)
      (ap (λ (e : Class). contains e.last h) (class_at a old f s d l) ∙ in_s) near

  -- two sets with cells near each other are one
  pub one_set : (r s : ℕ) (g h : Cell) → r < length f → s < length f → contains (set_of_root old f r) g ≡ true →
      contains (set_of_root old f s) h ≡ true → AreNear g h → r ≡ s
  one_set r s g h k l in_r in_s near = elim (cases_lt r s) [
    | inl less ↦ absurd (apart_less r s g h k l in_r in_s near less)
    | inr more ↦ elim (cases_lt s r) [
      | inl less ↦ absurd (apart_less s r h g l k in_s in_r (AreNear-swap g h near) less)
      | inr both ↦ omega arith
    ]
  ]

  pub set_then : (r : ℕ) → r < length f → set_of_root new f r ≡ keep new.cells (reaches 1 (set_of_root old f r))
  set_then r inside =
      let H = new.cells in
      let P = set_of_root old f r in
      within_each_other (set_of_root new f r) (keep H (reaches 1 P))
      (λ c h.
      let w = in_root new f r c h in
      let heir = heirs w.place tag origin w.inside in
      let from = heir.from in
      let here : get_or (cells H) w.place origin ≡ c = w.is origin in
      let root_is : root f heir.label ≡ r = sym heir.same ∙ w.label tag in
      contains-keep H (reaches 1 P) c
      ∙ and_from (contains H c) (reaches 1 P c)
      (subst (λ d. contains H d ≡ true) here (cells-contained H w.place origin w.inside))
      (subst (λ d. reaches 1 P d ≡ true) here
      (touching P (get_or (cells H) w.place origin) (get_or (cells old.cells) from.by origin)
      (subst (λ s. contains (set_of_root old f s) (get_or (cells old.cells) from.by origin) ≡ true) root_is
      (of_label (get_or (cells H) w.place origin) heir.label from)) (from.near origin))))
      (λ c h.
      let parts = and_parts (contains H c) (reaches 1 P c) (sym (contains-keep H (reaches 1 P) c) ∙ h) in
      let at = stands_in H c parts.0 in
      let touched = touched_by P c parts.1 in
      let heir = heirs at.0 tag origin at.1 in
      let from : IsLabelOf old c heir.label = subst (λ d. IsLabelOf old d heir.label) at.2 heir.from in
      let s = root f heir.label in
      let within : s < length f = label_within c heir.label from in
      let there = of_label c heir.label from in
      let same : s ≡ r =
      one_set s r (get_or (cells old.cells) from.by origin) touched.0 within inside there touched.1
      (near_through c (get_or (cells old.cells) from.by origin) touched.0 (from.near origin) touched.2) in
      let count = after.tagged.count in
      let placed = at.1 in
      subst (λ d. contains (set_of_root new f r) d ≡ true) at.2
      (of_root new f r at.0 tag origin at.1 (omega arith) (heir.same ∙ same)))

  pub classes_then : map (moved_on new.cells) (classes_by a old f) ≡ classes_by a new f
  classes_then =
      let count = count_classes a old f in
      let later = count_classes a new f in
      let long = length-map (classes_by a old f) (moved_on new.cells) in
      same_lists _ _ (omega arith) (λ k d h.
      let inside : k < length f = omega arith in
      get_or-map (moved_on new.cells) (classes_by a old f) k d d (omega arith)
      ∙ ap (moved_on new.cells) (class_at a old f k d inside)
      ∙ (λ i. record { first = set_of_root a f k; last = sym (set_then k inside) i })
      ∙ sym (class_at a new f k d inside))
