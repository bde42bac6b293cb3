-- A class that is taken from the others.
use Rattle.std.proofs.Common.{◌≡◌, ℕ, ◌+◌, ◌<◌, pos, true, List, [], ◌∷◌, length, get_or, inl, inr, sym, refl, ap, subst, ◌∙◌, arith}
use Rattle.std.specs.List.{All, remove}
use Rattle.std.proofs.lemmas.Bool.{cases_lt}
use Rattle.std.proofs.lemmas.List.{same_lists}
use Rattle.std.proofs.lemmas.List.Edits.{get_or-remove_above, get_or-remove_below, length-remove}
use Rattle.life_model.specs.Cell.{Cell, origin}
use Rattle.life_model.specs.Generation.{Generation, cells, contains, empty}
use Rattle.life_model.proofs.Generations.{cells-contained}
use Rattle.life_objects.specs.Union.{IsSubsetOf}
use Rattle.life_objects.proofs.Sides.{within_each_other}
use Rattle.life_objects.proofs.Unions.{in_empty}
use Rattle.life_classes.specs.declared.class.Class.{Class}
use Rattle.life_classes.specs.declared.labels.Labelled.{Labelled}
use Rattle.life_classes.specs.declared.tags.Tag.{Tag}
use Rattle.life_classes.specs.Forest.{root}
use Rattle.life_classes.specs.Labels.{IsTagged, class_of_root, classes_by}
use Rattle.life_classes.specs.Parted.{AreLabelsOr, AreOthers, IsRest}
use Rattle.life_classes.specs.Tracking.{LeadTo}
use Rattle.life_classes.proofs.Chosen.{class_at, count_classes, in_root}
use Rattle.life_classes.proofs.Inherited.{stands_in}
use Rattle.life_classes.proofs.Joined.{set_of_root}
use Rattle.life_classes.proofs.Leading.{lead_same, taken_first}
use Rattle.life_classes.proofs.Merging.{halves_tracked, in_turn}
use Rattle.life_classes.proofs.Nobody.{lead_nobody}
use Rattle.life_classes.proofs.Putting.{put_back}
use Rattle.life_classes.proofs.Relabelled.{is_kept, one_place, root_before, root_then}

abbrev tag : Tag
tag = record { number = pos 0; label = 0 }

module _ (l rest : Labelled) (f : List ℕ) (m : ℕ) (before : IsTagged l) (tagged : IsTagged rest)
    (others : AreOthers l f m rest.cells)
    (labels : AreLabelsOr l m (cells rest.cells) (length (cells rest.cells)) rest.tags.items) where
  of_old : (c : Cell) → contains rest.cells c ≡ true → contains l.cells c ≡ true
  of_old c h =
      let w = others.sound c h in
      subst (λ d. contains l.cells d ≡ true) (w.is origin) (cells-contained l.cells w.place origin w.inside)

  not_of_main : (c : Cell) → contains rest.cells c ≡ true → contains (set_of_root l f m) c ≡ true → ⊥
  not_of_main c h k =
      let w = others.sound c h in
      let v = in_root l f m c k in
      let one = one_place l.cells w.place v.place w.inside v.inside (w.is origin ∙ sym (v.is origin)) in
      w.differs tag (ap (λ n. root f (get_or l.tags.items n tag).label) one ∙ v.label tag)

  before_it : (r : ℕ) (c : Cell) → contains (set_of_root rest f r) c ≡ true → contains (set_of_root l f r) c ≡ true
  before_it r c h = elim (root_before rest l m f tagged before labels r c h) [
    | inl w ↦ w
    | inr w ↦ absurd (w.0 (of_old c (is_kept rest l m f tagged before labels r c h)))
  ]

  pub is_rest : IsRest l rest f m
  is_rest = record {
    others = λ r other.
        within_each_other (set_of_root rest f r) (set_of_root l f r) (before_it r)
        (λ c h.
        let w = in_root l f r c h in
        let here = others.all w.place tag origin w.inside (λ e. other (sym (w.label tag) ∙ e)) in
        root_then rest l m f tagged before labels r c (subst (λ d. contains rest.cells d ≡ true) (w.is origin) here) h);
    none =
        within_each_other (set_of_root rest f m) empty
        (λ c h. absurd (not_of_main c (is_kept rest l m f tagged before labels m c h) (before_it m c h)))
        (λ c h. absurd (in_empty c h));
    disjoint = λ c h k. not_of_main c k h;
    within = of_old;
  }

-- ---- where they may be

pub kept_within : (P : Cell → Type 0) (G H : Generation) → IsSubsetOf H G → All P (cells G) → All P (cells H)
kept_within P G H within all k d h =
    let w = stands_in G (get_or (cells H) k d) (within (get_or (cells H) k d) (cells-contained H k d h)) in
    subst P w.2 (all w.0 origin w.1)

pub root_within : (l : Labelled) (f : List ℕ) (r : ℕ) → IsSubsetOf (set_of_root l f r) l.cells
root_within l f r c h =
    let w = in_root l f r c h in
    subst (λ d. contains l.cells d ≡ true) (w.is origin) (cells-contained l.cells w.place origin w.inside)

-- ---- the lists of classes

module _ (a l b k : Labelled) (f : List ℕ) (m : ℕ) (h : m < length f) (first : IsRest a b f m) (last : IsRest l k f m) where
  abbrev cs : List Class
  cs = classes_by a l f

  abbrev ds : List Class
  ds = classes_by b k f

  abbrev nobody : Class
  nobody = record { first = empty; last = empty }

  same_class : (r : ℕ) (d : Class) → r < length f → (r ≡ m → ⊥) → get_or cs r d ≡ get_or ds r d
  same_class r d inside other =
      class_at a l f r d inside
      ∙ (λ i. record { first = sym (first.others r other) i; last = sym (last.others r other) i })
      ∙ sym (class_at b k f r d inside)

  same_rest : remove cs m ≡ remove ds m
  same_rest =
      let count = count_classes a l f in
      let count_too = count_classes b k f in
      let less = length-remove cs m (omega arith) in
      let less_too = length-remove ds m (omega arith) in
      same_lists _ _ (omega arith) (λ r d inside.
      elim (cases_lt r m) [
        | inl below ↦
            get_or-remove_below cs m d r below (omega arith)
            ∙ same_class r d (omega arith) (λ (e : r ≡ m). omega arith)
            ∙ sym (get_or-remove_below ds m d r below (omega arith))
        | inr from ↦
            get_or-remove_above cs m d r from (omega arith)
            ∙ same_class (r + 1) d (omega arith) (λ (e : r + 1 ≡ m). omega arith)
            ∙ sym (get_or-remove_above ds m d r from (omega arith))
      ])

  pub lead_parted : LeadTo cs (class_of_root a l f m ∷ ds)
  lead_parted =
      let count = count_classes a l f in
      let count_too = count_classes b k f in
      let x = class_of_root a l f m in
      in_turn cs (x ∷ remove cs m) (x ∷ ds) (taken_first cs m x (omega arith) (sym (class_at a l f m x h)))
      (halves_tracked (x ∷ []) (remove cs m) (x ∷ []) ds (lead_same (x ∷ []))
      (in_turn (remove cs m) (nobody ∷ remove ds m) ds
      (subst (λ es. LeadTo es (nobody ∷ remove ds m)) (sym same_rest) (lead_nobody nobody (remove ds m) refl refl))
      (put_back ds m nobody (omega arith)
      (sym (class_at b k f m nobody h ∙ (λ i. record { first = first.none i; last = last.none i }))))))
