-- A class that is put back among the others, with a label of its own.
use Rattle.std.proofs.Common.{◌≡◌, ℕ, ◌+◌, ◌<◌, pos, true, List, [], ◌∷◌, ◌++◌, length, get_or, inl, inr, sym, refl, ap, subst, ◌∙◌, arith}
use Rattle.std.specs.List.{All}
use Rattle.std.proofs.lemmas.Bool.{cases_lt}
use Rattle.std.proofs.lemmas.List.{append-nil, get_or_append_left, get_or_push, length_push, same_lists}
use Rattle.life_model.specs.Cell.{Cell, origin}
use Rattle.life_model.specs.Generation.{Generation, cells, contains}
use Rattle.life_model.proofs.Generations.{cells-contained}
use Rattle.life_objects.specs.Apart.{AreDisjoint}
use Rattle.life_objects.specs.Union.{union}
use Rattle.life_objects.proofs.Sides.{within_each_other}
use Rattle.life_objects.proofs.Unions.{in_first, in_second, in_union}
use Rattle.life_classes.specs.declared.class.Class.{Class}
use Rattle.life_classes.specs.declared.labels.Labelled.{Labelled}
use Rattle.life_classes.specs.declared.tags.Tag.{Tag}
use Rattle.life_classes.specs.Forest.{root}
use Rattle.life_classes.specs.Labels.{AreLabelled, IsTagged, classes_by}
use Rattle.life_classes.specs.Parted.{AreLabelsOr}
use Rattle.life_classes.specs.Tracking.{LeadTo}
use Rattle.life_classes.proofs.Chosen.{class_at, count_classes, in_root, of_root}
use Rattle.life_classes.proofs.Forests.{by_steps, root-le, root-stays, root-up}
use Rattle.life_classes.proofs.Inherited.{stands_in}
use Rattle.life_classes.proofs.Joined.{set_of_root}
use Rattle.life_classes.proofs.Leading.{lead_back}
use Rattle.life_classes.proofs.Relabelled.{is_kept, labelled_or, other_then, root_before, root_then}

abbrev tag : Tag
tag = record { number = pos 0; label = 0 }

pub within_both : (P : Cell → Type 0) (G H : Generation) → All P (cells G) → All P (cells H) → All P (cells (union G H))
within_both P G H first second k d h =
    let c = get_or (cells (union G H)) k d in
    elim (in_union G H c (cells-contained (union G H) k d h)) [
      | inl here ↦ let w = stands_in G c here in subst P w.2 (first w.0 origin w.1)
      | inr here ↦ let w = stands_in H c here in subst P w.2 (second w.0 origin w.1)
    ]

-- ---- a forest with one more number

module _ (f : List ℕ) where
  abbrev pub more : List ℕ
  more = f ++ (length f ∷ [])

  pub long : length more ≡ length f + 1
  long = length_push f (length f)

  root_kept : (k : ℕ) → k < length f → root more k ≡ root f k
  root_kept =
      by_steps f (λ k. k < length f → root more k ≡ root f k)
      (λ k stops h.
      let same = get_or_append_left f (length f ∷ []) k k h in
      root-stays more k (omega arith) ∙ sym (root-stays f k stops))
      (λ k goes up h.
      let same = get_or_append_left f (length f ∷ []) k k h in
      root-up more k (omega arith) ∙ ap (root more) same ∙ up (omega arith) ∙ sym (root-up f k goes))

  root_new : root more (length f) ≡ length f
  root_new =
      let same = get_or_push f (length f) (length f) (length f) refl in
      root-stays more (length f) (omega arith)

  -- ---- the sets of roots

  module _ (rest : Labelled) (labelled : AreLabelled rest f) where
    labelled_more : AreLabelled rest more
    labelled_more = record {
      tagged = labelled.tagged;
      within = λ k d h. let within = labelled.within k d h in let count = long in omega arith;
    }

    rest_then : (r : ℕ) (c : Cell) → contains (set_of_root rest more r) c ≡ true → contains (set_of_root rest f r) c ≡ true
    rest_then r c h =
        let w = in_root rest more r c h in
        let within = labelled.within w.place tag w.tagged in
        subst (λ d. contains (set_of_root rest f r) d ≡ true) (w.is origin)
        (of_root rest f r w.place tag origin w.inside w.tagged
        (sym (root_kept (get_or rest.tags.items w.place tag).label within) ∙ w.label tag))

    rest_before : (r : ℕ) (c : Cell) → contains (set_of_root rest f r) c ≡ true → contains (set_of_root rest more r) c ≡ true
    rest_before r c h =
        let w = in_root rest f r c h in
        let within = labelled.within w.place tag w.tagged in
        subst (λ d. contains (set_of_root rest more r) d ≡ true) (w.is origin)
        (of_root rest more r w.place tag origin w.inside w.tagged
        (root_kept (get_or rest.tags.items w.place tag).label within ∙ w.label tag))

    none_has_new : (c : Cell) → contains (set_of_root rest more (length f)) c ≡ true → ⊥
    none_has_new c h =
        let w = in_root rest more (length f) c h in
        let within = labelled.within w.place tag w.tagged in
        let kept = root_kept (get_or rest.tags.items w.place tag).label within in
        let its = w.label tag in
        omega (arith, root-le f (get_or rest.tags.items w.place tag).label)

    module _ (herd : Generation) (new : Labelled) (disjoint : AreDisjoint herd rest.cells) (tagged : IsTagged new)
        (is : new.cells ≡ union herd rest.cells)
        (labels : AreLabelsOr rest (length f) (cells new.cells) (length (cells new.cells)) new.tags.items) where
      pub labelled_together : AreLabelled new more
      labelled_together =
          let count = long in
          labelled_or new rest (length f) more tagged labelled.tagged labels labelled_more (omega arith)

      pub sets_of_rest : (r : ℕ) → r < length f → set_of_root new more r ≡ set_of_root rest f r
      sets_of_rest r below =
          within_each_other (set_of_root new more r) (set_of_root rest f r)
          (λ c h. elim (root_before new rest (length f) more tagged labelled.tagged labels r c h) [
            | inl w ↦ rest_then r c w
            | inr w ↦ let same = w.1 in let own = root_new in absurd (omega arith)
          ])
          (λ c h.
          let w = in_root rest f r c h in
          let here = subst (λ d. contains rest.cells d ≡ true) (w.is origin) (cells-contained rest.cells w.place origin w.inside) in
          root_then new rest (length f) more tagged labelled.tagged labels r c
          (ap (λ H. contains H c) is ∙ in_second herd rest.cells c here) (rest_before r c h))

      pub set_of_herd : set_of_root new more (length f) ≡ herd
      set_of_herd =
          within_each_other (set_of_root new more (length f)) herd
          (λ c h. elim (root_before new rest (length f) more tagged labelled.tagged labels (length f) c h) [
            | inl w ↦ absurd (none_has_new c w)
            | inr w ↦
                let here = is_kept new rest (length f) more tagged labelled.tagged labels (length f) c h in
                elim (in_union herd rest.cells c (ap (λ H. contains H c) (sym is) ∙ here)) [
                  | inl one ↦ one
                  | inr other ↦ absurd (w.0 other)
                ]
          ])
          (λ c h.
          other_then new rest (length f) more tagged labelled.tagged labels (length f) c
          (ap (λ H. contains H c) is ∙ in_first herd rest.cells c h) (disjoint c h) root_new)

  -- ---- the lists of classes

  module _ (a l b k : Labelled) (first herd : Generation)
      (firsts : (r : ℕ) → r < length f → set_of_root b more r ≡ set_of_root a f r) (first_herd : set_of_root b more (length f) ≡ first)
      (lasts : (r : ℕ) → r < length f → set_of_root k more r ≡ set_of_root l f r) (last_herd : set_of_root k more (length f) ≡ herd) where
    abbrev x : Class
    x = record { first = first; last = herd }

    classes_together : classes_by b k more ≡ classes_by a l f ++ (x ∷ [])
    classes_together =
        let count = count_classes a l f in
        let count_too = count_classes b k more in
        let pushed = length_push (classes_by a l f) x in
        let all = long in
        same_lists _ _ (omega arith) (λ r d h. elim (cases_lt r (length f)) [
          | inl below ↦
              class_at b k more r d (omega arith)
              ∙ (λ i. record { first = firsts r below i; last = lasts r below i })
              ∙ sym (get_or_append_left (classes_by a l f) (x ∷ []) d r (omega arith) ∙ class_at a l f r d below)
          | inr past ↦
              let here : r ≡ length f = omega arith in
              ap (λ q. get_or (classes_by b k more) q d) here
              ∙ class_at b k more (length f) d (omega arith)
              ∙ (λ i. record { first = first_herd i; last = last_herd i })
              ∙ sym (get_or_push (classes_by a l f) x d r (omega arith))
        ])

    pub lead_together : LeadTo (x ∷ classes_by a l f) (classes_by b k more)
    lead_together =
        let cs = classes_by a l f in
        subst (LeadTo (x ∷ cs)) (sym classes_together)
        (subst (λ es. LeadTo (x ∷ es) (cs ++ (x ∷ []))) (append-nil cs) (lead_back x cs []))
