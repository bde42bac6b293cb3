-- The frames of a film, read backwards.
use Rattle.std.proofs.Common.{◌≡◌, ℕ, ◌+◌, ◌-◌, ◌<◌, ◌≤◌, List, [], ◌∷◌, ◌++◌, length, get_or, map, inl, inr, sym, refl, ap, subst, ◌∙◌, arith}
use Rattle.std.proofs.lemmas.Bool.{cases_lt}
use Rattle.std.proofs.lemmas.List.{get_or-map, get_or_append_left, get_or_push, length-map, length_push, map-append}
use Rattle.life_model.specs.Rule.{Rule}
use Rattle.life_model.specs.Generation.{Generation, empty}
use Rattle.life_model.specs.Evolution.{generation, next}
use Rattle.life_model.proofs.Recurrences.{generation-next, generation-zero}
use Rattle.life_growth.specs.Unsplit.{AreClasses}
use Rattle.life_tracks.specs.declared.frames.film.Film.{Film}
use Rattle.life_tracks.specs.declared.frames.frame.Frame.{Frame}
use Rattle.life_tracks.specs.Frames.Frames.{AreFrames, AreGenerations, AreParents, IsFilm, IsNextFrame, frame_classes, frame_parents}

-- what was read from the frames
pub frame_there : (fs : List Frame) (i : ℕ) (f : Frame) → i < length fs → f ≡ get_or fs i f →
    frame_classes fs i ≡ f.classes.items
frame_there fs i f inside is =
    get_or-map (λ g. g.classes.items) fs i f [] inside ∙ ap (λ (g : Frame). g.classes.items) (sym is)

module _ (R : Rule) (G : Generation) where
  -- ---- generations

  pub one_generation_more : (n : ℕ) (gs hs : List Generation) (H : Generation) → hs ≡ gs ++ (H ∷ []) → H ≡ generation R G n →
      AreGenerations R G n gs → AreGenerations R G (n + 1) hs
  one_generation_more n gs hs H is next are = record {
    count = ap length is ∙ length_push gs H ∙ ap (λ k. k + 1) are.count;
    each = λ t below. elim (cases_lt t n) [
      | inl before ↦
          ap (λ xs. get_or xs t empty) is
          ∙ get_or_append_left gs (H ∷ []) empty t (subst (λ k. t < k) (sym are.count) before) ∙ are.each t before
      | inr past ↦
          let here : n ≡ t = omega arith in
          ap (λ xs. get_or xs t empty) is ∙ ap (λ k. get_or (gs ++ (H ∷ [])) k empty) (sym here)
          ∙ get_or_push gs H empty n are.count ∙ next ∙ ap (generation R G) here
    ];
  }

  pub first_generation : (hs : List Generation) (H : Generation) → hs ≡ [] ++ (H ∷ []) → H ≡ G → AreGenerations R G 1 hs
  first_generation hs H is same =
      subst (λ n. AreGenerations R G n hs) (let e : 0 + 1 ≡ 1 = refl in e)
      (one_generation_more 0 [] hs H is (same ∙ sym (generation-zero R G))
      (record { count = refl; each = λ t h. absurd (omega arith) }))

  pub one_left_less : (all less : List Generation) (H : Generation) → all ≡ less ++ (H ∷ []) →
      AreGenerations R G (length all) all → AreGenerations R G (length less) less
  one_left_less all less H is are =
      let long = ap length is ∙ length_push less H in
      record {
        count = refl;
        each = λ t below.
            sym (ap (λ xs. get_or xs t empty) is ∙ get_or_append_left less (H ∷ []) empty t below) ∙ are.each t (omega arith);
      }

  pub last_left : (all less : List Generation) (H : Generation) → all ≡ less ++ (H ∷ []) →
      AreGenerations R G (length all) all → H ≡ generation R G (length less)
  last_left all less H is are =
      let long = ap length is ∙ length_push less H in
      sym (ap (λ xs. get_or xs (length less) empty) is ∙ get_or_push less H empty (length less) refl)
      ∙ are.each (length less) (omega arith)

  module _ (T : ℕ) where
    -- ---- the frame that follows

    pub classes_later : (fs : List Frame) (H : Generation) (f : Frame) → AreFrames R G T (length fs) fs → length fs ≤ T →
        H ≡ generation R G (T - length fs) → 0 < length fs → f ≡ get_or fs (length fs - 1) f →
        AreClasses R (length fs - 1) (next R H) f.classes.items
    classes_later fs H f are within is some last =
        let n = length fs in
        let up : T - (n - 1) ≡ (T - n) + 1 = omega arith in
        let then : generation R G (T - (n - 1)) ≡ next R H =
        ap (generation R G) up ∙ generation-next R G (T - n) ∙ ap (next R) (sym is) in
        subst (AreClasses R (n - 1) (next R H)) (frame_there fs (n - 1) f (omega arith) last)
        (subst (λ K. AreClasses R (n - 1) K (frame_classes fs (n - 1))) then (are.classes (n - 1) (omega arith)))

    pub next_frame : (fs : List Frame) (H : Generation) (f frame : Frame) → H ≡ generation R G (T - length fs) →
        0 < length fs → f ≡ get_or fs (length fs - 1) f → AreClasses R ((length fs - 1) + 1) H frame.classes.items →
        AreParents R frame.classes.items f.classes.items frame.parents.items → IsNextFrame R G T fs frame
    next_frame fs H f frame is some last classes parents =
        let n = length fs in
        let same : (n - 1) + 1 ≡ n = omega arith in
        record {
          classes = subst (λ K. AreClasses R n K frame.classes.items) is (subst (λ k. AreClasses R k H frame.classes.items) same classes);
          parents = λ h.
              subst (λ Qs. AreParents R frame.classes.items Qs frame.parents.items)
              (sym (frame_there fs (n - 1) f (omega arith) last)) parents;
        }

    pub first_frame : (fs : List Frame) (H : Generation) (frame : Frame) → H ≡ generation R G (T - length fs) → length fs ≡ 0 →
        AreClasses R 0 H frame.classes.items → IsNextFrame R G T fs frame
    first_frame fs H frame is none classes = record {
      classes = subst (λ K. AreClasses R (length fs) K frame.classes.items) is
          (subst (λ k. AreClasses R k H frame.classes.items) (sym none) classes);
      parents = λ h. absurd (omega arith);
    }

    -- ---- one frame more

    module _ (fs gs : List Frame) (f : Frame) (is : gs ≡ fs ++ (f ∷ [])) where
      earlier : {X : Type 0} (of : Frame → List X) (i : ℕ) → i < length fs →
          get_or (map of gs) i [] ≡ get_or (map of fs) i []
      earlier of i h =
          ap (λ xs. get_or (map of xs) i []) is ∙ ap (λ xs. get_or xs i []) (map-append of fs (f ∷ []))
          ∙ get_or_append_left (map of fs) (of f ∷ []) [] i (omega (arith, length-map fs of))

      here : {X : Type 0} (of : Frame → List X) → get_or (map of gs) (length fs) [] ≡ of f
      here of =
          ap (λ xs. get_or (map of xs) (length fs) []) is ∙ ap (λ xs. get_or xs (length fs) []) (map-append of fs (f ∷ []))
          ∙ get_or_push (map of fs) (of f) [] (length fs) (length-map fs of)

      abbrev classes_of : Frame → List Generation
      classes_of g = g.classes.items

      abbrev parents_of : Frame → List ℕ
      parents_of g = g.parents.items

      long : length gs ≡ length fs + 1
      long = ap length is ∙ length_push fs f

      pub one_frame_more : AreFrames R G T (length fs) fs → IsNextFrame R G T fs f → AreFrames R G T (length gs) gs
      one_frame_more are next =
          let n = length fs in
          let more = long in
          record {
            count = refl;
            classes = λ i h. elim (cases_lt i n) [
              | inl before ↦
                  subst (AreClasses R i (generation R G (T - i))) (sym (earlier classes_of i before)) (are.classes i before)
              | inr past ↦
                  let same : n ≡ i = omega arith in
                  subst (λ k. AreClasses R k (generation R G (T - k)) (frame_classes gs k)) same
                  (subst (AreClasses R n (generation R G (T - n))) (sym (here classes_of)) next.classes)
            ];
            parents = λ i h. elim (cases_lt (i + 1) n) [
              | inl before ↦
                  subst (λ Ps. AreParents R Ps (frame_classes gs i) (frame_parents gs (i + 1)))
                  (sym (earlier classes_of (i + 1) before))
                  (subst (λ Qs. AreParents R (frame_classes fs (i + 1)) Qs (frame_parents gs (i + 1)))
                  (sym (earlier classes_of i (omega arith)))
                  (subst (AreParents R (frame_classes fs (i + 1)) (frame_classes fs i))
                  (sym (earlier parents_of (i + 1) before)) (are.parents i before)))
              | inr past ↦
                  let same : n ≡ i + 1 = omega arith in
                  let last : n - 1 ≡ i = omega arith in
                  subst (λ k. AreParents R (frame_classes gs k) (frame_classes gs i) (frame_parents gs k)) same
                  (subst (λ Ps. AreParents R Ps (frame_classes gs i) (frame_parents gs n)) (sym (here classes_of))
                  (subst (λ Qs. AreParents R f.classes.items Qs (frame_parents gs n))
                  (ap (frame_classes fs) last ∙ sym (earlier classes_of i (omega arith)))
                  (subst (AreParents R f.classes.items (frame_classes fs (n - 1))) (sym (here parents_of))
                  (next.parents (omega arith)))))
            ];
          }

    -- ---- the film

    pub film_is : (film : Film) → AreFrames R G T (T + 1) film.frames.items → IsFilm R G T film
    film_is film are =
        let fs = film.frames.items in
        let long = are.count in
        record {
          count = are.count;
          classes = λ t h.
              let at : T - t ≡ length fs - 1 - t = omega arith in
              let back : T - (T - t) ≡ t = omega arith in
              subst (λ i. AreClasses R (T - t) (generation R G t) (frame_classes fs i)) at
              (subst (λ k. AreClasses R (T - t) (generation R G k) (frame_classes fs (T - t))) back
              (are.classes (T - t) (omega arith)));
          parents = λ t h.
              let i = T - (t + 1) in
              let at : i + 1 ≡ length fs - 1 - t = omega arith in
              let later : i ≡ length fs - 1 - (t + 1) = omega arith in
              subst (λ j. AreParents R (frame_classes fs j) (frame_classes fs (length fs - 1 - (t + 1))) (frame_parents fs j)) at
              (subst (λ j. AreParents R (frame_classes fs (i + 1)) (frame_classes fs j) (frame_parents fs (i + 1))) later
              (are.parents i (omega arith)));
        }
