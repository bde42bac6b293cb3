-- The steps along a line, one after another.
use Rattle.std.proofs.Common.{◌≡◌, ℕ, suc, ◌+◌, ◌<◌, ◌≤◌, List, [], ◌∷◌, ◌++◌, length, get_or, ap, subst, ◌∙◌, add-one, arith}
use Rattle.std.proofs.lemmas.List.{get_or_default, length_push}
use Rattle.life_model.specs.Generation.{Generation, empty}
use Rattle.life_growth.specs.Engines.Tracks.{Step}
use Rattle.life_tracks.specs.Lines.{AreLinked, ancestor, core_of}
use Rattle.life_tracks.specs.Readings.{AreLeft, AreOnLine, AreStepsAlong, step_at}
use Rattle.life_tracks.proofs.Ancestors.{ancestor-within}
use Rattle.life_tracks.proofs.Pushing.{each_more}

module _ (frames : ℕ → List Generation) (borne : ℕ → List ℕ) where
  pub place_within : (T : ℕ) → AreLinked frames borne T → (n k : ℕ) → n ≤ T → k < length (frames n) → (places : List ℕ) →
      AreOnLine borne n k places → (t : ℕ) → t < n → get_or places (t + 1) 0 < length (borne t)
  place_within T linked n k within inside places on t h =
      let e = ap (λ m. get_or places m 0) (add-one t) in
      let is = on.each (suc t) (omega arith) in
      let low = ancestor-within borne frames T linked n k (suc t) within inside (omega arith) in
      let count = linked.count t (omega arith) in
      omega arith

  module _ (n k : ℕ) (places : List ℕ) (on : AreOnLine borne n k places) (t : ℕ) (before : t < n) (steps more : List Step)
      (s : Step) (so_far : AreStepsAlong frames borne n k t steps) (pushed : more ≡ steps ++ s ∷ []) (classes : List Generation)
      (parents : List ℕ) (classes_are : classes ≡ frames (suc t)) (parents_are : parents ≡ borne t)
      (core : s.0 ≡ get_or classes (get_or places (t + 1) 0) empty)
      (left : AreLeft classes parents (get_or places (t + 1) 0) s.1) where
    place_is : get_or places (t + 1) 0 ≡ ancestor borne n k (suc t)
    place_is = ap (λ m. get_or places m 0) (add-one t) ∙ on.each (suc t) (omega arith)

    core_is : s.0 ≡ core_of frames borne n k (suc t)
    core_is = core ∙ (λ i. get_or (classes_are i) (place_is i) empty)

    left_is : AreLeft (frames (suc t)) (borne t) (ancestor borne n k (suc t)) s.1
    left_is =
        subst (λ m. AreLeft (frames (suc t)) (borne t) m s.1) place_is
        (subst (λ ps. AreLeft (frames (suc t)) ps (get_or places (t + 1) 0) s.1) parents_are
        (subst (λ Qs. AreLeft Qs parents (get_or places (t + 1) 0) s.1) classes_are left))

    abbrev IsStep : ℕ → Step → Type 0
    IsStep i u =
        (u.0 ≡ core_of frames borne n k (suc i)) × AreLeft (frames (suc i)) (borne i) (ancestor borne n k (suc i)) u.1

    all_steps : (i : ℕ) → i < t + 1 → IsStep i (step_at more i)
    all_steps i h =
        each_more steps more s t so_far.count pushed
        (λ i u. IsStep i u)
        (λ i d before. subst (IsStep i) (get_or_default steps i (empty, empty) d
        (let count = so_far.count in omega arith)) (so_far.core i before, so_far.left i before))
        (core_is, left_is) i (empty, empty) h

    pub more_steps : AreStepsAlong frames borne n k (t + 1) more
    more_steps =
        let long = ap length pushed ∙ length_push steps s in
        let count = so_far.count in
        record { count = omega arith; core = λ i h. (all_steps i h).0; left = λ i h. (all_steps i h).1 }
