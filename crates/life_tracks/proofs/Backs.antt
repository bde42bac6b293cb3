-- Lines of a film that come back are tracks along which classes come back.
use Rattle.std.proofs.Common.{◌≡◌, ◌≢◌, ℕ, suc, ◌-◌, ◌<◌, ◌≤◌, List, length, get_or, sym, refl, ap, subst, ◌∙◌, add-one, arith}
use Rattle.std.specs.List.{Contains}
use Rattle.std.proofs.lemmas.List.Elements.{Contains-get_or}
use Rattle.life_model.specs.Rule.{Rule}
use Rattle.life_model.specs.Generation.{Generation, empty}
use Rattle.life_model.specs.Evolution.{generation, next}
use Rattle.life_model.specs.Symmetry.{normal, translate_of}
use Rattle.life_model.proofs.Moves.{moved_from_normal, normal-moved}
use Rattle.life_objects.specs.Apart.{AreDisjoint}
use Rattle.life_objects.specs.Union.{union}
use Rattle.life_growth.specs.Engines.Tracks.{core_along}
use Rattle.life_growth.specs.Unsplit.{AreClasses, IsUnsplit}
use Rattle.life_tracks.specs.declared.frames.film.Film.{Film}
use Rattle.life_tracks.specs.Frames.Frames.{AreParents, IsFilm, classes_at, parents_at}
use Rattle.life_tracks.specs.Films.{IsLinkedFilm, IsTrackOf, last_of}
use Rattle.life_tracks.specs.Lines.{AreLinked, ComesToReturn, ancestor, core_of}
use Rattle.life_tracks.specs.Readings.{AreLeft, IsReadOff}
use Rattle.life_tracks.specs.Tracks.{ComesBack, Path, way_of}
use Rattle.life_tracks.proofs.Along.{core_on_line, left_at_step}
use Rattle.life_tracks.proofs.Ancestors.{ancestor-parent, ancestor-within}
use Rattle.life_tracks.proofs.Classes.{class_is_unsplit}
use Rattle.life_tracks.proofs.Steps.{becomes_core_and_left, core_without_left, something_left}

-- the classes of the generations of G up to T, and who bears them
pub record AreFramesOf (R : Rule) (G : Generation) (T : ℕ) (frames : ℕ → List Generation) (borne : ℕ → List ℕ) : Type 0 where
  pub classes : (t : ℕ) → t ≤ T → AreClasses R (T - t) (generation R G t) (frames t)
  pub parents : (t : ℕ) → t < T → AreParents R (frames t) (frames (suc t)) (borne t)

module _ (R : Rule) (G : Generation) (T : ℕ) where
  pub frames_of_film : (film : Film) → IsFilm R G T film → AreFramesOf R G T (classes_at film) (parents_at film)
  frames_of_film film is = record {
    classes = is.classes;
    parents = λ t h.
        subst (λ s. AreParents R (classes_at film t) (classes_at film s) (parents_at film t)) (add-one t) (is.parents t h);
  }

  pub linked_frames : (frames : ℕ → List Generation) (borne : ℕ → List ℕ) → AreFramesOf R G T frames borne →
      AreLinked frames borne T
  linked_frames frames borne are = record {
    count = λ t h. (are.parents t h).count;
    within = λ t k h inside. ((are.parents t h).each k inside).within;
  }

  pub last_is : (film : Film) → IsFilm R G T film → last_of film ≡ T
  last_is film is = let count = is.count in omega arith

  pub linked_film : (film : Film) → IsFilm R G T film → IsLinkedFilm film
  linked_film film is =
      let count = is.count in
      record {
        some = omega arith;
        linked = subst (AreLinked (classes_at film) (parents_at film)) (sym (last_is film is))
            (linked_frames (classes_at film) (parents_at film) (frames_of_film film is));
      }

  module _ (frames : ℕ → List Generation) (borne : ℕ → List ℕ) (are : AreFramesOf R G T frames borne) (n k : ℕ)
      (within : n ≤ T) (inside : k < length (frames n)) where
    pub on_line : (m : ℕ) → m ≤ n → ancestor borne n k m < length (frames m)
    on_line m h = ancestor-within borne frames T (linked_frames frames borne are) n k m within inside h

    pub core_is_class : (m : ℕ) → m ≤ n → Contains (frames m) (core_of frames borne n k m)
    core_is_class m h = Contains-get_or (frames m) (ancestor borne n k m) empty (on_line m h)

    -- the classes of the next generation
    pub next_classes : (m : ℕ) → m < n → AreClasses R (T - suc m) (next R (generation R G m)) (frames (suc m))
    unfolding generation
    next_classes m h = are.classes (suc m) (omega arith)

    module _ (path : Path) (read : IsReadOff frames borne n k path) where
      pub core_is : (m : ℕ) → m ≤ n → (way_of path).core m ≡ core_of frames borne n k m
      core_is m h = core_on_line frames borne n k path read m h

      pub left_is : (m : ℕ) → m < n → AreLeft (frames (suc m)) (borne m) (ancestor borne n k (suc m)) ((way_of path).left m)
      left_is m h =
          let long = read.steps.count in
          subst (AreLeft (frames (suc m)) (borne m) (ancestor borne n k (suc m)))
          (sym (left_at_step path.steps m (omega arith))) (read.steps.left m h)

      pub made_of : (m : ℕ) → m < n → union (core_of frames borne n k (suc m)) ((way_of path).left m)
          ≡ next R (core_of frames borne n k m)
      made_of m h =
          becomes_core_and_left R (T - m) (T - suc m) (generation R G m) (frames m) (frames (suc m)) (borne m)
          (are.classes m (omega arith)) (next_classes m h) (are.parents m (omega arith))
          (ancestor borne n k m) (ancestor borne n k (suc m)) (on_line m (omega arith)) (on_line (suc m) h)
          (sym (ancestor-parent borne n k m h)) ((way_of path).left m) (left_is m h)

      pub without_left : (m : ℕ) → m < n → AreDisjoint (core_of frames borne n k (suc m)) ((way_of path).left m)
      without_left m h =
          core_without_left R (T - m) (T - suc m) (generation R G m) (frames m) (frames (suc m)) (borne m)
          (are.classes m (omega arith)) (next_classes m h) (are.parents m (omega arith))
          (ancestor borne n k m) (ancestor borne n k (suc m)) (on_line m (omega arith)) (on_line (suc m) h)
          (sym (ancestor-parent borne n k m h)) ((way_of path).left m) (left_is m h)

      module _ (comes : ComesToReturn frames borne n k) where
        some_left : (m : ℕ) × (m < (way_of path).period) × ((way_of path).left m ≢ empty)
        some_left =
            let lost = comes.some in
            let long = read.steps.count in
            let h : lost.step < n = lost.within in
            let m = lost.step in (
              lost.step,
              omega arith,
              something_left R (T - m) (T - suc m) (generation R G m) (frames m) (frames (suc m)) (borne m)
                  (are.classes m (omega arith)) (next_classes m h) (are.parents m (omega arith))
                  (ancestor borne n k m) (ancestor borne n k (suc m)) (on_line m (omega arith)) (on_line (suc m) h)
                  (sym (ancestor-parent borne n k m h)) ((way_of path).left m) (left_is m h) lost.other lost.sibling,
            )

        end_is : (way_of path).core (way_of path).period ≡ translate_of path.start comes.by
        end_is =
            ap (core_along path.start path.steps) read.steps.count ∙ core_is n (omega arith) ∙ comes.again
            ∙ ap (λ H. translate_of H comes.by) (sym read.start)

        pub comes_back : ComesBack R T path.start (way_of path)
        comes_back =
            let long : length path.steps ≡ n = read.steps.count in
            let low : 1 ≤ n = comes.later in
            record {
              start = refl;
              later = omega arith;
              within = omega arith;
              again = moved_from_normal path.start ((way_of path).core (way_of path).period)
                  (sym (ap normal end_is ∙ normal-moved path.start comes.by));
              first = λ m e from before same.
                  comes.first m e from (omega arith)
                  (sym (core_is m (omega arith)) ∙ same ∙ ap (λ H. translate_of H e) read.start);
              together = λ m h.
                  ap (λ H. union H ((way_of path).left m)) (core_is (suc m) (omega arith)) ∙ made_of m (omega arith)
                  ∙ ap (next R) (sym (core_is m (omega arith)));
              whole = λ m h.
                  subst (IsUnsplit R (T - m)) (sym (core_is m (omega arith)))
                  (class_is_unsplit R (T - m) (generation R G m) (frames m) (are.classes m (omega arith))
                  (core_of frames borne n k m) (core_is_class m (omega arith)));
              some = some_left;
            }

  pub is_track : (film : Film) → IsFilm R G T film → (n k : ℕ) → n ≤ T →
      ComesToReturn (classes_at film) (parents_at film) n k → (path : Path) →
      IsReadOff (classes_at film) (parents_at film) n k path → IsTrackOf R T film path
  is_track film is n k within comes path read =
      let frames = classes_at film in
      let borne = parents_at film in
      let are = frames_of_film film is in
      let inside : k < length (frames n) = comes.place in
      let long : length path.steps ≡ n = read.steps.count in
      record {
        place = subst (λ i. i < length (frames 0)) (sym read.place) (on_line frames borne are n k within inside 0 (omega arith));
        start = read.start ∙ ap (λ i. get_or (frames 0) i empty) (sym read.place);
        back = comes_back frames borne are n k within inside path read comes;
        cores = λ m h.
            subst (Contains (frames m)) (sym (core_is frames borne are n k within inside path read m (omega arith)))
            (core_is_class frames borne are n k within inside m (omega arith));
      }
