-- The way of an engine among the classes of a film is a line that comes back.
use Rattle.std.proofs.Common.{◌≡◌, ℕ, zero, suc, ◌+◌, ◌-◌, ◌<◌, ◌≤◌, true, List, length, get_or, inl, inr, sym, ap, subst, ◌∙◌, arith}
use Rattle.std.specs.List.{Contains}
use Rattle.std.proofs.lemmas.Bool.{cases_lt}
use Rattle.std.proofs.lemmas.List.{get_or_default}
use Rattle.std.proofs.lemmas.List.Elements.{Contains-get_or}
use Rattle.life_model.specs.Rule.{Rule}
use Rattle.life_model.specs.Generation.{Generation, contains, empty}
use Rattle.life_model.specs.Evolution.{generation, next}
use Rattle.life_model.specs.Symmetry.{translate_of}
use Rattle.life_model.proofs.Moves.{nothing_or_some}
use Rattle.life_objects.specs.Apart.{AreDisjoint}
use Rattle.life_objects.specs.Piece.{IsSplit}
use Rattle.life_objects.specs.Union.{union}
use Rattle.life_objects.proofs.Times.{generation-empty}
use Rattle.life_objects.proofs.Unions.{in_first, in_second}
use Rattle.life_growth.specs.Engine.{IsEngine, Way}
use Rattle.life_growth.specs.Unsplit.{AreClasses, IsUnsplit, Leaves}
use Rattle.life_growth.proofs.Classes.{unsplit_is_a_class}
use Rattle.life_growth.proofs.FilmLemmas.Splits.{split_next}
use Rattle.life_growth.proofs.Endless.{IsUnsplit-wider}
use Rattle.life_growth.proofs.Parts.{disjoint_now, rest_is_disjoint}
use Rattle.life_tracks.specs.Lines.{ComesToReturn, HasLost, ancestor, core_of}
use Rattle.life_tracks.specs.Readings.{IsReadOff}
use Rattle.life_tracks.specs.Tracks.{Path, way_of}
use Rattle.life_growth.proofs.EnginesLemmas.Along.{engine_alike}
use Rattle.life_tracks.proofs.Ancestors.{ancestor-before, ancestor-last, ancestor-parent, core-before, core-last}
use Rattle.life_tracks.proofs.Backs.{AreFramesOf, core_is, made_of, next_classes, on_line, without_left}
use Rattle.life_tracks.proofs.Classes.{class_splits, split_further}
use Rattle.life_tracks.proofs.Steps.{bearer_is_parent, bears_within, class_with}

module _ (R : Rule) (b : ℕ) (E : Generation) (way : Way) (engine : IsEngine R b E way) where
  module _ (G : Generation) (T : ℕ) (frames : ℕ → List Generation) (borne : ℕ → List ℕ) (are : AreFramesOf R G T frames borne)
      (place : ℕ) (inside : place < length (frames 0)) (E_is : get_or (frames 0) place empty ≡ E) (short : b + way.period ≤ T)
    where
      abbrev p : ℕ
      p = way.period

      -- class k of generation n is the engine's core, and so are those from which it comes
      record IsCoreLine (n : ℕ) : Type 0 where
        k : ℕ
        within : k < length (frames n)
        rest : Generation
        split : IsSplit R (T - n) (generation R G n) (way.core n) rest
        same : (m : ℕ) → m ≤ n → core_of frames borne n k m ≡ way.core m
        from : ancestor borne n k 0 ≡ place

      first_core : IsCoreLine 0
      first_core =
          let is : get_or (frames 0) place empty ≡ way.core 0 = E_is ∙ sym engine.start in
          let rest = class_splits R (T - 0) (generation R G 0) (frames 0) (are.classes 0 (omega arith))
          (get_or (frames 0) place empty) (Contains-get_or (frames 0) place empty inside) in
          record {
            k = place;
            within = inside;
            rest = rest.0;
            split = subst (λ H. IsSplit R (T - 0) (generation R G 0) H rest.0) is rest.1;
            same = λ m h.
                let e : 0 ≡ m = omega arith in
                subst (λ s. core_of frames borne 0 place s ≡ way.core s) e (core-last borne frames 0 place ∙ is);
            from = ancestor-last borne 0 place 0 (omega arith);
          }

      module _ (n : ℕ) (before : n < p) (line : IsCoreLine n) where
        leaves : Leaves R (way.core n) (way.core (suc n)) (way.left n)
        leaves = engine.leaves n before

        unsplit : IsUnsplit R b (way.core (suc n))
        unsplit = engine.whole (suc n) (omega arith)

        split_now : IsSplit R (T - suc n) (generation R G (suc n)) (next R (way.core n)) (next R line.rest)
        unfolding generation
        split_now =
            let e : T - n ≡ suc (T - suc n) = omega arith in
            (split_next R (T - suc n) (generation R G n) (way.core n) line.rest
            (subst (λ t. IsSplit R t (generation R G n) (way.core n) line.rest) e line.split)).2

        rest_later : Generation
        rest_later = union (way.left n) (next R line.rest)

        split_later : IsSplit R (T - suc n) (generation R G (suc n)) (way.core (suc n)) rest_later
        unfolding rest_later
        split_later =
            split_further R (T - suc n) (generation R G (suc n)) (next R (way.core n)) (next R line.rest) (way.core (suc n))
            (way.left n) split_now (record { together = leaves.together; apart = λ m h. leaves.apart m })

        one : Contains (frames (suc n)) (way.core (suc n))
        one =
            unsplit_is_a_class R (T - suc n) (generation R G (suc n)) (frames (suc n)) (are.classes (suc n) (omega arith))
            (way.core (suc n)) rest_later (IsUnsplit-wider R b (T - suc n) (way.core (suc n)) (omega arith) unsplit) split_later

        abbrev j : ℕ
        j = one.0

        class_is : get_or (frames (suc n)) j empty ≡ way.core (suc n)
        class_is = get_or_default (frames (suc n)) j empty (way.core (suc n)) one.1 ∙ one.2

        now_classes : AreClasses R (T - suc n) (next R (generation R G n)) (frames (suc n))
        unfolding generation
        now_classes = are.classes (suc n) (omega arith)

        parent_is : line.k ≡ get_or (borne n) j 0
        parent_is =
            elim (nothing_or_some (way.core (suc n))) [
              | inl none ↦ absurd (unsplit.nonempty none)
              | inr cell ↦
                  bearer_is_parent R (T - n) (T - suc n) (generation R G n) (frames n) (frames (suc n)) (borne n)
                  (are.classes n (omega arith)) now_classes (are.parents n (omega arith)) line.k j cell.0 line.within one.1
                  (ap (λ H. contains H cell.0) class_is ∙ cell.1)
                  (ap (λ H. contains (next R H) cell.0) (sym (core-last borne frames n line.k) ∙ line.same n (omega arith))
                  ∙ ap (λ H. contains H cell.0) (sym leaves.together)
                  ∙ in_first (way.core (suc n)) (way.left n) cell.0 cell.1)
            ]

        core_later : (m : ℕ) → m ≤ suc n → core_of frames borne (suc n) j m ≡ way.core m
        core_later m h =
            elim (cases_lt n m) [
              | inl last ↦
                  let e : suc n ≡ m = omega arith in
                  subst (λ s. core_of frames borne (suc n) j s ≡ way.core s) e (core-last borne frames (suc n) j ∙ class_is)
              | inr earlier ↦
                  core-before borne frames n j m earlier ∙ ap (λ i. core_of frames borne n i m) (sym parent_is)
                  ∙ line.same m earlier
            ]

        next_core : IsCoreLine (suc n)
        next_core = record {
          k = j;
          within = one.1;
          rest = rest_later;
          split = split_later;
          same = core_later;
          from = ancestor-before borne n j 0 (omega arith) ∙ ap (λ i. ancestor borne n i 0) (sym parent_is) ∙ line.from;
        }

      core_line : (n : ℕ) → n ≤ p → IsCoreLine n
      core_line zero h = first_core
      core_line (suc n) h = next_core n (omega arith) (core_line n (omega arith))

      last_line : IsCoreLine p
      last_line = core_line p (omega arith)

      pub end : ℕ
      end = last_line.k

      pub end_within : end < length (frames p)
      unfolding end
      end_within = last_line.within

      end_same : (m : ℕ) → m ≤ p → core_of frames borne p end m ≡ way.core m
      unfolding end
      end_same m h = last_line.same m h

      pub end_from : ancestor borne p end 0 ≡ place
      unfolding end
      end_from = last_line.from

      abbrev at_step : ℕ → ℕ
      at_step m = ancestor borne p end m

      start_is : core_of frames borne p end 0 ≡ E
      start_is = end_same 0 (omega arith) ∙ engine.start

      some_lost : HasLost borne p end
      some_lost =
          let m = engine.emitting in
          let h : m.0 < p = m.1 in
          let leaves = engine.leaves m.0 m.1 in
          let now = next_classes R G T frames borne are p end (omega arith) end_within m.0 h in
          let classes = are.classes m.0 (omega arith) in
          let parents = are.parents m.0 (omega arith) in
          let low = on_line R G T frames borne are p end (omega arith) end_within m.0 (omega arith) in
          let count = parents.count in
          elim (nothing_or_some (way.left m.0)) [
            | inl none ↦ absurd (m.2 (ap (λ H. generation R H b) none ∙ generation-empty R b))
            | inr cell ↦
                let borne_by : contains (next R (get_or (frames m.0) (at_step m.0) empty)) cell.0 ≡ true =
                ap (λ H. contains (next R H) cell.0) (end_same m.0 (omega arith))
                ∙ ap (λ H. contains H cell.0) (sym leaves.together)
                ∙ in_second (way.core (suc m.0)) (way.left m.0) cell.0 cell.1 in
                let j = class_with R (T - suc m.0) (next R (generation R G m.0)) (frames (suc m.0)) now cell.0
                (bears_within R (T - m.0) (generation R G m.0) (frames m.0) classes (at_step m.0) low cell.0 borne_by) in
                let parent = bearer_is_parent R (T - m.0) (T - suc m.0) (generation R G m.0) (frames m.0) (frames (suc m.0))
                (borne m.0) classes now parents (at_step m.0) j.0 cell.0 low j.1 j.2 borne_by in
                let inside : j.0 < length (frames (suc m.0)) = j.1 in
                record {
                  step = m.0;
                  within = h;
                  other = j.0;
                  sibling = record {
                    within = omega arith;
                    other = λ same.
                        disjoint_now R (way.core (suc m.0)) (way.left m.0) leaves.apart cell.0
                        (ap (λ H. contains H cell.0)
                        (sym (end_same (suc m.0) (omega arith)) ∙ ap (λ i. get_or (frames (suc m.0)) i empty) (sym same))
                        ∙ j.2)
                        cell.1;
                    same = sym parent ∙ ancestor-parent borne p end m.0 h;
                  };
                }
          ]

      pub engine_returns : ComesToReturn frames borne p end
      engine_returns = record {
        later = engine.later;
        place = end_within;
        by = way.displacement;
        again = end_same p (omega arith) ∙ engine.again ∙ ap (λ H. translate_of H way.displacement) (sym start_is);
        first = λ m e low high same.
            engine.first m e low high
            (sym (end_same m (omega arith)) ∙ same ∙ ap (λ H. translate_of H e) start_is);
        some = some_lost;
      }

      module _ (path : Path) (read : IsReadOff frames borne p end path) where
        path_core : (m : ℕ) → m ≤ p → (way_of path).core m ≡ way.core m
        path_core m h =
            core_is R G T frames borne are p end (omega arith) end_within path read m h ∙ end_same m h

        path_left : (m : ℕ) → m < p → (way_of path).left m ≡ way.left m
        path_left m h =
            let leaves = engine.leaves m h in
            let core = end_same (suc m) (omega arith) in
            let left = (way_of path).left m in
            rest_is_disjoint R (way.core (suc m)) ((way_of path).left m) (way.left m)
            (subst (λ H. AreDisjoint H ((way_of path).left m)) core
            (without_left R G T frames borne are p end (omega arith) end_within path read m h))
            (disjoint_now R (way.core (suc m)) (way.left m) leaves.apart)
            (ap (λ H. union H ((way_of path).left m)) (sym core)
            ∙ made_of R G T frames borne are p end (omega arith) end_within path read m h
            ∙ ap (next R) (end_same m (omega arith)) ∙ sym leaves.together)

        pub engine_along : IsEngine R b E (way_of path)
        engine_along =
            engine_alike R b E way engine path.start path.steps (read.start ∙ start_is) read.steps.count path_core path_left

        pub place_along : path.place ≡ place
        place_along = read.place ∙ end_from
