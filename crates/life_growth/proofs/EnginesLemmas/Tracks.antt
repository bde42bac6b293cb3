-- What the tracks from a set are, and that each way is one.
use Rattle.std.proofs.Common.{◌≡◌, ℕ, zero, suc, ◌<◌, ◌≤◌, Bool, List, [], ◌∷◌, length, map, inl, inr, sym, refl, ap, subst, ◌∙◌, arith}
use Rattle.std.specs.List.{AllPairs, Contains}
use Rattle.std.proofs.lemmas.List.Elements.{All-contains}
use Rattle.life_model.specs.Rule.{Rule}
use Rattle.life_model.specs.Generation.{Generation}
use Rattle.life_model.specs.Evolution.{generation, next}
use Rattle.life_objects.specs.Apart.{AreApartFor, AreDisjoint}
use Rattle.life_objects.specs.Union.{union, union_of}
use Rattle.life_objects.proofs.Distances.{disjoint_from_apart}
use Rattle.life_objects.proofs.Lists.{AllPairs-head, AllPairs-tail, AllPairs-weaker, Contains-head, Contains-later, head_or_later}
use Rattle.life_objects.proofs.Members.{found_now}
use Rattle.life_objects.proofs.Unions.{in_union, union-swap}
use Rattle.life_objects.specs.Decided.Classes.{classes}
use Rattle.life_objects.proofs.DecidedLemmas.Kept.{Contains-filter, Contains-map, of_filter}
use Rattle.life_objects.proofs.Found.{Contains-flat_map, of_flat_map, of_map}
use Rattle.life_growth.specs.Engine.{FallsApart}
use Rattle.life_growth.specs.Unsplit.{IsUnsplit, Leaves}
use Rattle.life_growth.proofs.Classes.{core_is_a_class}
use Rattle.life_growth.proofs.Parts.{disjoint_now, rest_is_disjoint}
use Rattle.life_growth.specs.Engines.Tests.{falls_apart}
use Rattle.life_growth.specs.Engines.Tracks.{Step, core_along, each_with_others, left_along, steps_from, tracks}
use Rattle.life_growth.proofs.EnginesLemmas.Classes.{are_classes, falls_by_test, test_by_falls}

-- ---- a set of a list, and the others

abbrev with_first : Generation → Step → Step
with_first P s = (s.0, union P s.1)

others_together : (Ps : List Generation) (s : Step) → Contains (each_with_others Ps) s → union s.0 s.1 ≡ union_of Ps
others_together [] s one = let none : one.0 < 0 = one.1 in absurd (omega arith)
others_together (P ∷ Ps) s one =
    elim (head_or_later (P, union_of Ps) s (map (with_first P) (each_with_others Ps)) one.0 one.1 one.2) [
      | inl e ↦ ap (λ (t : Step). union t.0 t.1) (sym e)
      | inr later ↦
          let t = of_map (with_first P) (each_with_others Ps) s later in
          ap (λ (t : Step). union t.0 t.1) (sym t.2) ∙ union-swap t.0.0 P t.0.1
          ∙ ap (union P) (others_together Ps t.0 t.1)
    ]

one_of_them : (Ps : List Generation) (s : Step) → Contains (each_with_others Ps) s → Contains Ps s.0
one_of_them [] s one = let none : one.0 < 0 = one.1 in absurd (omega arith)
one_of_them (P ∷ Ps) s one =
    elim (head_or_later (P, union_of Ps) s (map (with_first P) (each_with_others Ps)) one.0 one.1 one.2) [
      | inl e ↦ subst (Contains (P ∷ Ps)) (ap (λ (t : Step). t.0) e) (Contains-head P Ps)
      | inr later ↦
          let t = of_map (with_first P) (each_with_others Ps) s later in
          subst (Contains (P ∷ Ps)) (ap (λ (t : Step). t.0) t.2) (Contains-later P t.0.0 Ps (one_of_them Ps t.0 t.1))
    ]

others_disjoint : (R : Rule) (Ps : List Generation) (s : Step) → AllPairs AreDisjoint Ps → Contains (each_with_others Ps) s →
    AreDisjoint s.0 s.1
others_disjoint R [] s pairs one = let none : one.0 < 0 = one.1 in absurd (omega arith)
others_disjoint R (P ∷ Ps) s pairs one =
    let of_p = AllPairs-head AreDisjoint P Ps pairs in
    elim (head_or_later (P, union_of Ps) s (map (with_first P) (each_with_others Ps)) one.0 one.1 one.2) [
      | inl e ↦
          subst (λ (t : Step). AreDisjoint t.0 t.1) e
          (λ c h k. let Q = found_now R Ps c k in All-contains (AreDisjoint P) Ps Q.0 of_p Q.1 c h Q.2)
      | inr later ↦
          let t = of_map (with_first P) (each_with_others Ps) s later in
          subst (λ (t : Step). AreDisjoint t.0 t.1) t.2
          (λ c h k. elim (in_union P t.0.1 c k) [
            | inl x ↦ All-contains (AreDisjoint P) Ps t.0.0 of_p (one_of_them Ps t.0 t.1) c x h
            | inr y ↦ others_disjoint R Ps t.0 (AllPairs-tail AreDisjoint P Ps pairs) t.1 c h y
          ])
    ]

its_others : (Ps : List Generation) (A : Generation) → Contains Ps A → (L : Generation) × Contains (each_with_others Ps) (A, L)
its_others [] A one = let none : one.0 < 0 = one.1 in absurd (omega arith)
its_others (P ∷ Ps) A one =
    elim (head_or_later P A Ps one.0 one.1 one.2) [
      | inl e ↦ (
        union_of Ps,
        subst (λ Q. Contains (each_with_others (P ∷ Ps)) (Q, union_of Ps)) e
            (Contains-head (P, union_of Ps) (map (with_first P) (each_with_others Ps))),
      )
      | inr later ↦
          let L = its_others Ps A later in (
            union P L.0,
            Contains-later (P, union_of Ps) (A, union P L.0) (map (with_first P) (each_with_others Ps))
                (Contains-map (with_first P) (each_with_others Ps) (A, L.0) L.1),
          )
    ]

module _ (R : Rule) (b : ℕ) where
  -- ---- one step

  pub record IsStep (P : Generation) (s : Step) : Type 0 where
    pub together : union s.0 s.1 ≡ next R P
    pub settles : FallsApart R b s.1

  abbrev falls : Step → Bool
  falls s = falls_apart R b s.1

  pub step_by_test : (P : Generation) (s : Step) → Contains (steps_from R b P) s → IsStep P s
  unfolding steps_from
  step_by_test P s one =
      let Ps = classes R (next R P) (suc b) in
      let kept = of_filter falls (each_with_others Ps) s one in
      record {
        together = others_together Ps s kept.0 ∙ (are_classes R b (next R P)).together;
        settles = falls_by_test R b s.1 kept.1;
      }

  pub disjoint_at_once : (P Q : Generation) → AreApartFor R b P Q → AreDisjoint P Q
  unfolding generation
  disjoint_at_once P Q far = disjoint_from_apart P Q (far 0 (omega arith))

  pub test_by_step : (P A L : Generation) → Leaves R P A L → IsUnsplit R b A → FallsApart R b L →
      Contains (steps_from R b P) (A, L)
  unfolding steps_from
  test_by_step P A L leaves unsplit settles =
      let Ps = classes R (next R P) (suc b) in
      let are = are_classes R b (next R P) in
      let others = its_others Ps A (core_is_a_class R b P A L Ps leaves unsplit are) in
      let disjoint = others_disjoint R Ps (A, others.0)
      (AllPairs-weaker (AreApartFor R b) AreDisjoint disjoint_at_once Ps are.apart) others.1 in
      let same : others.0 ≡ L =
      rest_is_disjoint R A others.0 L disjoint (disjoint_now R A L leaves.apart)
      (others_together Ps (A, others.0) others.1 ∙ are.together ∙ sym leaves.together) in
      Contains-filter falls (each_with_others Ps) (A, L)
      (subst (λ H. Contains (each_with_others Ps) (A, H)) same others.1) (test_by_falls R b L settles)

  -- ---- tracks

  pub record IsTrack (n : ℕ) (P : Generation) (track : List Step) : Type 0 where
    pub long : length track ≡ n
    pub steps : (k : ℕ) → k < n → union (core_along P track (suc k)) (left_along track k) ≡ next R (core_along P track k)
    pub settles : (k : ℕ) → k < n → FallsApart R b (left_along track k)

  more_steps : (n : ℕ) (P : Generation) (s : Step) (track : List Step) → IsStep P s → IsTrack n s.0 track →
      (k : ℕ) → k < suc n →
      union (core_along P (s ∷ track) (suc k)) (left_along (s ∷ track) k) ≡ next R (core_along P (s ∷ track) k)
  more_steps n P s track step rest zero h = step.together
  more_steps n P s track step rest (suc k) h = rest.steps k (omega arith)

  more_settles : (n : ℕ) (P : Generation) (s : Step) (track : List Step) → IsStep P s → IsTrack n s.0 track →
      (k : ℕ) → k < suc n → FallsApart R b (left_along (s ∷ track) k)
  more_settles n P s track step rest zero h = step.settles
  more_settles n P s track step rest (suc k) h = rest.settles k (omega arith)

  pub track_by_test : (n : ℕ) (P : Generation) (track : List Step) → Contains (tracks R b n P) track → IsTrack n P track
  unfolding tracks
  track_by_test zero P track one =
      elim (head_or_later [] track [] one.0 one.1 one.2) [
        | inl e ↦
            subst (IsTrack 0 P) e
            (record { long = refl; steps = λ k h. absurd (omega arith); settles = λ k h. absurd (omega arith) })
        | inr later ↦ let none : later.0 < 0 = later.1 in absurd (omega arith)
      ]
  track_by_test (suc n) P track one =
      let s = of_flat_map (λ s. map (λ track. s ∷ track) (tracks R b n s.0)) (steps_from R b P) track one in
      let t = of_map (λ track. s.0 ∷ track) (tracks R b n s.0.0) track s.2 in
      let step = step_by_test P s.0 s.1 in
      let rest = track_by_test n s.0.0 t.0 t.1 in
      let more : length t.0 ≡ n = rest.long in
      subst (IsTrack (suc n) P) t.2
      (record {
        long = omega arith;
        steps = more_steps n P s.0 t.0 step rest;
        settles = more_settles n P s.0 t.0 step rest;
      })

-- ---- a way as a track

pub track_of : (core left : ℕ → Generation) → ℕ → List Step
track_of core left zero = []
track_of core left (suc n) = (core 1, left 0) ∷ track_of (λ k. core (suc k)) (λ k. left (suc k)) n

pub track_long : (core left : ℕ → Generation) (n : ℕ) → length (track_of core left n) ≡ n
unfolding track_of
track_long core left zero = refl
track_long core left (suc n) =
    let e : length (track_of (λ k. core (suc k)) (λ k. left (suc k)) n) ≡ n = track_long (λ k. core (suc k)) (λ k. left (suc k)) n in
    omega arith

pub track_cores : (core left : ℕ → Generation) (n k : ℕ) → k ≤ n → core_along (core 0) (track_of core left n) k ≡ core k
unfolding track_of
track_cores core left n zero h = refl
track_cores core left zero (suc k) h = absurd (omega arith)
track_cores core left (suc n) (suc k) h = track_cores (λ k. core (suc k)) (λ k. left (suc k)) n k (omega arith)

pub track_lefts : (core left : ℕ → Generation) (n k : ℕ) → k < n → left_along (track_of core left n) k ≡ left k
unfolding track_of
track_lefts core left zero k h = absurd (omega arith)
track_lefts core left (suc n) zero h = refl
track_lefts core left (suc n) (suc k) h = track_lefts (λ k. core (suc k)) (λ k. left (suc k)) n k (omega arith)

pub test_by_track : (R : Rule) (b : ℕ) (core left : ℕ → Generation) (n : ℕ) →
    ((k : ℕ) → k < n → Leaves R (core k) (core (suc k)) (left k)) → ((k : ℕ) → k ≤ n → IsUnsplit R b (core k)) →
    ((k : ℕ) → k < n → FallsApart R b (left k)) → Contains (tracks R b n (core 0)) (track_of core left n)
unfolding track_of tracks
test_by_track R b core left zero leaves whole settles = Contains-head [] []
test_by_track R b core left (suc n) leaves whole settles =
    let rest = track_of (λ k. core (suc k)) (λ k. left (suc k)) n in
    let later = test_by_track R b (λ k. core (suc k)) (λ k. left (suc k)) n (λ k h. leaves (suc k) (omega arith))
    (λ k h. whole (suc k) (omega arith)) (λ k h. settles (suc k) (omega arith)) in
    Contains-flat_map (λ s. map (λ track. s ∷ track) (tracks R b n s.0)) (steps_from R b (core 0)) (core 1, left 0)
    ((core 1, left 0) ∷ rest)
    (test_by_step R b (core 0) (core 1) (left 0) (leaves 0 (omega arith)) (whole 1 (omega arith))
    (settles 0 (omega arith)))
    (Contains-map (λ track. (core 1, left 0) ∷ track) (tracks R b n (core 1)) rest later)
