-- A search decides whether what leaves an engine never meets it again.
use Rattle.std.proofs.Common.{◌≡◌, ℕ, suc, ◌+◌, ◌*◌, ◌<◌, Bool, true, List, [], ◌∷◌, map, inl, inr, sym, refl, ap, subst, ◌∙◌, arith}
use Rattle.std.specs.Prelude.{◌&&◌}
use Rattle.std.specs.List.{Contains, list_all}
use Rattle.std.proofs.lemmas.Bool.{and_from, and_parts}
use Rattle.life_model.specs.Cell.{Cell, opposite, plus}
use Rattle.life_model.specs.Rule.{Rule}
use Rattle.life_model.specs.Generation.{Generation, contains}
use Rattle.life_model.specs.Symmetry.{translate_of}
use Rattle.life_model.proofs.Moves.{moved-moved}
use Rattle.life_model.proofs.Symmetries.{contains-moved}
use Rattle.life_objects.specs.Ash.{HasFallenApart}
use Rattle.life_objects.specs.Drift.{multiple_of}
use Rattle.life_objects.proofs.Lists.{Contains-head, head_or_later}
use Rattle.life_objects.specs.Decided.Tests.{each_below}
use Rattle.life_objects.proofs.DecidedLemmas.Tests.{each_below_by, each_below_tells}
use Rattle.life_objects.proofs.Found.{of_map}
use Rattle.life_growth.specs.Engine.{Way}
use Rattle.life_growth.specs.Things.{IsSettledThing, NeverMeet, NeverMeetAgain, Thing, a_period_later, core_thing, left_once, left_thing, lefts_within, move_of, set_then, time_of, time_then}
use Rattle.life_growth.proofs.Things.{how_often, settled_is_made}
use Rattle.life_growth.specs.Meeting.Again.{never_meet_again, things_later, things_left, things_once}
use Rattle.life_growth.specs.Meeting.Listed.{settled_things}
use Rattle.life_growth.specs.Meeting.Meeting.{all_never_meet, never_meet}
use Rattle.life_growth.proofs.MeetingLemmas.Engines.{moved_in_turn}
use Rattle.life_growth.proofs.MeetingLemmas.Listed.{listed_all, settled_by_listed}
use Rattle.life_growth.proofs.MeetingLemmas.Meeting.{all_by, all_tells, never_by_search, search_by_never}
use Rattle.life_growth.proofs.MeetingLemmas.Reach.{mapped}

-- wherever A is, one of the things is
abbrev Covers : List Thing → Thing → Type 0
Covers As A =
    (often : List ℕ) (c : Cell) → contains (set_then A often) c ≡ true →
    (thing : Thing) × Contains As thing × (others : List ℕ) × (time_then thing others ≡ time_then A often) ×
    (contains (set_then thing others) c ≡ true)

covers_one : (A : Thing) → Covers (A ∷ []) A
covers_one A often c h = (A, Contains-head A [], often, refl, h)

covers_once : (n : ℕ) (As : List Thing) (A : Thing) → Covers As A → Covers (map (left_once n) As) (left_once n A)
covers_once n As A covers often c h =
    let q = covers often c h in
    let same : q.0.time + time_of q.0.ways q.2 ≡ A.time + time_of A.ways often = q.3 in
    (left_once n q.0, mapped (left_once n) As q.0 q.1, q.2, omega arith, q.4)

covers_left : (way : Way) (n : ℕ) (As : List Thing) (A : Thing) → Covers As A →
    Covers (map (left_thing way n) As) (left_thing way n A)
covers_left way n As A covers often c h =
    let o = how_often way.period way.displacement A.ways often in
    let by : Cell = multiple_of o.first way.displacement in
    let before : contains (set_then A o.others) (plus c (opposite by)) ≡ true =
    sym (contains-moved (set_then A o.others) by c)
    ∙ ap (λ K. contains K c) (sym (moved_in_turn A.set by (move_of A.ways o.others)))
    ∙ ap (λ m. contains (translate_of A.set m) c) (sym o.moves) ∙ h in
    let q = covers o.others (plus c (opposite by)) before in
    let same : q.0.time + time_of q.0.ways q.2 ≡ A.time + time_of A.ways o.others = q.3 in
    let long : time_of ((way.period, way.displacement) ∷ A.ways) often ≡ o.first * way.period + time_of A.ways o.others =
    o.times in (
      left_thing way n q.0,
      mapped (left_thing way n) As q.0 q.1,
      o.first ∷ q.2,
      omega arith,
      ap (λ K. contains K c) (moved_in_turn q.0.set by (move_of q.0.ways q.2)) ∙ contains-moved (set_then q.0 q.2) by c ∙ q.4,
    )

moves_swap : (A : Generation) (d m : Cell) → translate_of (translate_of A d) m ≡ translate_of (translate_of A m) d
moves_swap A d m = moved-moved A d m ∙ moved_in_turn A d m

covers_later : (way : Way) (As : List Thing) (A : Thing) → Covers As A →
    Covers (map (a_period_later way) As) (a_period_later way A)
covers_later way As A covers often c h =
    let d : Cell = way.displacement in
    let before : contains (set_then A often) (plus c (opposite d)) ≡ true =
    sym (contains-moved (set_then A often) d c)
    ∙ ap (λ K. contains K c) (sym (moves_swap A.set d (move_of A.ways often))) ∙ h in
    let q = covers often (plus c (opposite d)) before in
    let same : q.0.time + time_of q.0.ways q.2 ≡ A.time + time_of A.ways often = q.3 in (
      a_period_later way q.0,
      mapped (a_period_later way) As q.0 q.1,
      q.2,
      omega arith,
      ap (λ K. contains K c) (moves_swap q.0.set d (move_of q.0.ways q.2)) ∙ contains-moved (set_then q.0 q.2) d c ∙ q.4,
    )

never_by_covers : (As Bs : List Thing) (A B : Thing) → Covers As A → Covers Bs B → all_never_meet As Bs ≡ true →
    NeverMeet A B
unfolding all_never_meet
never_by_covers As Bs A B one two h k l e c d in_A in_B =
    let q = one k c in_A in
    let r = two l d in_B in
    never_by_search q.0 r.0
    (all_tells (never_meet q.0) Bs r.0 (all_tells (λ A. list_all (never_meet A) Bs) As q.0 h q.1) r.1)
    q.2 r.2 (q.3 ∙ e ∙ sym r.3) c d q.4 r.4

search_by_all : (As Bs : List Thing) → ((A B : Thing) → Contains As A → Contains Bs B → NeverMeet A B) →
    all_never_meet As Bs ≡ true
unfolding all_never_meet
search_by_all As Bs never =
    all_by (λ A. list_all (never_meet A) Bs) As (λ A in_As.
    all_by (never_meet A) Bs (λ B in_Bs. search_by_never A B (never A B in_As in_Bs)))

module _ (R : Rule) (b : ℕ) (way : Way) (ashes : ℕ → List Generation)
    (fallen : (n : ℕ) → n < way.period → HasFallenApart R b (way.left n) (ashes n)) where
  abbrev p : ℕ
  p = way.period

  abbrev its : ℕ → List Thing
  its n = settled_things R b (way.left n) (ashes n)

  abbrev once : ℕ → List Thing
  once = things_once R b way ashes

  abbrev left : ℕ → List Thing
  left = things_left R b way ashes

  abbrev later : ℕ → List Thing
  later = things_later R b way ashes

  abbrev IsIts : ℕ → Thing → Type 0
  IsIts n it = IsSettledThing R b (way.left n) (ashes n) it

  covers_its : (n : ℕ) (it : Thing) → n < p → IsIts n it → Covers (its n) it
  covers_its n it h is often c there =
      listed_all R b (way.left n) (ashes n) (fallen n h) (time_then it often) c
      ((settled_is_made R b b (way.left n) (ashes n) (fallen n h)).each it is often c there)

  is_its : (n : ℕ) (it : Thing) → n < p → Contains (its n) it → IsIts n it
  is_its n it h of = settled_by_listed R b (way.left n) (ashes n) (fallen n h) it of

  abbrev no_core : ℕ → ℕ → Bool
  no_core n k = all_never_meet (once n) (core_thing way k ∷ [])

  abbrev not_left : ℕ → ℕ → Bool
  not_left k n = all_never_meet (once n) (left k)

  abbrev not_later : ℕ → ℕ → Bool
  not_later n k = all_never_meet (once n) (later k)

  abbrev cores_pass : Bool
  cores_pass = each_below (λ n. each_below (no_core n) p) p

  abbrev lefts_pass : Bool
  lefts_pass = each_below (λ k. each_below (not_left k) k) p

  abbrev later_pass : Bool
  later_pass = each_below (λ n. each_below (not_later n) (suc n)) p

  pub again_by_search : never_meet_again R b way ashes ≡ true → NeverMeetAgain way (lefts_within R b way ashes)
  unfolding never_meet_again
  again_by_search h =
      let first = and_parts cores_pass (lefts_pass && later_pass) h in
      let second = and_parts lefts_pass later_pass first.1 in
      record {
        cores = λ n k it less fewer is.
            never_by_covers (once n) (core_thing way k ∷ []) (left_once n it) (core_thing way k)
            (covers_once n (its n) it (covers_its n it less is)) (covers_one (core_thing way k))
            (each_below_tells (no_core n) p k (each_below_tells (λ n. each_below (no_core n) p) p n first.0 less) fewer);
        later = λ n k it other less fewer is too.
            never_by_covers (once n) (left k) (left_once n it) (left_thing way k other)
            (covers_once n (its n) it (covers_its n it (omega arith) is))
            (covers_left way k (its k) other (covers_its k other fewer too))
            (each_below_tells (not_left k) k n (each_below_tells (λ k. each_below (not_left k) k) p k second.0 fewer) less);
        again = λ n k it other less fewer is too.
            never_by_covers (once n) (later k) (left_once n it) (a_period_later way (left_thing way k other))
            (covers_once n (its n) it (covers_its n it less is))
            (covers_later way (left k) (left_thing way k other)
            (covers_left way k (its k) other (covers_its k other (omega arith) too)))
            (each_below_tells (not_later n) (suc n) k
            (each_below_tells (λ n. each_below (not_later n) (suc n)) p n second.1 less) (omega arith));
      }

  only_core : (k : ℕ) (B : Thing) → Contains (core_thing way k ∷ []) B → core_thing way k ≡ B
  only_core k B one =
      elim (head_or_later (core_thing way k) B [] one.0 one.1 one.2) [
        | inl e ↦ e
        | inr none ↦ let z : none.0 < 0 = none.1 in absurd (omega arith)
      ]

  pub search_by_again : NeverMeetAgain way (lefts_within R b way ashes) → never_meet_again R b way ashes ≡ true
  unfolding never_meet_again
  search_by_again never =
      and_from cores_pass (lefts_pass && later_pass)
      (each_below_by (λ n. each_below (no_core n) p) p (λ n less.
      each_below_by (no_core n) p (λ k fewer.
      search_by_all (once n) (core_thing way k ∷ []) (λ A B in_A in_B.
      let q = of_map (left_once n) (its n) A in_A in
      subst (λ A. NeverMeet A B) q.2
      (subst (NeverMeet (left_once n q.0)) (only_core k B in_B)
      (never.cores n k q.0 less fewer (is_its n q.0 less q.1)))))))
      (and_from lefts_pass later_pass
      (each_below_by (λ k. each_below (not_left k) k) p (λ k fewer.
      each_below_by (not_left k) k (λ n less.
      search_by_all (once n) (left k) (λ A B in_A in_B.
      let q = of_map (left_once n) (its n) A in_A in
      let r = of_map (left_thing way k) (its k) B in_B in
      subst (λ A. NeverMeet A B) q.2
      (subst (NeverMeet (left_once n q.0)) r.2
      (never.later n k q.0 r.0 less fewer (is_its n q.0 (omega arith) q.1) (is_its k r.0 fewer r.1)))))))
      (each_below_by (λ n. each_below (not_later n) (suc n)) p (λ n less.
      each_below_by (not_later n) (suc n) (λ k fewer.
      search_by_all (once n) (later k) (λ A B in_A in_B.
      let q = of_map (left_once n) (its n) A in_A in
      let s = of_map (a_period_later way) (left k) B in_B in
      let r = of_map (left_thing way k) (its k) s.0 s.1 in
      subst (λ A. NeverMeet A B) q.2
      (subst (NeverMeet (left_once n q.0)) (ap (a_period_later way) r.2 ∙ s.2)
      (never.again n k q.0 r.0 less (omega arith) (is_its n q.0 less q.1) (is_its k r.0 (omega arith) r.1))))))))
