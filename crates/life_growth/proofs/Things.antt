-- Which things in space and time make up a growth, and how these determine what stays apart for ever.
use Rattle.std.proofs.Common.{◌≡◌, ℕ, zero, suc, ◌+◌, ◌-◌, ◌*◌, ◌%◌, ◌/◌, ◌<◌, ◌≤◌, true, List, [], ◌∷◌, inl, inr, sym, refl, ap, subst, ◌∙◌, mod-lt, div-add-mod', arith}
use Rattle.std.specs.List.{Contains}
use Rattle.std.proofs.lemmas.Bool.{cases_lt}
use Rattle.std.proofs.lemmas.Int.{ints}
use Rattle.life_model.specs.Cell.{Cell, opposite, origin, plus}
use Rattle.life_model.specs.Rule.{Rule}
use Rattle.life_model.specs.Generation.{Generation, contains}
use Rattle.life_model.specs.Evolution.{generation, next}
use Rattle.life_model.specs.Recurrence.{RecursBy}
use Rattle.life_model.specs.Symmetry.{translate_of}
use Rattle.life_model.proofs.Cells.{pair}
use Rattle.life_model.proofs.Moves.{moved-moved, moved-origin, moved-plus_origin}
use Rattle.life_model.proofs.Recurrences.{generation-add}
use Rattle.life_model.proofs.Symmetries.{contains-moved, generation-moved}
use Rattle.life_objects.specs.Apart.{AreApart, AreApartForEver}
use Rattle.life_objects.specs.Ash.{HasFallenApart, IsAsh}
use Rattle.life_objects.specs.Drift.{multiple_of}
use Rattle.life_objects.specs.Union.{IsSubsetOf, generations, union, union_of}
use Rattle.life_objects.proofs.Unions.{in_union}
use Rattle.life_objects.proofs.Ashes.{object_of}
use Rattle.life_objects.proofs.Members.{found_in, found_now}
use Rattle.life_objects.proofs.Many.{list_ever}
use Rattle.life_objects.proofs.Moving.{AreApart-moved, generation-wrapped, rounds_later}
use Rattle.life_objects.proofs.Recurring.{moved_back}
use Rattle.life_objects.proofs.OneList.{in_whole}
use Rattle.life_objects.proofs.Distances.{AreNear-swap}
use Rattle.life_growth.specs.Engine.{IsEngine, Way}
use Rattle.life_growth.specs.Onward.{LeavesCores, LeavesLefts, endless}
use Rattle.life_growth.proofs.Endless.{at_product, goes_on}
use Rattle.life_growth.proofs.Pieces.{core_in, cores_then, left_in, lefts_then, made_of_pieces, olds, olds-are, starts}
use Rattle.life_growth.specs.Things.{AreThingsOfLefts, IsEngineThing, IsMadeOf, IsSettledThing, NeverMeet, NeverMeetAgain, Thing, a_period_later, core_thing, left_once, left_thing, lefts_within, move_of, set_then, time_of, time_then}

module _ (R : Rule) where
  -- ---- what falls apart

  module _ (a b : ℕ) (P : Generation) (parts : List Generation) (ash : IsAsh R b (generation R P a) parts) where
    abbrev H : Generation
    H = generation R P a

    abbrev IsIts : Thing → Type 0
    IsIts = IsSettledThing R a P parts

    early_within : (m : ℕ) (often : List ℕ) →
        IsSubsetOf (translate_of (generation R P m) origin) (generation R P (m + 0))
    early_within m often c h =
        ap (λ K. contains K c) (ap (generation R P) (let e : m + 0 ≡ m = omega arith in e)
        ∙ sym (moved-origin (generation R P m))) ∙ h

    -- a phase of a part, moved k times, is in the generation of that time
    part_within_then : (part : Generation) → Contains parts part → (q : ℕ) (e : Cell) (m : ℕ) → RecursBy R part q e →
        (k : ℕ) → IsSubsetOf (translate_of (generation R part m) (multiple_of k e)) (generation R P ((a + m) + k * q))
    part_within_then part one q e m again k c h =
        let later : generation R part (k * q + m) ≡ translate_of (generation R part m) (multiple_of k e) =
        rounds_later R part q e again k m in
        ap (λ K. contains K c) (ap (generation R P) (let z : (a + m) + k * q ≡ a + (k * q + m) = omega arith in z)
        ∙ sym (generation-add R P a (k * q + m)))
        ∙ in_whole R b H parts ash part one (k * q + m) c (ap (λ K. contains K c) later ∙ h)

    part_often : (part : Generation) → Contains parts part → (q : ℕ) (e : Cell) (m : ℕ) → RecursBy R part q e →
        (often : List ℕ) →
        IsSubsetOf (translate_of (generation R part m) (move_of ((q, e) ∷ []) often))
        (generation R P ((a + m) + time_of ((q, e) ∷ []) often))
    part_often part one q e m again [] c h =
        ap (λ K. contains K c) (ap (generation R P) (let z : (a + m) + 0 ≡ (a + m) + 0 * q = omega arith in z))
        ∙ part_within_then part one q e m again 0 c h
    part_often part one q e m again (k ∷ often) c h =
        ap (λ K. contains K c) (ap (generation R P) (let z : (a + m) + (k * q + 0) ≡ (a + m) + k * q = omega arith in z))
        ∙ part_within_then part one q e m again k c
        (ap (λ K. contains K c) (sym (moved-plus_origin (generation R part m) (multiple_of k e))) ∙ h)

    settled_each : (thing : Thing) → IsIts thing → (often : List ℕ) →
        IsSubsetOf (set_then thing often) (generation R P (time_then thing often))
    settled_each thing it often =
        elim it [
          | inl x ↦
              subst (λ (X : Thing). IsSubsetOf (set_then X often) (generation R P (time_then X often))) (sym x.2)
              (early_within x.0 often)
          | inr y ↦
              subst (λ (X : Thing). IsSubsetOf (set_then X often) (generation R P (time_then X often))) (sym y.7)
              (part_often y.0 y.1 y.2 y.3 y.4 y.5 often)
        ]

    settled_all : (t : ℕ) (c : Cell) → contains (generation R P t) c ≡ true →
        (thing : Thing) × IsIts thing × (often : List ℕ) × (time_then thing often ≡ t) ×
        (contains (set_then thing often) c ≡ true)
    settled_all t c h =
        elim (cases_lt t a) [
          | inl early ↦ (
            record { time = t; set = generation R P t; ways = [] },
            inl (t, early, refl),
            [],
            omega arith,
            ap (λ K. contains K c) (moved-origin (generation R P t)) ∙ h,
          )
          | inr not_early ↦
              let m : ℕ = t - a in
              let there : contains (union_of (generations R parts m)) c ≡ true =
              ap (λ K. contains K c) (sym (list_ever R m parts ash.apart)
              ∙ ap (λ K. generation R K m) ash.together ∙ generation-add R P a m
              ∙ ap (generation R P) (let z : a + m ≡ t = omega arith in z)) ∙ h in
              let Q = found_in R m parts c there in
              let again = (object_of R b H parts ash Q.0 Q.1).recurs in
              let q : ℕ = again.steps in
              let e : (m / q) * q + m % q ≡ m = div-add-mod' m q in (
                record { time = a + m % q; set = generation R Q.0 (m % q); ways = (q, again.by) ∷ [] },
                inr (Q.0, Q.1, q, again.by, m % q, again.recurs, mod-lt m again.recurs.later, refl),
                m / q ∷ [],
                omega arith,
                ap (λ K. contains K c) (moved-plus_origin (generation R Q.0 (m % q)) (multiple_of (m / q) again.by)
                    ∙ sym (generation-wrapped R Q.0 q again.by again.recurs m)) ∙ Q.2,
              )
        ]

    pub settled_is_made : IsMadeOf R P IsIts
    settled_is_made = record { each = settled_each; all = settled_all }

  pub lefts_are_made : (b : ℕ) (way : Way) (ashes : ℕ → List Generation) →
      ((n : ℕ) → n < way.period → HasFallenApart R b (way.left n) (ashes n)) →
      AreThingsOfLefts R way (lefts_within R b way ashes)
  lefts_are_made b way ashes fallen n h = settled_is_made b b (way.left n) (ashes n) (fallen n h)

  -- ---- what follows from things

  module _ (P Q : Generation) (IsOne IsOther : Thing → Type 0) (made : IsMadeOf R P IsOne) (other : IsMadeOf R Q IsOther) where
    pub apart_by_things : ((A B : Thing) → IsOne A → IsOther B → NeverMeet A B) → AreApartForEver R P Q
    apart_by_things never t c d h k near =
        let x = made.all t c h in
        let y = other.all t d k in
        never x.0 y.0 x.1 y.1 x.2 y.2 (x.3 ∙ sym y.3) c d x.4 y.4 near

    pub things_by_apart : AreApartForEver R P Q → (A B : Thing) → IsOne A → IsOther B → NeverMeet A B
    things_by_apart far A B one two k l e c d h j near =
        far (time_then A k) c d (made.each A one k c h)
        (subst (λ t. contains (generation R Q t) d ≡ true) (sym e) (other.each B two l d j)) near

-- ---- ways made a number of times

no_time : (ways : List (ℕ × Cell)) → time_of ways [] ≡ 0
no_time [] = refl
no_time (w ∷ ways) = refl

no_move : (ways : List (ℕ × Cell)) → move_of ways [] ≡ origin
no_move [] = refl
no_move (w ∷ ways) = refl

plus-origin : (d : Cell) → d ≡ plus origin d
plus-origin d = pair (omega (arith, ints)) (omega (arith, ints))

pub record IsOften (q : ℕ) (e : Cell) (ways : List (ℕ × Cell)) (often : List ℕ) : Type 0 where
  pub first : ℕ
  pub others : List ℕ
  pub times : time_of ((q, e) ∷ ways) often ≡ first * q + time_of ways others
  pub moves : move_of ((q, e) ∷ ways) often ≡ plus (multiple_of first e) (move_of ways others)

pub how_often : (q : ℕ) (e : Cell) (ways : List (ℕ × Cell)) (often : List ℕ) → IsOften q e ways often
how_often q e ways [] = record {
  first = 0;
  others = [];
  times = let z = no_time ways in omega arith;
  moves = plus-origin origin ∙ ap (plus origin) (sym (no_move ways));
}
how_often q e ways (k ∷ often) = record { first = k; others = often; times = refl; moves = refl }

pub translate_within : (A B : Generation) (e : Cell) → IsSubsetOf A B → IsSubsetOf (translate_of A e) (translate_of B e)
translate_within A B e within c h = contains-moved B e c ∙ within (plus c (opposite e)) (sym (contains-moved A e c) ∙ h)

moved_in_turn : (A : Generation) (d e : Cell) → translate_of A (plus d e) ≡ translate_of (translate_of A e) d
moved_in_turn A d e =
    ap (translate_of A) (let z : plus d e ≡ plus e d = pair (omega (arith, ints)) (omega (arith, ints)) in z)
    ∙ sym (moved-moved A e d)

moved_by_none : (A : Generation) (d : Cell) → translate_of A (plus d origin) ≡ translate_of A d
moved_by_none A d =
    ap (translate_of A) (let z : plus d origin ≡ d = pair (omega (arith, ints)) (omega (arith, ints)) in z)

once_more : (A : Generation) (d m x : Cell) →
    translate_of (translate_of A d) (plus m x) ≡ translate_of A (plus (plus m d) x)
once_more A d m x =
    moved-moved A d (plus m x)
    ∙ ap (translate_of A) (let z : plus d (plus m x) ≡ plus (plus m d) x = pair (omega (arith, ints)) (omega (arith, ints)) in z)

module _ (R : Rule) (way : Way) (later : 1 ≤ way.period) (IsLeft : ℕ → Thing → Type 0)
    (made : AreThingsOfLefts R way IsLeft) where
  abbrev p : ℕ
  p = way.period

  abbrev d : Cell
  d = way.displacement

  abbrev core : ℕ → Generation
  core = (endless way).core

  abbrev left : ℕ → Generation
  left = (endless way).left

  -- ---- where the things of a way are

  core_stands : (n k : ℕ) → n < p → translate_of (way.core n) (multiple_of k d) ≡ core (n + k * p)
  core_stands n k h =
      sym (at_product way later way.core k n (n + k * p) h (omega arith))

  left_stands : (n k m : ℕ) → n < p → translate_of (generation R (way.left n) m) (multiple_of k d) ≡
      generation R (left (n + k * p)) m
  left_stands n k m h =
      sym (generation-moved R (way.left n) (multiple_of k d) m)
      ∙ ap (λ K. generation R K m) (sym (at_product way later way.left k n (n + k * p) h (omega arith)))

  left_wrapped : (n m : ℕ) → generation R (left n) m ≡ translate_of (generation R (way.left (n % p)) m) (multiple_of (n / p) d)
  left_wrapped n m = generation-moved R (way.left (n % p)) (multiple_of (n / p) d) m

  core_thing_then : (n : ℕ) → n < p → (often : List ℕ) →
      (k : ℕ) × (time_then (core_thing way n) often ≡ n + k * p) × (set_then (core_thing way n) often ≡ core (n + k * p))
  core_thing_then n h often =
      let o = how_often p d [] often in
      let times : time_of ((p, d) ∷ []) often ≡ o.first * p + 0 = o.times in (
        o.first,
        omega arith,
        ap (translate_of (way.core n)) o.moves ∙ moved_by_none (way.core n) (multiple_of o.first d)
            ∙ core_stands n o.first h,
      )

  -- a thing of what leaves, its ways made `often` times, is in what has become of what left
  left_thing_then : (n : ℕ) → n < p → (it : Thing) → IsLeft n it → (often : List ℕ) →
      (k : ℕ) × (m : ℕ) × (time_then (left_thing way n it) often ≡ (suc n + k * p) + m)
      × IsSubsetOf (set_then (left_thing way n it) often) (generation R (left (n + k * p)) m)
  left_thing_then n h it is often =
      let o = how_often p d it.ways often in
      let times : time_of ((p, d) ∷ it.ways) often ≡ o.first * p + time_of it.ways o.others = o.times in
      let m : ℕ = time_then it o.others in (
        o.first,
        m,
        omega arith,
        λ c x.
            ap (λ K. contains K c) (sym (left_stands n o.first m h))
            ∙ translate_within (set_then it o.others) (generation R (way.left n) m) (multiple_of o.first d)
            ((made n h).each it is o.others) c
            (ap (λ K. contains K c) (sym (ap (translate_of it.set) o.moves
            ∙ moved_in_turn it.set (multiple_of o.first d) (move_of it.ways o.others))) ∙ x),
      )

  -- what has become of what leaves is among the things
  left_found : (n m : ℕ) (c : Cell) → contains (generation R (left n) m) c ≡ true →
      (it : Thing) × IsLeft (n % p) it × (often : List ℕ) × (time_then it often ≡ m)
      × (contains (set_then (left_thing way (n % p) it) (n / p ∷ often)) c ≡ true)
  left_found n m c h =
      let r : ℕ = n % p in
      let by : Cell = multiple_of (n / p) d in
      let within : r < p = mod-lt n later in
      let back = plus c (opposite by) in
      let found = (made r within).all m back
      (sym (contains-moved (generation R (way.left r) m) by c)
      ∙ ap (λ K. contains K c) (sym (left_wrapped n m)) ∙ h) in (
        found.0,
        found.1,
        found.2,
        found.3,
        ap (λ K. contains K c) (moved_in_turn found.0.set by (move_of found.0.ways found.2))
            ∙ contains-moved (set_then found.0 found.2) by c ∙ found.4,
      )

  -- ---- what leaves never comes near again

  pub leaves_cores_by_things : NeverMeetAgain way IsLeft → LeavesCores R way
  leaves_cores_by_things never n m h c q x y near =
      let at : ℕ = suc (n + m) in
      let found = (made n h).all m q y in
      let e : (at / p) * p + at % p ≡ at = div-add-mod' at p in
      let times : time_then found.0 found.2 ≡ m = found.3 in
      never.cores n (at % p) found.0 h (mod-lt at later) found.1 found.2 (at / p ∷ []) (omega arith) q c found.4
      (ap (λ K. contains K c) (moved_by_none (way.core (at % p)) (multiple_of (at / p) d)) ∙ x) (AreNear-swap c q near)

  -- some periods later, not at once
  again_apart : NeverMeetAgain way IsLeft → (n r times : ℕ) → n < p → r ≤ n → n < r + times * p →
      (it other : Thing) → IsLeft n it → IsLeft r other → (often others : List ℕ) →
      time_then (left_once n it) often ≡ time_then (left_thing way r other) (times ∷ others) →
      AreApart (set_then (left_once n it) often) (set_then (left_thing way r other) (times ∷ others))
  again_apart never n r zero h le past it other is too often others e =
      let none : n < r + 0 * p = past in absurd (omega arith)
  again_apart never n r (suc times) h le past it other is too often others e =
      subst (AreApart (set_then (left_once n it) often))
      (once_more other.set d (multiple_of times d) (move_of other.ways others))
      (never.again n r it other h le is too often (times ∷ others)
      (let same : (suc n + it.time) + time_of it.ways often
      ≡ (suc r + other.time) + (suc times * p + time_of other.ways others) = e in
      let z : (suc n + it.time) + time_of it.ways often
      ≡ ((suc r + other.time) + p) + (times * p + time_of other.ways others) = omega arith in z))

  pub leaves_lefts_by_things : NeverMeetAgain way IsLeft → LeavesLefts R way
  leaves_lefts_by_things never n k m h some c q x y near =
      let at : ℕ = n + k in
      let r : ℕ = at % p in
      let e : (at / p) * p + r ≡ at = div-add-mod' at p in
      let within : r < p = mod-lt at later in
      let one = (made n h).all (k + m) c x in
      let two = left_found at m q y in
      let first : time_then one.0 one.2 ≡ k + m = one.3 in
      let second : time_then two.0 two.2 ≡ m = two.3 in
      let times : time_then (left_once n one.0) one.2 ≡ time_then (left_thing way r two.0) (at / p ∷ two.2) = omega arith in
      elim (cases_lt n r) [
        | inl below ↦
            never.later n r one.0 two.0 below within one.1 two.1 one.2 (at / p ∷ two.2) times c q one.4 two.4 near
        | inr not_below ↦
            again_apart never n r (at / p) h (omega arith) (omega arith) one.0 two.0 one.1 two.1 one.2 two.2 times c q
            one.4 two.4 near
      ]

  left_within : (n : ℕ) → n < p → (it : Thing) → IsLeft n it → (often : List ℕ) →
      IsSubsetOf (set_then (left_once n it) often) (generation R (way.left n) (time_then it often))
  left_within n h it is often = (made n h).each it is often

  later_apart : LeavesLefts R way → (n k : ℕ) (it other : Thing) → n < p → k < p → IsLeft n it → IsLeft k other →
      (often others : List ℕ) (j m : ℕ) (Y : Generation) → n < k + j * p →
      time_then (left_once n it) often ≡ (suc k + j * p) + m → IsSubsetOf Y (generation R (left (k + j * p)) m) →
      AreApart (set_then (left_once n it) often) Y
  later_apart lefts n k it other h l is too often others j m Y past e within c q x y near =
      let gap : ℕ = (k + j * p) - n in
      let same : (suc n + it.time) + time_of it.ways often ≡ (suc k + j * p) + m = e in
      lefts n gap m h (omega arith) c q
      (ap (λ t. contains (generation R (way.left n) t) c)
      (let z : gap + m ≡ it.time + time_of it.ways often = omega arith in z) ∙ left_within n h it is often c x)
      (ap (λ t. contains (generation R (left t) m) q) (let z : n + gap ≡ k + j * p = omega arith in z) ∙ within q y) near

  again_later : LeavesLefts R way → (n k : ℕ) (it other : Thing) → n < p → k ≤ n → IsLeft n it → IsLeft k other →
      (often : List ℕ) (j : ℕ) (others : List ℕ) →
      time_then (left_once n it) often ≡ time_then (left_thing way k other) (suc j ∷ others) →
      AreApart (set_then (left_once n it) often) (set_then (left_thing way k other) (suc j ∷ others))
  again_later lefts n k it other h le is too often j others e =
      let within : k < p = omega arith in
      let m : ℕ = time_then other others in
      let same : (suc n + it.time) + time_of it.ways often
      ≡ (suc k + other.time) + (suc j * p + time_of other.ways others) = e in
      later_apart lefts n k it other h within is too often others (suc j) m
      (set_then (left_thing way k other) (suc j ∷ others)) (omega arith)
      (let z : (suc n + it.time) + time_of it.ways often ≡ (suc k + suc j * p) + m = omega arith in z)
      (λ c x.
      ap (λ K. contains K c) (sym (left_stands k (suc j) m within))
      ∙ translate_within (set_then other others) (generation R (way.left k) m) (multiple_of (suc j) d)
      ((made k within).each other too others) c
      (ap (λ K. contains K c) (sym (moved_in_turn other.set (multiple_of (suc j) d) (move_of other.ways others))) ∙ x))

  pub things_by_leaving : LeavesCores R way → LeavesLefts R way → NeverMeetAgain way IsLeft
  things_by_leaving cores lefts = record {
    cores = λ n k it h l is often others e c q x y near.
        let then = core_thing_then k l others in
        let m : ℕ = time_then it often in
        let same : (suc n + it.time) + time_of it.ways often ≡ time_then (core_thing way k) others = e in
        let times : time_then (core_thing way k) others ≡ k + then.0 * p = then.1 in
        cores n m h q c
        (ap (λ t. contains (core t) q) (let z : suc (n + m) ≡ k + then.0 * p = omega arith in z)
        ∙ ap (λ K. contains K q) (sym then.2) ∙ y)
        (left_within n h it is often c x) (AreNear-swap c q near);
    later = λ n k it other below l is too often others e.
        let then = left_thing_then k l other too others in
        let times : time_then (left_thing way k other) others ≡ (suc k + then.0 * p) + then.1 = then.2 in
        later_apart lefts n k it other (omega arith) l is too often others then.0 then.1
        (set_then (left_thing way k other) others) (omega arith) (e ∙ times) then.3;
    again = λ n k it other h le is too often others e.
        let o = how_often p d other.ways others in
        let times : time_of ((p, d) ∷ other.ways) others ≡ o.first * p + time_of other.ways o.others = o.times in
        let moved : set_then (a_period_later way (left_thing way k other)) others
        ≡ set_then (left_thing way k other) (suc o.first ∷ o.others) =
        ap (translate_of (translate_of other.set d)) o.moves
        ∙ once_more other.set d (multiple_of o.first d) (move_of other.ways o.others) in
        subst (AreApart (set_then (left_once n it) often)) (sym moved)
        (again_later lefts n k it other h le is too often o.first o.others
        (let same : (suc n + it.time) + time_of it.ways often
        ≡ ((suc k + other.time) + p) + time_of ((p, d) ∷ other.ways) others = e in
        let z : (suc n + it.time) + time_of it.ways often
        ≡ (suc k + other.time) + (suc o.first * p + time_of other.ways o.others) = omega arith in z));
  }

-- ---- the things of which an engine is made

module _ (R : Rule) (a : ℕ) (E : Generation) (way : Way) (engine : IsEngine R a E way) (IsLeft : ℕ → Thing → Type 0)
    (made : AreThingsOfLefts R way IsLeft) where
  abbrev period : ℕ
  period = way.period

  abbrev cores : ℕ → Generation
  cores = (endless way).core

  abbrev lefts : ℕ → Generation
  lefts = (endless way).left

  core_inside : (n : ℕ) → IsSubsetOf (cores n) (generation R E n)
  core_inside n c h =
      ap (λ K. contains (generation R K n) c) (sym (starts R a E way engine)) ∙ core_in R a E way engine n c h

  left_inside : (n m : ℕ) → IsSubsetOf (generation R (lefts n) m) (generation R E (suc n + m))
  left_inside n m c h =
      ap (λ K. contains (generation R K (suc n + m)) c) (sym (starts R a E way engine)) ∙ left_in R a E way engine n m c h

  core_thing_inside : (n : ℕ) → n < period → (often : List ℕ) →
      IsSubsetOf (set_then (core_thing way n) often) (generation R E (time_then (core_thing way n) often))
  core_thing_inside n h often c x =
      let then = core_thing_then R way engine.later IsLeft made n h often in
      ap (λ t. contains (generation R E t) c) then.1
      ∙ core_inside (n + then.0 * period) c (ap (λ K. contains K c) (sym then.2) ∙ x)

  left_thing_inside : (n : ℕ) → n < period → (it : Thing) → IsLeft n it →
      (often : List ℕ) →
      IsSubsetOf (set_then (left_thing way n it) often) (generation R E (time_then (left_thing way n it) often))
  left_thing_inside n h it is often c x =
      let then = left_thing_then R way engine.later IsLeft made n h it is often in
      let time : time_then (left_thing way n it) often ≡ (suc n + then.0 * period) + then.1 = then.2 in
      ap (λ t. contains (generation R E t) c)
      (let z : time_then (left_thing way n it) often ≡ suc (n + then.0 * period) + then.1 = omega arith in z)
      ∙ left_inside (n + then.0 * period) then.1 c (then.3 c x)

  engine_each : (thing : Thing) → IsEngineThing way IsLeft thing → (often : List ℕ) →
      IsSubsetOf (set_then thing often) (generation R E (time_then thing often))
  engine_each thing it often =
      elim it [
        | inl x ↦
            subst (λ (y : Thing). IsSubsetOf (set_then y often) (generation R E (time_then y often))) (sym x.2)
            (core_thing_inside x.0 x.1 often)
        | inr x ↦
            subst (λ (y : Thing). IsSubsetOf (set_then y often) (generation R E (time_then y often))) (sym x.4)
            (left_thing_inside x.0 x.1 x.2 x.3 often)
      ]

  abbrev Found : ℕ → Cell → Type 0
  Found t c =
      (thing : Thing) × IsEngineThing way IsLeft thing × (often : List ℕ) × (time_then thing often ≡ t) ×
      (contains (set_then thing often) c ≡ true)

  core_is_found : (t : ℕ) (c : Cell) → contains (cores t) c ≡ true → Found t c
  core_is_found t c h =
      let e : (t / period) * period + t % period ≡ t = div-add-mod' t period in (
        core_thing way (t % period),
        inl (t % period, mod-lt t engine.later, refl),
        t / period ∷ [],
        omega arith,
        ap (λ K. contains K c) (moved_by_none (way.core (t % period)) (multiple_of (t / period) way.displacement)) ∙ h,
      )

  left_is_found : (n m : ℕ) (c : Cell) → contains (generation R (lefts n) m) c ≡ true → Found (suc n + m) c
  left_is_found n m c h =
      let e : (n / period) * period + n % period ≡ n = div-add-mod' n period in
      let it = left_found R way engine.later IsLeft made n m c h in
      let times : time_then it.0 it.2 ≡ m = it.3 in (
        left_thing way (n % period) it.0,
        inr (n % period, mod-lt n engine.later, it.0, it.1, refl),
        n / period ∷ it.2,
        omega arith,
        it.4,
      )

  engine_all : (t : ℕ) (c : Cell) → contains (generation R E t) c ≡ true → Found t c
  engine_all t c h =
      let steps : (n : ℕ) → union (cores (suc n)) (lefts n) ≡ next R (cores n) =
      λ n. ((goes_on R a E way engine).leaves n).together in
      let pieces = made_of_pieces R cores lefts steps (cores_then R a E way engine) (lefts_then R a E way engine) 0 t in
      let there : contains (union (cores (0 + t)) (union_of (olds R cores lefts 0 t))) c ≡ true =
      ap (λ K. contains K c) (sym pieces ∙ ap (λ K. generation R K t) (starts R a E way engine)) ∙ h in
      elim (in_union (cores (0 + t)) (union_of (olds R cores lefts 0 t)) c there) [
        | inl x ↦ core_is_found t c (ap (λ n. contains (cores n) c) (let z : t ≡ 0 + t = omega arith in z) ∙ x)
        | inr y ↦
            let X = found_now R (olds R cores lefts 0 t) c y in
            let old = olds-are R cores lefts 0 t X.0 X.1 in
            let times : suc old.step + old.age ≡ t = old.times in
            subst (λ n. Found n c) times
            (left_is_found old.step old.age c
            (ap (λ n. contains (generation R (lefts n) old.age) c) (let z : old.step ≡ 0 + old.step = omega arith in z)
            ∙ ap (λ K. contains K c) (sym old.same) ∙ X.2))
      ]

  pub engine_is_made : IsMadeOf R E (IsEngineThing way IsLeft)
  engine_is_made = record { each = engine_each; all = engine_all }

-- ---- only how far one has gone beyond the other counts

there_and_back : (P : Generation) (d e : Cell) →
    translate_of (translate_of P e) (opposite d) ≡ translate_of P (plus e (opposite d))
there_and_back P d e = moved-moved P e (opposite d)

apart_by_way : (P Q : Generation) (d e : Cell) → AreApart P (translate_of Q (plus e (opposite d))) →
    AreApart (translate_of P d) (translate_of Q e)
apart_by_way P Q d e far =
    subst (AreApart (translate_of P d))
    (moved-moved Q (plus e (opposite d)) d
    ∙ ap (translate_of Q) (let z : plus (plus e (opposite d)) d ≡ e = pair (omega (arith, ints)) (omega (arith, ints)) in z))
    (AreApart-moved P (translate_of Q (plus e (opposite d))) d far)

way_by_apart : (P Q : Generation) (d e : Cell) → AreApart (translate_of P d) (translate_of Q e) →
    AreApart P (translate_of Q (plus e (opposite d)))
way_by_apart P Q d e far =
    subst (λ H. AreApart H (translate_of Q (plus e (opposite d)))) (moved_back P d)
    (subst (AreApart (translate_of (translate_of P d) (opposite d))) (there_and_back Q d e)
    (AreApart-moved (translate_of P d) (translate_of Q e) (opposite d) far))

module _ (A B : Thing) where
  -- each way made its number of times, by how far the other is beyond the one
  abbrev pub StayApartByWay : Type 0
  StayApartByWay =
      (k l : List ℕ) → time_then A k ≡ time_then B l →
      AreApart A.set (translate_of B.set (plus (move_of B.ways l) (opposite (move_of A.ways k))))

  pub never_meet_by_way : StayApartByWay → NeverMeet A B
  never_meet_by_way far k l e = apart_by_way A.set B.set (move_of A.ways k) (move_of B.ways l) (far k l e)

  pub way_by_never_meet : NeverMeet A B → StayApartByWay
  way_by_never_meet never k l e = way_by_apart A.set B.set (move_of A.ways k) (move_of B.ways l) (never k l e)
