-- The listed things are all things.
use Rattle.std.proofs.Common.{◌≡◌, ℕ, zero, suc, ◌+◌, ◌-◌, ◌*◌, ◌%◌, ◌/◌, ◌<◌, true, List, [], ◌∷◌, map, flat_map, inl, inr, sym, ap, subst, ◌∙◌, mod-lt, div-add-mod', arith}
use Rattle.std.specs.List.{Contains}
use Rattle.std.proofs.lemmas.Bool.{cases_lt}
use Rattle.std.proofs.lemmas.List.Elements.{Contains-append_cases, Contains-append_left, Contains-append_right}
use Rattle.life_model.specs.Cell.{Cell}
use Rattle.life_model.specs.Rule.{Rule}
use Rattle.life_model.specs.Generation.{Generation, contains}
use Rattle.life_model.specs.Evolution.{generation}
use Rattle.life_model.specs.Recurrence.{RecursBy}
use Rattle.life_model.proofs.Moves.{moved-origin, moved-plus_origin}
use Rattle.life_model.proofs.Recurrences.{generation-add}
use Rattle.life_objects.specs.Ash.{HasFallenApart}
use Rattle.life_objects.specs.Drift.{multiple_of}
use Rattle.life_objects.specs.Union.{generations, union_of}
use Rattle.life_objects.proofs.Ashes.{object_of}
use Rattle.life_objects.proofs.Lists.{Contains-head, Contains-later, head_or_later}
use Rattle.life_objects.proofs.Many.{list_ever}
use Rattle.life_objects.proofs.Members.{found_in}
use Rattle.life_objects.proofs.Moving.{generation-wrapped}
use Rattle.life_objects.specs.Decided.Parts.{corner_offset, period}
use Rattle.life_objects.proofs.DecidedLemmas.Periods.{period_found, recurs}
use Rattle.life_objects.proofs.Found.{Contains-flat_map, of_flat_map, of_map}
use Rattle.life_growth.specs.Things.{IsMadeOf, IsSettledThing, Thing, set_then, time_then}
use Rattle.life_growth.proofs.Things.{settled_is_made}
use Rattle.life_growth.specs.Meeting.Listed.{first_thing, numbers_below, part_thing, settled_things}
use Rattle.life_growth.proofs.MeetingLemmas.Reach.{mapped}

pub listed_below : (n m : ℕ) → m < n → Contains (numbers_below n) m
listed_below zero m h = absurd (omega arith)
listed_below (suc n) m h =
    elim (cases_lt m n) [
      | inl less ↦ Contains-later n m (numbers_below n) (listed_below n m less)
      | inr last ↦
          subst (Contains (n ∷ numbers_below n)) (let z : n ≡ m = omega arith in z) (Contains-head n (numbers_below n))
    ]

pub of_below : (n m : ℕ) → Contains (numbers_below n) m → m < n
of_below zero m one = let none : one.0 < 0 = one.1 in absurd (omega arith)
of_below (suc n) m one =
    elim (head_or_later n m (numbers_below n) one.0 one.1 one.2) [
      | inl e ↦ let z : n ≡ m = e in omega arith
      | inr later ↦ let z = of_below n m later in omega arith
    ]

module _ (R : Rule) (b : ℕ) (P : Generation) (parts : List Generation) where
  abbrev things_of : Generation → List Thing
  things_of part = map (part_thing R b part) (numbers_below (period R b part))

  pub settled_by_listed : HasFallenApart R b P parts → (thing : Thing) → Contains (settled_things R b P parts) thing →
      IsSettledThing R b P parts thing
  unfolding settled_things
  settled_by_listed fallen thing one =
      elim (Contains-append_cases (map (first_thing R P) (numbers_below b)) (flat_map things_of parts) thing one) [
        | inl early ↦
            let q = of_map (first_thing R P) (numbers_below b) thing early in
            inl (q.0, of_below b q.0 q.1, sym q.2)
        | inr later ↦
            let q = of_flat_map things_of parts thing later in
            let r = of_map (part_thing R b q.0) (numbers_below (period R b q.0)) thing q.2 in
            let object = object_of R b (generation R P b) parts fallen q.0 q.1 in
            inr (
              q.0,
              q.1,
              period R b q.0,
              corner_offset R q.0 (period R b q.0),
              r.0,
              recurs R q.0 b (period_found R q.0 b object.recurs),
              of_below (period R b q.0) r.0 r.1,
              sym r.2,
            )
      ]

  listed_early : (m : ℕ) → m < b → Contains (settled_things R b P parts) (first_thing R P m)
  unfolding settled_things
  listed_early m h =
      Contains-append_left (map (first_thing R P) (numbers_below b)) (flat_map things_of parts) (first_thing R P m)
      (mapped (first_thing R P) (numbers_below b) m (listed_below b m h))

  listed_part : (part : Generation) (m : ℕ) → Contains parts part → m < period R b part →
      Contains (settled_things R b P parts) (part_thing R b part m)
  unfolding settled_things
  listed_part part m of h =
      Contains-append_right (map (first_thing R P) (numbers_below b)) (flat_map things_of parts) (part_thing R b part m)
      (Contains-flat_map things_of parts part (part_thing R b part m) of
      (mapped (part_thing R b part) (numbers_below (period R b part)) m (listed_below (period R b part) m h)))

  pub listed_all : HasFallenApart R b P parts → (t : ℕ) (c : Cell) → contains (generation R P t) c ≡ true →
      (thing : Thing) × Contains (settled_things R b P parts) thing × (often : List ℕ) × (time_then thing often ≡ t) ×
      (contains (set_then thing often) c ≡ true)
  listed_all fallen t c h =
      elim (cases_lt t b) [
        | inl early ↦ (
          first_thing R P t,
          listed_early t early,
          [],
          omega arith,
          ap (λ K. contains K c) (moved-origin (generation R P t)) ∙ h,
        )
        | inr not_early ↦
            let m : ℕ = t - b in
            let there : contains (union_of (generations R parts m)) c ≡ true =
            ap (λ K. contains K c) (sym (list_ever R m parts fallen.apart)
            ∙ ap (λ K. generation R K m) fallen.together ∙ generation-add R P b m
            ∙ ap (generation R P) (let z : b + m ≡ t = omega arith in z)) ∙ h in
            let Q = found_in R m parts c there in
            let q : ℕ = period R b Q.0 in
            let e : Cell = corner_offset R Q.0 q in
            let again : RecursBy R Q.0 q e =
            recurs R Q.0 b (period_found R Q.0 b (object_of R b (generation R P b) parts fallen Q.0 Q.1).recurs) in
            let whole : (m / q) * q + m % q ≡ m = div-add-mod' m q in (
              part_thing R b Q.0 (m % q),
              listed_part Q.0 (m % q) Q.1 (mod-lt m again.later),
              m / q ∷ [],
              omega arith,
              ap (λ K. contains K c) (moved-plus_origin (generation R Q.0 (m % q)) (multiple_of (m / q) e)
                  ∙ sym (generation-wrapped R Q.0 q e again m)) ∙ Q.2,
            )
      ]

  pub settled_is_listed : HasFallenApart R b P parts → IsMadeOf R P (Contains (settled_things R b P parts))
  settled_is_listed fallen =
      record {
        each = λ thing one. (settled_is_made R b b P parts fallen).each thing (settled_by_listed fallen thing one);
        all = listed_all fallen;
      }
