-- What leaves a track in a step, and whether it ever meets the cores, or what leaves later.
use Rattle.std.proofs.Common.{◌≡◌, ℕ, ◌+◌, ◌<◌, ◌≤◌, List, [], map, length, get_or, inl, inr, sym, ap, subst, ◌∙◌, arith}
use Rattle.std.specs.List.{Contains}
use Rattle.std.proofs.lemmas.Bool.{cases_lt}
use Rattle.life_objects.proofs.DecidedLemmas.Kept.{Contains-map}
use Rattle.life_objects.proofs.Found.{of_map}
use Rattle.life_growth.specs.Engine.{Way}
use Rattle.life_growth.specs.Things.{NeverMeet, NeverMeetAgain, Thing, a_period_later, core_thing, left_once, left_thing, listed}
use Rattle.life_model.specs.Cell.{origin}
use Rattle.life_growing.specs.Settled.Settling.{Settling}
use Rattle.life_growing.specs.Settled.Things.{first_things, placed, things_of}
use Rattle.life_growing.proofs.SettlingLemmas.Listing.{Contains-first, of_first}
use Rattle.life_growing.specs.Emissions.{GoesAway, NoneMeets, things_left}
use Rattle.life_growing.proofs.GoingPlaced.{placed_once, things_at}

-- What leaves in step n never meets what leaves later, in the steps before the m-th.
pub record GoesAwayBefore (way : Way) (lefts : List Settling) (n m : ℕ) : Type 0 where
  pub later : (k : ℕ) (it other : Thing) → n < k → k < m → Contains (things_left lefts n) it →
      Contains (things_left lefts k) other → NeverMeet (left_once n it) (left_thing way k other)
  pub again : (k : ℕ) (it other : Thing) → k ≤ n → k < m → Contains (things_left lefts n) it →
      Contains (things_left lefts k) other → NeverMeet (left_once n it) (a_period_later way (left_thing way k other))

-- the things of what leaves in a step, as they are then
abbrev pub its : List Settling → ℕ → List Thing
its lefts n = map (left_once n) (things_left lefts n)

pub its_placed : (lefts : List Settling) (s : Settling) (n : ℕ) (As items : List Thing) → As ≡ items →
    items ≡ map (placed (n + 1) origin []) (things_of s) → n < length lefts → s ≡ get_or lefts n s → As ≡ its lefts n
its_placed lefts s n As items lent are h is =
    lent ∙ are ∙ ap (map (placed (n + 1) origin [])) (things_at lefts s n h is)
    ∙ placed_once n (n + 1) (omega arith) (things_left lefts n)

module _ (way : Way) (lefts : List Settling) (n : ℕ) where
  pub away_at_first : GoesAwayBefore way lefts n 0
  away_at_first = record {
    later = λ k it other after less. absurd (omega arith);
    again = λ k it other before less. absurd (omega arith);
  }

  module _ (As : List Thing) (are : As ≡ its lefts n) where
    once_among : (it : Thing) → Contains (things_left lefts n) it → Contains As (left_once n it)
    once_among it one =
        subst (λ Xs. Contains Xs (left_once n it)) (sym are) (Contains-map (left_once n) (things_left lefts n) it one)

    of_once : (A : Thing) → Contains As A → (it : Thing) × Contains (things_left lefts n) it × (left_once n it ≡ A)
    of_once A one = of_map (left_once n) (things_left lefts n) A (subst (λ Xs. Contains Xs A) are one)

    module _ (k : ℕ) (Bs : List Thing) (after : n < k → Bs ≡ map (left_thing way k) (things_left lefts k))
        (before : k ≤ n → Bs ≡ map (a_period_later way) (map (left_thing way k) (things_left lefts k))) where
      after_it : n < k → NoneMeets As Bs → (it other : Thing) → Contains (things_left lefts n) it →
          Contains (things_left lefts k) other → NeverMeet (left_once n it) (left_thing way k other)
      after_it less none it other one two =
          none (left_once n it) (left_thing way k other) (once_among it one)
          (subst (λ Xs. Contains Xs (left_thing way k other)) (sym (after less))
          (Contains-map (left_thing way k) (things_left lefts k) other two))

      before_it : k ≤ n → NoneMeets As Bs → (it other : Thing) → Contains (things_left lefts n) it →
          Contains (things_left lefts k) other → NeverMeet (left_once n it) (a_period_later way (left_thing way k other))
      before_it le none it other one two =
          none (left_once n it) (a_period_later way (left_thing way k other)) (once_among it one)
          (subst (λ Xs. Contains Xs (a_period_later way (left_thing way k other))) (sym (before le))
          (Contains-map (a_period_later way) (map (left_thing way k) (things_left lefts k)) (left_thing way k other)
          (Contains-map (left_thing way k) (things_left lefts k) other two)))

      pub away_more : NoneMeets As Bs → GoesAwayBefore way lefts n k → GoesAwayBefore way lefts n (k + 1)
      away_more none so_far = record {
        later = λ j it other late less one two.
            elim (cases_lt j k) [
              | inl earlier ↦ so_far.later j it other late earlier one two
              | inr here ↦
                  let e : k ≡ j = omega arith in
                  subst (λ m. NeverMeet (left_once n it) (left_thing way m other)) e
                  (after_it (omega arith) none it other one (subst (λ m. Contains (things_left lefts m) other) (sym e) two))
            ];
        again = λ j it other late less one two.
            elim (cases_lt j k) [
              | inl earlier ↦ so_far.again j it other late earlier one two
              | inr here ↦
                  let e : k ≡ j = omega arith in
                  subst (λ m. NeverMeet (left_once n it) (a_period_later way (left_thing way m other))) e
                  (before_it (omega arith) none it other one (subst (λ m. Contains (things_left lefts m) other) (sym e) two))
            ];
      }

      pub meets_none_of : GoesAway way lefts n → k < way.period → NoneMeets As Bs
      meets_none_of away inside A B one two =
          let a = of_once A one in
          subst (λ X. NeverMeet X B) a.2
          (elim (cases_lt n k) [
            | inl less ↦
                let b = of_map (left_thing way k) (things_left lefts k) B (subst (λ Xs. Contains Xs B) (after less) two) in
                subst (NeverMeet (left_once n a.0)) b.2 (away.later k a.0 b.0 less inside a.1 b.1)
            | inr le ↦
                let b = of_map (a_period_later way) (map (left_thing way k) (things_left lefts k)) B
                (subst (λ Xs. Contains Xs B) (before le) two) in
                let d = of_map (left_thing way k) (things_left lefts k) b.0 b.1 in
                subst (NeverMeet (left_once n a.0)) b.2
                (subst (λ X. NeverMeet (left_once n a.0) (a_period_later way X)) d.2 (away.again k a.0 d.0 le a.1 d.1))
          ])

    module _ (Cs : List Thing) (cores : Cs ≡ first_things (core_thing way) way.period) where
      pub meets_no_core : GoesAway way lefts n → NoneMeets As Cs
      meets_no_core away A C one two =
          let a = of_once A one in
          let b = of_first (core_thing way) way.period C (subst (λ Xs. Contains Xs C) cores two) in
          subst (λ X. NeverMeet X C) a.2 (subst (NeverMeet (left_once n a.0)) (sym b.2) (away.cores b.0 a.0 b.1 a.1))

      pub goes : n < way.period → (m : ℕ) → m ≡ way.period → NoneMeets As Cs → GoesAwayBefore way lefts n m →
          GoesAway way lefts n
      goes early m all none away = record {
        cores = λ k it inside one.
            none (left_once n it) (core_thing way k) (once_among it one)
            (subst (λ Xs. Contains Xs (core_thing way k)) (sym cores) (Contains-first (core_thing way) way.period k inside));
        later = λ k it other late inside one two. away.later k it other late (omega arith) one two;
        again = λ k it other late one two. away.again k it other late (omega arith) one two;
      }

-- each goes away exactly if none ever meets the others again
module _ (way : Way) (lefts : List Settling) where
  pub never_meet_again : ((n : ℕ) → n < way.period → GoesAway way lefts n) →
      NeverMeetAgain way (listed (things_left lefts))
  never_meet_again each = record {
    cores = λ n k it inside within one. (each n inside).cores k it within one;
    later = λ n k it other less inside one two. (each n (omega arith)).later k it other less inside one two;
    again = λ n k it other inside le one two. (each n inside).again k it other le one two;
  }

  pub each_goes_away : NeverMeetAgain way (listed (things_left lefts)) → (n : ℕ) → n < way.period → GoesAway way lefts n
  each_goes_away never n inside = record {
    cores = λ k it within one. never.cores n k it inside within one;
    later = λ k it other less within one two. never.later n k it other less within one two;
    again = λ k it other le one two. never.again n k it other inside le one two;
  }

  pub one_more_goes : (n : ℕ) → ((k : ℕ) → k < n → GoesAway way lefts k) → GoesAway way lefts n →
      (k : ℕ) → k < n + 1 → GoesAway way lefts k
  one_more_goes n before here k h =
      elim (cases_lt k n) [
        | inl earlier ↦ before k earlier
        | inr last ↦ subst (GoesAway way lefts) (let e : n ≡ k = omega arith in e) here
      ]
