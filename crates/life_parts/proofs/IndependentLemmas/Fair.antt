-- What the test of fairness says about sets.
use Rattle.std.proofs.Common.{◌≡◌, ℕ, ◌≤◌, Bool, true, false, cond, List, count_by, get_or, inl, inr, sym, ap, ◌∙◌, eqb-true, eq-eqb, arith}
use Rattle.std.specs.List.{AllPairs, Contains}
use Rattle.std.proofs.lemmas.Bool.{both_ways, cases_Bool, cases_lt, true_from_ne_false}
use Rattle.std.proofs.lemmas.List.Elements.{Contains-get_or}
use Rattle.life_model.specs.Cell.{Cell}
use Rattle.life_model.specs.Rule.{Rule}
use Rattle.life_model.specs.Generation.{Generation, contains}
use Rattle.life_model.specs.Evolution.{next}
use Rattle.life_model.proofs.Near.{next_near}
use Rattle.life_objects.specs.Apart.{AreDisjoint}
use Rattle.life_parts.specs.Independent.Held.{is_fair}
use Rattle.life_objects.proofs.Counting.{count-some, few_counted, one_counted, some_counted}

-- Of the sets, each alone, one makes a cell at x where G makes one, and none does elsewhere.
pub record IsFairOf (R : Rule) (G : Generation) (Hs : List Generation) (x : Cell) : Type 0 where
  pub borne : contains (next R G) x ≡ true → (H : Generation) × Contains Hs H × (contains (next R H) x ≡ true)
  pub born : (H : Generation) → Contains Hs H → contains (next R H) x ≡ true → contains (next R G) x ≡ true
  pub one : (A B : Generation) → Contains Hs A → Contains Hs B → contains (next R A) x ≡ true →
      contains (next R B) x ≡ true → A ≡ B

module _ (R : Rule) (G : Generation) (Hs : List Generation) (x : Cell) where
  abbrev makes : Generation → Bool
  makes H = contains (next R H) x

  abbrev wanted : Bool → ℕ
  wanted b = cond b 1 0

  few_wanted : (b : Bool) → wanted b ≤ 1
  few_wanted true = omega arith
  few_wanted false = omega arith

  pub fair_by_test : is_fair R G Hs x ≡ true → IsFairOf R G Hs x
  unfolding is_fair
  fair_by_test h =
      let e : count_by makes Hs ≡ wanted (makes G) = eqb-true (count_by makes Hs) (wanted (makes G)) h in
      let few = few_wanted (makes G) in
      record {
        borne = λ there.
            let f : wanted (makes G) ≡ 1 = ap wanted there in
            some_counted makes Hs (omega arith);
        born = λ H one there. true_from_ne_false (makes G) (λ fails.
            let f : wanted (makes G) ≡ 0 = ap wanted fails in
            let m = count-some makes Hs H one there in
            absurd (omega arith));
        one = one_counted makes Hs (omega arith);
      }

  module _ (once : AllPairs AreDisjoint Hs) (fair : IsFairOf R G Hs x) where
    no_two : AllPairs (λ A B. makes A ≡ true → makes B ≡ true → ⊥) Hs
    no_two i j d less within h k =
        let A = get_or Hs i d in
        let B = get_or Hs j d in
        let same : A ≡ B = fair.one A B (Contains-get_or Hs i d (omega arith)) (Contains-get_or Hs j d within) h k in
        let c = next_near R A x h in
        once i j d less within c.0 c.1 (ap (λ H. contains H c.0) (sym same) ∙ c.1)

    as_many : count_by makes Hs ≡ wanted (makes G)
    as_many =
        elim (cases_Bool (makes G)) [
          | inl there ↦
              let f : wanted (makes G) ≡ 1 = ap wanted there in
              let few = few_counted makes Hs no_two in
              let one = fair.borne there in
              let some = count-some makes Hs one.0 one.1 one.2 in
              omega arith
          | inr nothing ↦
              let f : wanted (makes G) ≡ 0 = ap wanted nothing in
              elim (cases_lt 0 (count_by makes Hs)) [
                | inl some ↦
                    let one = some_counted makes Hs (omega arith) in
                    absurd (both_ways (makes G) nothing (fair.born one.0 one.1 one.2))
                | inr not_some ↦ omega arith
              ]
        ]

    pub test_by_fair : is_fair R G Hs x ≡ true
    unfolding is_fair
    test_by_fair = eq-eqb (count_by makes Hs) (wanted (makes G)) as_many
