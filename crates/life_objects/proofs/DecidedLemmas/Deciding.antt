-- The test of a list of parts is right, and with it what is found of a set.
use Rattle.std.proofs.Common.{◌≡◌, ℕ, ◌≤◌, Bool, true, false, not, ◌&&◌, cond, nat_lt, List, get_or, inl, inr}
use Rattle.std.proofs.Common.{Option, Some, None, sym, ap, subst, ◌∙◌, arith}
use Rattle.std.specs.List.{list_all}
use Rattle.std.proofs.lemmas.Bool.{and_from, cases_Bool, ltb-true, lt-ltb, and_parts}
use Rattle.std.proofs.lemmas.List.Elements.{All-weaker}
use Rattle.std.proofs.lemmas.List.Sums.{AllPass-from_list_all, list_all-from_AllPass}
use Rattle.life_model.specs.Rule.{Rule}
use Rattle.life_model.specs.Generation.{Generation, empty}
use Rattle.life_model.specs.Evolution.{generation}
use Rattle.life_objects.specs.Apart.{AreApartForEver}
use Rattle.life_objects.specs.Ash.{IsAsh, IsObject}
use Rattle.life_objects.specs.Union.{union_of}
use Rattle.life_objects.proofs.Lists.{AllPairs-weaker}
use Rattle.life_objects.specs.Decided.Tests.{each_below, each_pair, same_set}
use Rattle.life_objects.specs.Decided.Classes.{is_undivided}
use Rattle.life_objects.specs.Decided.Parts.{period, stay_apart}
use Rattle.life_objects.specs.Decided.Decided.{ash_of, candidate_parts, is_ash, is_object}
use Rattle.life_objects.proofs.DecidedLemmas.Candidates.{candidates_are_ash}
use Rattle.life_objects.proofs.DecidedLemmas.Passing.{ever_by_test, test_by_ever}
use Rattle.life_objects.proofs.DecidedLemmas.Periods.{period_found, recurs_within}
use Rattle.life_objects.proofs.DecidedLemmas.Tests.{each_pair_by, each_pair_tells}
use Rattle.life_objects.proofs.DecidedLemmas.Tests.{not_true}
use Rattle.life_objects.proofs.DecidedLemmas.Tests.{same_set-is, true_not}
use Rattle.life_objects.proofs.DecidedLemmas.Undivided.{one_piece_by_test, test_by_one_piece}

module _ (R : Rule) (b : ℕ) where
  abbrev stays_whole : Generation → Bool
  stays_whole P = each_below (λ n. is_undivided R b (generation R P n)) b

  abbrev has_period : Generation → Bool
  has_period P = nat_lt 0 (period R b P)

  object_period : (P : Generation) → is_object R b P ≡ true → 1 ≤ period R b P
  object_period P h =
      let parts = and_parts (not (same_set P empty)) (has_period P && stays_whole P) h in
      let more = and_parts (has_period P) (stays_whole P) parts.1 in
      ltb-true 0 (period R b P) more.0

  object_by_test : (P : Generation) → is_object R b P ≡ true → IsObject R b P
  object_by_test P h =
      let parts = and_parts (not (same_set P empty)) (has_period P && stays_whole P) h in
      let more = and_parts (has_period P) (stays_whole P) parts.1 in
      let again = recurs_within R P b (object_period P h) in
      record {
        nonempty = λ none. not_true (same_set P empty) parts.0 ((same_set-is P empty).1 none);
        recurs = again;
        whole = one_piece_by_test R b P again more.1;
      }

  test_by_object : (P : Generation) → IsObject R b P → is_object R b P ≡ true
  test_by_object P object =
      and_from (not (same_set P empty)) (has_period P && stays_whole P)
      (true_not (same_set P empty) (λ e. object.nonempty ((same_set-is P empty).0 e)))
      (and_from (has_period P) (stays_whole P) (lt-ltb 0 (period R b P) (period_found R P b object.recurs))
      (test_by_one_piece R b P object.whole))

  module _ (G : Generation) (parts : List Generation) where
    abbrev of_objects : Bool
    of_objects = list_all (is_object R b) parts

    abbrev which_stay_apart : Bool
    which_stay_apart = each_pair (stay_apart R b) parts

    ash_by_test : is_ash R b G parts ≡ true → IsAsh R b G parts
    unfolding is_ash
    ash_by_test h =
        let first = and_parts (same_set (union_of parts) G) (of_objects && which_stay_apart) h in
        let rest = and_parts of_objects which_stay_apart first.1 in
        let objects = AllPass-from_list_all (is_object R b) parts rest.0 in
        let pairs = each_pair_tells (stay_apart R b) parts rest.1 in
        record {
          together = (same_set-is (union_of parts) G).0 first.0;
          apart = λ i j d l k.
              ever_by_test R b (get_or parts i d) (get_or parts j d)
              (object_period (get_or parts i d) (objects i d (omega arith)))
              (object_period (get_or parts j d) (objects j d k)) (pairs i j d l k);
          objects = All-weaker (λ P. is_object R b P ≡ true) (IsObject R b) object_by_test parts objects;
        }

    test_by_ash : IsAsh R b G parts → is_ash R b G parts ≡ true
    unfolding is_ash
    test_by_ash ash =
        and_from (same_set (union_of parts) G) (of_objects && which_stay_apart)
        ((same_set-is (union_of parts) G).1 ash.together)
        (and_from of_objects which_stay_apart
        (list_all-from_AllPass (is_object R b) parts
        (All-weaker (IsObject R b) (λ P. is_object R b P ≡ true) test_by_object parts ash.objects))
        (each_pair_by (stay_apart R b) parts
        (AllPairs-weaker (AreApartForEver R) (λ P Q. stay_apart R b P Q ≡ true) (test_by_ever R b) parts ash.apart)))

  module _ (G : Generation) where
    abbrev found : Bool → Option (List Generation)
    found t = cond t (Some (candidate_parts R b G)) None

    pub is_found : is_ash R b G (candidate_parts R b G) ≡ true → ash_of R b G ≡ Some (candidate_parts R b G)
    unfolding ash_of
    is_found h = ap found h

    is_not_found : is_ash R b G (candidate_parts R b G) ≡ false → ash_of R b G ≡ None
    unfolding ash_of
    is_not_found h = ap found h

    pub ash_if_found : (parts : List Generation) → ash_of R b G ≡ Some parts → IsAsh R b G parts
    ash_if_found parts e =
        elim (cases_Bool (is_ash R b G (candidate_parts R b G))) [
          | inl passes ↦
              let s : ◌≡◌ {A = Option (List Generation)} (Some (candidate_parts R b G)) (Some parts) =
              sym (is_found passes) ∙ e in
              let same : candidate_parts R b G ≡ parts = cc in
              subst (IsAsh R b G) same (ash_by_test G (candidate_parts R b G) passes)
          | inr fails ↦
              let s : ◌≡◌ {A = Option (List Generation)} None (Some parts) = sym (is_not_found fails) ∙ e in absurd cc
        ]

    -- where it is ash of any parts, it is found
    pub found_if_ash : (parts : List Generation) → IsAsh R b G parts → ash_of R b G ≡ Some (candidate_parts R b G)
    found_if_ash parts ash =
        is_found (test_by_ash G (candidate_parts R b G) (candidates_are_ash R b G parts ash))

    -- where it is ash of none, none is found
    pub none_if_no_ash : ((parts : List Generation) → IsAsh R b G parts → ⊥) → ash_of R b G ≡ None
    none_if_no_ash never =
        elim (cases_Bool (is_ash R b G (candidate_parts R b G))) [
          | inl passes ↦ absurd (never (candidate_parts R b G) (ash_by_test G (candidate_parts R b G) passes))
          | inr fails ↦ is_not_found fails
        ]

    pub no_ash_if_none : (parts : List Generation) → ash_of R b G ≡ None → IsAsh R b G parts → ⊥
    no_ash_if_none parts none ash =
        let s : ◌≡◌ {A = Option (List Generation)} None (Some (candidate_parts R b G)) =
        sym none ∙ found_if_ash parts ash in
        cc
