-- What objects count as, whatever their order, and whether sets recur.
use Rattle.std.proofs.Common.{◌≡◌, ℕ, Bool, true, nat_lt, List, [], ◌∷◌, ◌++◌, map, flat_map, refl, sym, ap, ◌∙◌}
use Rattle.std.specs.List.{All}
use Rattle.std.specs.List.Sorted.{IsPermutation}
use Rattle.std.proofs.lemmas.Bool.{ltb-true, lt-ltb}
use Rattle.std.proofs.lemmas.List.{map-append}
use Rattle.std.proofs.lemmas.List.Elements.{All-weaker}
use Rattle.std.proofs.lemmas.List.Sums.{AllPass-from_list_all, list_all-from_AllPass}
use Rattle.life_model.specs.Rule.{Rule}
use Rattle.life_model.specs.Generation.{Generation}
use Rattle.life_objects.specs.Ash.{RecursWithin}
use Rattle.life_objects.specs.Decided.Parts.{period}
use Rattle.life_objects.proofs.DecidedLemmas.Periods.{period_found, recurs_within}
use Rattle.life_answer.specs.Census.{counted_parts, part_code}
use Rattle.life_answer.specs.Counted.{all_come_again, code_bound, counted_as, counted_of}
use Rattle.life_answer.specs.Parts.{counted_codes}
use Rattle.life_answer.proofs.Tallying.{all_codes_in_any_order}

-- ---- whether each of some sets recurs within a bound

module _ (R : Rule) (b : ℕ) where
  abbrev comes_again : Generation → Bool
  comes_again Q = nat_lt 0 (period R b Q)

  pub come_again_by : (Qs : List Generation) → All (RecursWithin R b) Qs → all_come_again R b Qs ≡ true
  come_again_by Qs all =
      list_all-from_AllPass comes_again Qs
      (All-weaker (RecursWithin R b) (λ Q. comes_again Q ≡ true)
      (λ Q again. lt-ltb 0 (period R b Q) (period_found R Q b again)) Qs all)

  pub come_again_tells : (Qs : List Generation) → all_come_again R b Qs ≡ true → All (RecursWithin R b) Qs
  come_again_tells Qs h =
      All-weaker (λ Q. comes_again Q ≡ true) (RecursWithin R b)
      (λ Q passes. recurs_within R Q b (ltb-true 0 (period R b Q) passes)) Qs (AllPass-from_list_all comes_again Qs h)

-- ---- the codes of what objects count as

pub map-flat_map : {A B C : Type 0} (f : B → C) (g : A → List B) (xs : List A) →
    map f (flat_map g xs) ≡ flat_map (λ x. map f (g x)) xs
map-flat_map f g [] = refl
map-flat_map f g (x ∷ xs) = map-append f (g x) (flat_map g xs) ∙ ap (λ ys. map f (g x) ++ ys) (map-flat_map f g xs)

-- the codes of what an object counts as
abbrev pub codes_as : Bool → Rule → ℕ → Generation → List (List ℕ)
codes_as near R b P = map (part_code R (code_bound b)) (counted_as near R b P)

module _ (near : Bool) (R : Rule) (b : ℕ) where
  -- the codes of what several objects count as
  pub codes_of_each : (Ps : List Generation) →
      map (part_code R (code_bound b)) (counted_of near R b Ps) ≡ flat_map (codes_as near R b) Ps
  codes_of_each Ps = map-flat_map (part_code R (code_bound b)) (counted_as near R b) Ps

  pub counted_in_any_order : (Ps Qs : List Generation) → IsPermutation Ps Qs →
      counted_parts near R b Ps ≡ counted_parts near R b Qs
  counted_in_any_order Ps Qs order =
      ap counted_codes (codes_of_each Ps)
      ∙ all_codes_in_any_order (codes_as near R b) Ps Qs order
      ∙ ap counted_codes (sym (codes_of_each Qs))
