-- Which sets live on.
use Rattle.std.proofs.Common.{◌≡◌, ◌≢◌, ℕ, ◌<◌, ◌≤◌, ◌==◌, Bool, true, false, not, List, [], ◌∷◌, length, get_or, filter}
use Rattle.std.proofs.Common.{inl, inr, refl, sym, ap, ◌∙◌, arith, true≢false}
use Rattle.std.specs.List.{AllPairs, Contains}
use Rattle.std.proofs.lemmas.Bool.{cases_lt}
use Rattle.std.proofs.lemmas.List.Elements.{filter_passes, Contains-get_or}
use Rattle.std.proofs.lemmas.List.Kept.{AllPairs-cons, AllPairs-filter}
use Rattle.life_model.specs.Rule.{Rule}
use Rattle.life_model.specs.Generation.{Generation, cells, empty}
use Rattle.life_model.specs.Evolution.{generation}
use Rattle.life_model.proofs.Generations.{size-cells}
use Rattle.life_cells.proofs.Sorted.{empty_from_cells, cells_of_empty}
use Rattle.life_objects.specs.Union.{generations}
use Rattle.life_objects.proofs.Lists.{AllPairs-nil, AllPairs-map}
use Rattle.life_objects.proofs.Staying.{NotBothLive}
use Rattle.life_objects.proofs.DecidedLemmas.Kept.{Contains-filter, Contains-map}
use Rattle.life_ash.specs.Living.{has_cells}

some_length : {X : Type 0} (xs : List X) → not (length xs == 0) ≡ true → xs ≢ []
some_length xs h e = true≢false (sym h ∙ ap (λ l. not (length l == 0)) e)

no_length : {X : Type 0} (xs : List X) → xs ≢ [] → not (length xs == 0) ≡ true
no_length [] h = absurd (h refl)
no_length (x ∷ xs) h = grind arith

pub some_by_test : (G : Generation) → has_cells G ≡ true → G ≢ empty
some_by_test G h e =
    some_length (cells G) (ap (λ n. not (n == 0)) (sym (size-cells G)) ∙ h) (cells_of_empty G e)

pub test_by_some : (G : Generation) → G ≢ empty → has_cells G ≡ true
test_by_some G h =
    ap (λ n. not (n == 0)) (size-cells G) ∙ no_length (cells G) (λ e. h (empty_from_cells G e))

module _ (R : Rule) (b : ℕ) where
  abbrev pub ends : List Generation → List Generation
  ends Ls = filter has_cells (generations R Ls b)

  some_of : {X : Type 0} (xs : List X) (x : X) → Contains xs x → 1 ≤ length xs
  some_of xs x one = let h : one.0 < length xs = one.1 in omega arith

  pub few_pairs : (Ls : List Generation) → length (ends Ls) ≤ 1 → AllPairs (NotBothLive R b) Ls
  few_pairs [] h = AllPairs-nil (NotBothLive R b)
  few_pairs (L ∷ Ls) h =
      let tail : (t : Bool) → has_cells (generation R L b) ≡ t → length (ends Ls) ≤ 1 = elim [
        | true ↦ λ e. let z : length (generation R L b ∷ ends Ls) ≤ 1 = rw e at h in omega arith
        | false ↦ λ e. rw e at h
      ] in
      AllPairs-cons (NotBothLive R b) L Ls
      (λ k d l live other.
      let z : length (generation R L b ∷ ends Ls) ≤ 1 = rw (test_by_some (generation R L b) live) at h in
      let one = some_of (ends Ls) (generation R (get_or Ls k d) b)
      (Contains-filter has_cells (generations R Ls b) (generation R (get_or Ls k d) b)
      (Contains-map (λ Q. generation R Q b) Ls (get_or Ls k d) (Contains-get_or Ls k d l))
      (test_by_some (generation R (get_or Ls k d) b) other)) in
      omega arith)
      (few_pairs Ls (tail (has_cells (generation R L b)) refl))

  pub pairs_few : (Ls : List Generation) → AllPairs (NotBothLive R b) Ls → length (ends Ls) ≤ 1
  pairs_few Ls pairs =
      elim (cases_lt 1 (length (ends Ls))) [
        | inl two ↦
            let both = AllPairs-filter (λ P Q. P ≢ empty → Q ≢ empty → ⊥) has_cells (generations R Ls b)
            (AllPairs-map (λ P Q. P ≢ empty → Q ≢ empty → ⊥) (λ Q. generation R Q b) Ls pairs) in
            let live = filter_passes has_cells (generations R Ls b) in
            absurd (both 0 1 empty (omega arith) two
            (some_by_test (get_or (ends Ls) 0 empty) (live 0 empty (omega arith)))
            (some_by_test (get_or (ends Ls) 1 empty) (live 1 empty two)))
        | inr few ↦ few
      ]
