-- How many sets that share no cell there are in a field.
use Rattle.std.proofs.Common.{◌≡◌, ◌≢◌, ℕ, ◌+◌, ◌≤◌, ◌^◌, inl, inr, true, true≢false, false, List, [], ◌∷◌, length, sym, ap, ◌∙◌, arith}
use Rattle.std.specs.List.{All, AllPairs}
use Rattle.std.proofs.lemmas.Bool.{false_from_ne_true, or_cases}
use Rattle.std.proofs.lemmas.List.Elements.{All-contains, All-head, All-tail}
use Rattle.life_cells.specs.Limits.{IsWithin, age_limit}
use Rattle.life_cells.proofs.Sizes.{few_cells}
use Rattle.life_model.specs.Cell.{Cell, same_cell}
use Rattle.life_model.specs.Generation.{Generation, contains, empty, insert, size}
use Rattle.life_model.proofs.Cells.{same_cell-is}
use Rattle.life_model.proofs.Generations.{contains-empty, contains-insert, size-empty, size-insert}
use Rattle.life_model.proofs.Moves.{nothing_or_some}
use Rattle.life_objects.specs.Apart.{AreDisjoint}
use Rattle.life_objects.specs.Union.{union_of}
use Rattle.life_objects.proofs.Lists.{AllPairs-head, AllPairs-tail}
use Rattle.life_objects.proofs.Unions.{in_first, in_second}
use Rattle.life_objects.proofs.Found.{owner}

-- a cell of each set
record Chosen (sets : List Generation) : Type 0 where
  ones : Generation
  many : size ones ≡ length sets
  within : (c : Cell) → contains ones c ≡ true → contains (union_of sets) c ≡ true

-- with a cell of one set more, which shares no cell with the others
choose : (P : Generation) (Ps : List Generation) → All (AreDisjoint P) Ps → (one : Cell) → contains P one ≡ true → Chosen Ps → Chosen (P ∷ Ps)
choose P Ps apart one is rest =
    let new : contains rest.ones one ≡ false =
    false_from_ne_true (contains rest.ones one) (λ has.
    let other = owner Ps one (rest.within one has) in
    All-contains (AreDisjoint P) Ps other.0 apart other.1 one is other.2) in
    let more : size (insert rest.ones one) ≡ size rest.ones + 1 = size-insert rest.ones one new in
    let before : size rest.ones ≡ length Ps = rest.many in
    record {
      ones = insert rest.ones one;
      many = omega arith;
      within = λ c has.
          elim (or_cases (same_cell c one) _ (sym (contains-insert rest.ones one c) ∙ has)) [
            | inl same ↦ in_first P (union_of Ps) c (ap (contains P) ((same_cell-is c one).0 same) ∙ is)
            | inr later ↦ in_second P (union_of Ps) c (rest.within c later)
          ];
    }

chosen : (sets : List Generation) → All (λ P. P ≢ empty) sets → AllPairs AreDisjoint sets → Chosen sets
chosen [] some apart = record { ones = empty; many = size-empty; within = λ c has. absurd (true≢false (sym has ∙ contains-empty c)) }
chosen (P ∷ Ps) some apart =
    let rest = chosen Ps (All-tail (λ Q. Q ≢ empty) P Ps some) (AllPairs-tail AreDisjoint P Ps apart) in
    elim (nothing_or_some P) [
      | inl none ↦ absurd (All-head (λ Q. Q ≢ empty) P Ps some none)
      | inr one ↦ choose P Ps (AllPairs-head AreDisjoint P Ps apart) one.0 one.1 rest
    ]

-- each set has a cell, and no cell is in two sets
pub few_sets : (sets : List Generation) → All (λ P. P ≢ empty) sets → AllPairs AreDisjoint sets → (age : ℕ) → age ≤ age_limit
    → ((q : Cell) → contains (union_of sets) q ≡ true → IsWithin age q) → length sets ≤ 2 ^ 48
few_sets sets some apart age young each =
    let of = chosen sets some apart in
    let few : size of.ones ≤ 2 ^ 48 = few_cells of.ones age young (λ q h. each q (of.within q h)) in
    let many : size of.ones ≡ length sets = of.many in
    omega arith
