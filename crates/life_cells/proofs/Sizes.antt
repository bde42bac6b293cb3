-- How many cells a set can have: no more than a square that holds them all.
use Rattle.std.proofs.Common.{◌≡◌, ◌≢◌, ℕ, suc, ℤ, pos, negsuc, ◌+ℤ◌, ◌*ℤ◌, ◌≤ℤ◌, ◌<◌, ◌≤◌, ◌^◌, inl, inr, true, T, List, [], ◌∷◌, Less, length, ap, arith}
use Rattle.std.specs.Cmp.{tied_itself}
use Rattle.std.specs.List.{AllByRecursion}
use Rattle.std.proofs.lemmas.Int.{ints}
use Rattle.life_model.specs.Cell.{Cell, cell_cmp}
use Rattle.life_model.specs.Generation.{Generation, contains, cells, size, below_all, is_rising}
use Rattle.life_model.proofs.Cells.{cell_cmp_total, later_cell, pair}
use Rattle.life_model.proofs.Generations.{cells-rise, size-cells}
use Rattle.life_model.proofs.Tests.{first_holds, second_holds}
use Rattle.life_cells.specs.Limits.{IsWithin, age_limit}
use Rattle.life_cells.proofs.Members.{all_members}
use Rattle.life_cells.proofs.Sorted.{all_from_below}

-- a place in the reading order of a square that is 16,777,216 wide
abbrev rank : Cell → ℤ
rank c = c.1 *ℤ pos 16777216 +ℤ c.0

differ : (a b : Cell) → cell_cmp a b ≡ Less → a ≢ b
differ a b less same = let tied = tied_itself cell_cmp_total a in let moved = ap (cell_cmp a) same in absurd (cc)

rank_rises : (age : ℕ) (a b : Cell) → age ≤ age_limit → IsWithin age a → IsWithin age b → cell_cmp a b ≡ Less → (rank a +ℤ pos 1) ≤ℤ rank b
rank_rises age a b young in_a in_b less =
    elim (later_cell a b less) [
      | inl down ↦ omega (arith, ints, in_a.left, in_a.right, in_b.left, in_b.right)
      | inr across ↦
          let row : a.1 ≡ b.1 = across.0 in
          let column : a.0 ≤ℤ b.0 = across.1 in
          let other : a.0 ≡ b.0 → ⊥ = λ same. differ a b less (pair same row) in
          omega (arith, ints)
    ]

-- the cells after this one have greater ranks
ranks_rise : (age : ℕ) → age ≤ age_limit → (c : Cell) → IsWithin age c → (cs : List Cell) → AllByRecursion (IsWithin age) cs
    → AllByRecursion (λ d. cell_cmp c d ≡ Less) cs → AllByRecursion (λ d. (rank c +ℤ pos 1) ≤ℤ rank d) cs
ranks_rise age young c here [] within above = tt
ranks_rise age young c here (d ∷ ds) within above =
    (rank_rises age c d young here within.0 above.0, ranks_rise age young c here ds within.1 above.1)

-- no more cells than there are places from the least one on
few_from : (age : ℕ) → age ≤ age_limit → (cs : List Cell) → T (is_rising cs) → AllByRecursion (IsWithin age) cs →
    (low : ℤ) → low ≤ℤ pos 90000000000000 → AllByRecursion (λ d. low ≤ℤ rank d) cs → (low +ℤ pos (length cs)) ≤ℤ pos 90000000000000
few_from age young [] rising within low below least = omega (arith, ints)
few_from age young (c ∷ cs) rising within low below least =
    let here : IsWithin age c = within.0 in
    let under : (rank c +ℤ pos 1) ≤ℤ pos 90000000000000 = omega (arith, ints, here.right, here.below) in
    let above = all_from_below c cs (first_holds (below_all c cs) (is_rising cs) rising) in
    let rest : ((rank c +ℤ pos 1) +ℤ pos (length cs)) ≤ℤ pos 90000000000000 =
    few_from age young cs (second_holds (below_all c cs) (is_rising cs) rising) within.1 (rank c +ℤ pos 1) under
    (ranks_rise age young c here cs within.1 above) in
    one_more low (rank c) (length cs) least.0 rest
  where
    one_more : (low here : ℤ) (n : ℕ) → low ≤ℤ here → ((here +ℤ pos 1) +ℤ pos n) ≤ℤ pos 90000000000000 → (low +ℤ pos (suc n)) ≤ℤ pos 90000000000000
    one_more low here n first rest = omega (arith, ints)

lowest : (age : ℕ) → age ≤ age_limit → (cs : List Cell) → AllByRecursion (IsWithin age) cs → AllByRecursion (λ d. negsuc 80000000000000 ≤ℤ rank d) cs
lowest age young [] within = tt
lowest age young (c ∷ cs) within =
    let here : IsWithin age c = within.0 in
    (omega (arith, ints, here.left, here.above), lowest age young cs within.1)

count_small : (n : ℕ) → (negsuc 80000000000000 +ℤ pos n) ≤ℤ pos 90000000000000 → n ≤ 2 ^ 48
count_small n few = omega (arith, ints)

pub few_cells : (G : Generation) (age : ℕ) → age ≤ age_limit → ((q : Cell) → contains G q ≡ true → IsWithin age q) → size G ≤ 2 ^ 48
few_cells G age young each =
    let within : AllByRecursion (IsWithin age) (cells G) = all_members (IsWithin age) G each in
    let few : (negsuc 80000000000000 +ℤ pos (length (cells G))) ≤ℤ pos 90000000000000 =
    few_from age young (cells G) (cells-rise G) within (negsuc 80000000000000) (omega (arith, ints)) (lowest age young (cells G) within) in
    let is : size G ≡ length (cells G) = size-cells G in
    let small : length (cells G) ≤ 2 ^ 48 = count_small (length (cells G)) few in
    omega arith

pub size_fits : (G : Generation) (age : ℕ) → age ≤ age_limit → ((q : Cell) → contains G q ≡ true → IsWithin age q) → size G < 2 ^ 64
size_fits G age young each = let few = few_cells G age young each in omega arith
