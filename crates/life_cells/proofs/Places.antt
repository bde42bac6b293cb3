-- Where the cells of sets are, now and later.
use Rattle.std.proofs.Common.{◌≡◌, ℕ, zero, suc, ◌+◌, ◌≤◌, true, sym, refl, subst, ◌∙◌, arith}
use Rattle.std.specs.List.{All}
use Rattle.life_model.specs.Cell.{Cell}
use Rattle.life_model.specs.Rule.{Rule}
use Rattle.life_model.specs.Generation.{Generation, cells, contains}
use Rattle.life_model.specs.Evolution.{generation, next}
use Rattle.life_model.proofs.Generations.{contains-cells}
use Rattle.life_model.proofs.Members.{of_member, of_all_members}
use Rattle.life_cells.specs.Limits.{IsWithin}
use Rattle.life_cells.proofs.Within.{within_later, within_next}

pub place_of : (a : ℕ) (G : Generation) → All (IsWithin a) (cells G) → (c : Cell) → contains G c ≡ true → IsWithin a c
place_of a G all c h = of_member (IsWithin a) (cells G) all c (sym (contains-cells G c) ∙ h)

pub by_places : (a : ℕ) (G : Generation) → ((c : Cell) → contains G c ≡ true → IsWithin a c) → All (IsWithin a) (cells G)
by_places a G each = of_all_members (IsWithin a) (cells G) (λ c h. each c (contains-cells G c ∙ h))

next_within : (R : Rule) (a : ℕ) (G : Generation) → All (IsWithin a) (cells G) →
    All (IsWithin (a + 1)) (cells (next R G))
next_within R a G all = by_places (a + 1) (next R G) (within_next R G (next R G) a refl (place_of a G all))

pub generation_within : (R : Rule) (a : ℕ) (G : Generation) → All (IsWithin a) (cells G) → (n : ℕ) →
    All (IsWithin (a + n)) (cells (generation R G n))
unfolding generation
generation_within R a G all zero =
    subst (λ k. All (IsWithin k) (cells G)) (let e : a ≡ a + 0 = omega arith in e) all
generation_within R a G all (suc n) =
    subst (λ k. All (IsWithin k) (cells (next R (generation R G n))))
    (let e : (a + n) + 1 ≡ a + suc n = omega arith in e)
    (next_within R (a + n) (generation R G n) (generation_within R a G all n))

pub subset_within : (a b : ℕ) → a ≤ b → (P G : Generation) → ((c : Cell) → contains P c ≡ true → contains G c ≡ true) →
    All (IsWithin a) (cells G) → All (IsWithin b) (cells P)
subset_within a b le P G sub all = by_places b P (λ c h. within_later a b c le (place_of a G all c (sub c h)))

pub itself_within : (a b : ℕ) → a ≤ b → (G : Generation) → All (IsWithin a) (cells G) → All (IsWithin b) (cells G)
itself_within a b le G all = subset_within a b le G G (λ c h. h) all
