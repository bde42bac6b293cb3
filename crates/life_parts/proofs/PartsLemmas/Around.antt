-- What stands around a place.
use Rattle.std.proofs.Common.{◌≡◌, ◌+◌, Bool, true, false, cond, List, [], ◌∷◌, count_by, inl, inr, sym, refl, ap, ◌∙◌, true≢false, arith}
use Rattle.std.specs.List.{list_any}
use Rattle.std.proofs.lemmas.Int.{ints}
use Rattle.std.proofs.lemmas.Bool.{cases_Bool, or_cases, or_left, or_right}
use Rattle.std.proofs.lemmas.List.Sums.{sum_by-cons}
use Rattle.life_model.specs.Cell.{Cell, IsNear, around, same_cell}
use Rattle.life_model.specs.Rule.{Rule, born, stays}
use Rattle.life_model.specs.Generation.{Generation, contains}
use Rattle.life_model.specs.Evolution.{count_at, lives, next}
use Rattle.life_model.proofs.Cells.{same_cell-is}
use Rattle.life_model.proofs.Evolution.{contains-next}
use Rattle.life_model.proofs.Moves.{same_cell_itself}
use Rattle.life_model.proofs.Near.{near_live}
use Rattle.life_model.proofs.Tests.{count_by-none}

pub near_swapped : (c d : Cell) → IsNear c d → IsNear d c
near_swapped c d h = record { left = omega (arith, ints); right = omega (arith, ints); above = omega (arith, ints); below = omega (arith, ints) }

-- a cell that is listed around x is near x
near_listed : (x y : Cell) → list_any (same_cell y) (around x) ≡ true → IsNear y x
near_listed x y h =
    let g = near_live (same_cell y) x (or_right _ _ h) in
    let same : y ≡ g.0 = (same_cell-is y g.0).0 g.1 in
    near_swapped x y (rw same g.2)

count_by-alike : (p q : Cell → Bool) (xs : List Cell) → ((y : Cell) → list_any (same_cell y) xs ≡ true → p y ≡ q y) →
    count_by p xs ≡ count_by q xs
count_by-alike p q [] h = refl
count_by-alike p q (x ∷ xs) h =
    sum_by-cons (λ (y : Cell). cond (p y) 1 0) x xs
    ∙ (λ i. cond (h x (or_left _ _ (same_cell_itself x)) i) 1 0 + count_by-alike p q xs (λ y k. h y (or_right _ _ k)) i)
    ∙ sym (sum_by-cons (λ (y : Cell). cond (q y) 1 0) x xs)

-- tests that agree near x count alike there
pub count_at-alike : (p q : Cell → Bool) (x : Cell) → ((y : Cell) → IsNear y x → p y ≡ q y) → count_at p x ≡ count_at q x
count_at-alike p q x h = count_by-alike p q (around x) (λ y k. h y (near_listed x y k))

pub list_any-more : (p q : Cell → Bool) → ((y : Cell) → p y ≡ true → q y ≡ true) → (xs : List Cell) →
    list_any p xs ≡ true → list_any q xs ≡ true
list_any-more p q h [] some = some
list_any-more p q h (x ∷ xs) some =
    elim (or_cases (p x) (list_any p xs) some) [
      | inl here ↦ or_left (q x) (list_any q xs) (h x here)
      | inr later ↦ or_right (q x) (list_any q xs) (list_any-more p q h xs later)
    ]

-- where there is a birth, there is a cell around
pub any_around : (R : Rule) (p : Cell → Bool) (x : Cell) → born R (count_at p x) ≡ true → list_any p (around x) ≡ true
unfolding born
any_around R p x h =
    elim (cases_Bool (list_any p (around x))) [
      | inl some ↦ some
      | inr none ↦ absurd (true≢false (sym h ∙ ap (born R) (count_by-none p (around x) none)))
    ]

pub one_around : (p : Cell → Bool) (x : Cell) → list_any p (around x) ≡ true → (c : Cell) × (p c ≡ true) × IsNear c x
one_around p x h = let g = near_live p x (or_right _ _ h) in (g.0, g.1, near_swapped x g.0 g.2)

pub some_around : (R : Rule) (p : Cell → Bool) (x : Cell) → born R (count_at p x) ≡ true → (c : Cell) × (p c ≡ true) × IsNear c x
some_around R p x h = one_around p x (any_around R p x h)

module _ (R : Rule) (G : Generation) (x : Cell) where
  -- a place has a cell next where one is born
  pub next-born : contains G x ≡ false → contains (next R G) x ≡ born R (count_at (contains G) x)
  unfolding lives
  next-born h = contains-next R G x ∙ ap (λ b. cond b (stays R (count_at (contains G) x)) (born R (count_at (contains G) x))) h

  -- a cell is there next where it stays
  pub next-stays : contains G x ≡ true → contains (next R G) x ≡ stays R (count_at (contains G) x)
  unfolding lives
  next-stays h = contains-next R G x ∙ ap (λ b. cond b (stays R (count_at (contains G) x)) (born R (count_at (contains G) x))) h
