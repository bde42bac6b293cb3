-- One step of two sets that are apart: no cell has a neighbour in both, so each set evolves as if it were alone.
use Rattle.std.proofs.Common.{◌≡◌, ◌+◌, Bool, true, false, cond, ◌||◌, List, [], ◌∷◌, count_by, inl, inr, sym, refl}
use Rattle.std.proofs.Common.{ap, ◌∙◌, true≢false}
use Rattle.std.specs.List.{list_any}
use Rattle.std.proofs.lemmas.Bool.{cases_Bool, false_from_ne_true, or_parts}
use Rattle.std.proofs.lemmas.List.Sums.{sum_by-cons}
use Rattle.std.proofs.Math.Bool.{or-false, or_comm}
use Rattle.life_model.specs.Cell.{Cell, around}
use Rattle.life_model.specs.Rule.{Rule, born, stays}
use Rattle.life_model.specs.Generation.{Generation, contains, empty}
use Rattle.life_model.specs.Evolution.{count_at, lives, next}
use Rattle.life_model.proofs.Evolution.{contains-next, lives_near}
use Rattle.life_model.proofs.Generations.{contains-empty, same_members}
use Rattle.life_model.proofs.Near.{near_live, next_near}
use Rattle.life_objects.specs.Apart.{AreDisjoint, AreApart}
use Rattle.life_objects.specs.Union.{union}
use Rattle.life_objects.proofs.Distances.{near_through}
use Rattle.life_objects.proofs.Unions.{contains-union, in_empty}

-- whether c or a cell around it passes the test
abbrev is_close : (Cell → Bool) → Cell → Bool
is_close live c = live c || list_any live (around c)

or-none : (a b : Bool) → b ≡ false → (a || b) ≡ a
or-none a b none = ap (λ x. a || x) none ∙ or-false a

count_by-or : {X : Type 0} (p q : X → Bool) (xs : List X) → list_any q xs ≡ false →
    count_by (λ x. p x || q x) xs ≡ count_by p xs
count_by-or p q [] none = refl
count_by-or {X} p q (x ∷ xs) none =
    let parts = or_parts (q x) (list_any q xs) none in
    sum_by-cons (λ (y : X). cond (p y || q y) 1 0) x xs
    ∙ (λ i. cond (or-none (p x) (q x) parts.0 i) 1 0 + count_by-or p q xs parts.1 i)
    ∙ sym (sum_by-cons (λ (y : X). cond (p y) 1 0) x xs)

module _ (R : Rule) where
  -- what doesn't come close to c has no effect there
  lives-or : (p q : Cell → Bool) (c : Cell) → is_close q c ≡ false → lives R (λ x. p x || q x) c ≡ lives R p c
  unfolding lives
  lives-or p q c none =
      let parts = or_parts (q c) (list_any q (around c)) none in
      let here : (p c || q c) ≡ p c = or-none (p c) (q c) parts.0 in
      let counts : count_at (λ x. p x || q x) c ≡ count_at p c = count_by-or p q (around c) parts.1 in
      λ i. cond (here i) (stays R (counts i)) (born R (counts i))

  lives-none : (q : Cell → Bool) (c : Cell) → is_close q c ≡ false → lives R q c ≡ false
  lives-none q c none = false_from_ne_true (lives R q c) (λ h. true≢false (sym (lives_near R q c h) ∙ none))

  lives_alone : (p q : Cell → Bool) (c : Cell) → is_close q c ≡ false →
      lives R (λ x. p x || q x) c ≡ (lives R p c || lives R q c)
  lives_alone p q c none = lives-or p q c none ∙ sym (or-none (lives R p c) (lives R q c) (lives-none q c none))

  lives_swapped : (p q : Cell → Bool) (c : Cell) → lives R (λ x. p x || q x) c ≡ lives R (λ x. q x || p x) c
  lives_swapped p q c = ap (λ (live : Cell → Bool). lives R live c) (λ i x. or_comm (p x) (q x) i)

  module _ (P Q : Generation) (far : AreApart P Q) where
    -- no cell is close to both
    close_to_one : (c : Cell) → is_close (contains P) c ≡ true → is_close (contains Q) c ≡ true → ⊥
    close_to_one c h k =
        let g = near_live (contains P) c h in
        let q = near_live (contains Q) c k in
        far g.0 q.0 g.1 q.1 (near_through c g.0 q.0 g.2 q.2)

    lives-union : (c : Cell) →
        lives R (λ x. contains P x || contains Q x) c ≡ (lives R (contains P) c || lives R (contains Q) c)
    lives-union c =
        elim (cases_Bool (is_close (contains P) c)) [
          | inl h ↦ lives_alone (contains P) (contains Q) c (false_from_ne_true _ (close_to_one c h))
          | inr none ↦
              lives_swapped (contains P) (contains Q) c ∙ lives_alone (contains Q) (contains P) c none
              ∙ or_comm (lives R (contains Q) c) (lives R (contains P) c)
        ]

    pub next-union : next R (union P Q) ≡ union (next R P) (next R Q)
    next-union = same_members _ _ (λ c.
        contains-next R (union P Q) c
        ∙ ap (λ (live : Cell → Bool). lives R live c) (λ i x. contains-union P Q x i)
        ∙ lives-union c
        ∙ (λ i. sym (contains-next R P c) i || sym (contains-next R Q c) i)
        ∙ sym (contains-union (next R P) (next R Q) c))

    pub next_disjoint : AreDisjoint (next R P) (next R Q)
    next_disjoint c h k =
        let g = next_near R P c h in
        let q = next_near R Q c k in
        far g.0 q.0 g.1 q.1 (near_through c g.0 q.0 g.2 q.2)

  pub next-empty : next R empty ≡ empty
  next-empty = same_members _ _ (λ c.
      false_from_ne_true (contains (next R empty) c) (λ h. let g = next_near R empty c h in in_empty g.0 g.1)
      ∙ sym (contains-empty c))
