-- The next state of a cell depends on the cell and the eight around it alone.
use Rattle.std.proofs.Common.{◌≡◌, ℕ, ℤ, pos, neg_ℤ, ◌+ℤ◌, ◌-ℤ◌, ◌+◌, ◌<◌, cond, List, [], ◌∷◌, count_by, refl, sym, ap, ◌∙◌, arith}
use Rattle.std.proofs.lemmas.Int.{ints}
use Rattle.std.proofs.lemmas.List.Sums.{sum_by-cons}
use Rattle.life_model.specs.Rule.{Rule, born, stays}
use Rattle.life_model.specs.Cell.{Cell, around}
use Rattle.life_model.specs.Generation.{Generation, contains}
use Rattle.life_model.specs.Evolution.{count, lives, next}
use Rattle.life_model.proofs.Evolution.{contains-next}
use Rattle.life_plane.specs.Flags.{as_bit}
use Rattle.life_slots.specs.Kernels.Rows.{state}
use Rattle.life_slots.proofs.Splits.{same_flag}

-- three by three cells, whose middle one is at a place, are the same in two sets
pub record AreAlikeAround (G H : Generation) (X Y : ℤ) : Type 0 where
  pub same : (a b : ℕ) → a < 3 → b < 3 →
      state G ((X -ℤ pos 1) +ℤ pos a, (Y -ℤ pos 1) +ℤ pos b) ≡ state H ((X -ℤ pos 1) +ℤ pos a, (Y -ℤ pos 1) +ℤ pos b)

module _ (G H : Generation) where
  abbrev AreAlike : List Cell → Type 0
  AreAlike [] = Unit {0}
  AreAlike (c ∷ cs) = (contains G c ≡ contains H c) × AreAlike cs

  same_counts : (cs : List Cell) → AreAlike cs → count_by (contains G) cs ≡ count_by (contains H) cs
  same_counts [] alike = refl
  same_counts (c ∷ cs) alike =
      sum_by-cons (λ (d : Cell). cond (contains G d) 1 0) c cs
      ∙ (λ i. cond (alike.0 i) 1 0 + same_counts cs alike.1 i)
      ∙ sym (sum_by-cons (λ (d : Cell). cond (contains H d) 1 0) c cs)

  module _ (X Y : ℤ) (alike : AreAlikeAround G H X Y) where
    at : (a b : ℕ) (across down : ℤ) → a < 3 → b < 3 → across ≡ ((X -ℤ pos 1) +ℤ pos a) → down ≡ ((Y -ℤ pos 1) +ℤ pos b) →
        contains G (across, down) ≡ contains H (across, down)
    at a b across down column row across_is down_is =
        (λ i. contains G (across_is i, down_is i))
        ∙ same_flag _ _ (alike.same a b column row)
        ∙ sym (λ i. contains H (across_is i, down_is i))

    same_count : count G (X, Y) ≡ count H (X, Y)
    same_count =
        let west : (X +ℤ neg_ℤ (pos 1)) ≡ ((X -ℤ pos 1) +ℤ pos 0) = omega (arith, ints) in
        let middle : (X +ℤ pos 0) ≡ ((X -ℤ pos 1) +ℤ pos 1) = omega (arith, ints) in
        let east : (X +ℤ pos 1) ≡ ((X -ℤ pos 1) +ℤ pos 2) = omega (arith, ints) in
        let north : (Y +ℤ neg_ℤ (pos 1)) ≡ ((Y -ℤ pos 1) +ℤ pos 0) = omega (arith, ints) in
        let level : (Y +ℤ pos 0) ≡ ((Y -ℤ pos 1) +ℤ pos 1) = omega (arith, ints) in
        let south : (Y +ℤ pos 1) ≡ ((Y -ℤ pos 1) +ℤ pos 2) = omega (arith, ints) in
        same_counts (around (X, Y)) (
          at 0 0 _ _ (omega arith) (omega arith) west north,
          (
            at 1 0 _ _ (omega arith) (omega arith) middle north,
            (
              at 2 0 _ _ (omega arith) (omega arith) east north,
              (
                at 0 1 _ _ (omega arith) (omega arith) west level,
                (
                  at 2 1 _ _ (omega arith) (omega arith) east level,
                  (
                    at 0 2 _ _ (omega arith) (omega arith) west south,
                    (
                      at 1 2 _ _ (omega arith) (omega arith) middle south,
                      (at 2 2 _ _ (omega arith) (omega arith) east south, tt),
                    ),
                  ),
                ),
              ),
            ),
          ),
        )

    same_here : contains G (X, Y) ≡ contains H (X, Y)
    same_here = at 1 1 X Y (omega arith) (omega arith) (omega (arith, ints)) (omega (arith, ints))

    same_lives : (R : Rule) → lives R (contains G) (X, Y) ≡ lives R (contains H) (X, Y)
    unfolding lives
    same_lives R = λ i. cond (same_here i) (stays R (same_count i)) (born R (same_count i))

    -- the cell in the middle is the same in the next generation
    pub same_next : (R : Rule) → state (next R G) (X, Y) ≡ state (next R H) (X, Y)
    same_next R = ap as_bit (contains-next R G (X, Y) ∙ same_lives R ∙ sym (contains-next R H (X, Y)))
