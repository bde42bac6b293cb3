-- How long sets that are far from each other stay apart.
use Rattle.std.proofs.Common.{ℕ, zero, suc, ◌+◌, ◌*◌, ◌≤◌, arith}
use Rattle.std.proofs.lemmas.Int.{ints}
use Rattle.life_model.specs.Generation.{Generation}
use Rattle.life_model.specs.Rule.{Rule}
use Rattle.life_model.specs.Evolution.{generation, next}
use Rattle.life_model.proofs.Near.{next_near}
use Rattle.life_objects.specs.Apart.{AreApart, AreApartBefore}
use Rattle.life_apart.specs.Alone.{AreFar}

-- sets that are n from each other are also m from each other, for a smaller m
pub far_weaker : (m n : ℕ) (P Q : Generation) → m ≤ n → AreFar n P Q → AreFar m P Q
far_weaker m n P Q h far c d k l close = far c d k l (record {
  left = omega (arith, ints);
  right = omega (arith, ints);
  above = omega (arith, ints);
  below = omega (arith, ints);
})

-- a distance of three places is enough to be apart
apart_of_far : (P Q : Generation) → AreFar 3 P Q → AreApart P Q
apart_of_far P Q far c d h k near = far c d h k (record {
  left = omega (arith, ints);
  right = omega (arith, ints);
  above = omega (arith, ints);
  below = omega (arith, ints);
})

module _ (R : Rule) where
  -- each cell has one near it in the generation before
  far_next : (n : ℕ) (P Q : Generation) → AreFar (n + 2) P Q → AreFar n (next R P) (next R Q)
  far_next n P Q far c d h k close =
      let g = next_near R P c h in
      let f = next_near R Q d k in
      far g.0 f.0 g.1 f.1 (record {
        left = omega (arith, ints);
        right = omega (arith, ints);
        above = omega (arith, ints);
        below = omega (arith, ints);
      })

  -- so in each generation they come nearer by at most two
  far_later : (n m : ℕ) (P Q : Generation) → AreFar (n + 2 * m) P Q → AreFar n (generation R P m) (generation R Q m)
  unfolding generation
  far_later n zero P Q far = far_weaker n (n + 0) P Q (omega arith) far
  far_later n (suc m) P Q far =
      far_next n (generation R P m) (generation R Q m)
      (far_later (n + 2) m P Q (far_weaker (n + 2 + 2 * m) (n + 2 * suc m) P Q (omega arith) far))

  -- sets that are far from each other need many generations to come near each other
  pub apart_before : (n k : ℕ) (P Q : Generation) → 2 * k ≤ n → AreFar (n + 1) P Q → AreApartBefore R k P Q
  apart_before n k P Q h far m l =
      apart_of_far (generation R P m) (generation R Q m)
      (far_later 3 m P Q (far_weaker (3 + 2 * m) (n + 1) P Q (omega arith) far))
