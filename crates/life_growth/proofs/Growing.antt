-- What becomes of an engine: its core, and what has left it, which grows beyond every bound.
use Rattle.std.proofs.Common.{◌≡◌, ◌≢◌, ℕ, zero, suc, ◌+◌, ◌-◌, ◌*◌, ◌<◌, ◌≤◌, List, [], ◌++◌, sym, ap, subst, ◌∙◌, arith}
use Rattle.life_model.specs.Rule.{Rule}
use Rattle.life_model.specs.Generation.{Generation, contains, empty, size}
use Rattle.life_model.specs.Evolution.{next, generation}
use Rattle.life_model.proofs.Recurrences.{generation-add, generation-next, generation-zero}
use Rattle.life_objects.specs.Apart.{AreApartForEver}
use Rattle.life_objects.specs.Ash.{HasFallenApart}
use Rattle.life_objects.specs.Union.{generations, union}
use Rattle.life_objects.proofs.Alone.{next-union}
use Rattle.life_objects.proofs.Ashes.{AreApartForEver-later}
use Rattle.life_objects.proofs.Times.{AreApartForEver-swap, generation-empty}
use Rattle.life_objects.proofs.Unions.{in_empty, union-assoc, union-comm, union-empty}
use Rattle.life_objects.specs.Piece.{LivesThrough}
use Rattle.life_growth.specs.Engine.{Way}
use Rattle.life_growth.specs.Onward.{accumulated}
use Rattle.life_growth.specs.Population.{HasNoBound}
use Rattle.life_growth.specs.Unsplit.{Leaves}
use Rattle.life_growth.proofs.Bounds.{size-union_ever}
use Rattle.life_growth.proofs.Endless.{GoesOn, GoesOn-from, emitting_times, from_step}
use Rattle.life_growth.proofs.Parts.{IsPart, apart_from_both, part_apart}
use Rattle.life_growth.proofs.Settling.{lives_on, settles_empty, settles_next, settles_together}
use Rattle.life_growth.proofs.Sizes.{some_size}

module _ (R : Rule) where
  pub generation-one : (P : Generation) → generation R P 1 ≡ next R P
  generation-one P =
      ap (generation R P) (let e : 1 ≡ 0 + 1 = omega arith in e) ∙ generation-next R P 0 ∙ ap (next R) (generation-zero R P)

  pub next_apart : (P Q : Generation) → AreApartForEver R P Q → AreApartForEver R (next R P) (next R Q)
  next_apart P Q far =
      subst (λ H. AreApartForEver R H (next R Q)) (generation-one P)
      (subst (AreApartForEver R (generation R P 1)) (generation-one Q) (AreApartForEver-later R 1 P Q far))

  pub next-union_ever : (P Q : Generation) → AreApartForEver R P Q → next R (union P Q) ≡ union (next R P) (next R Q)
  unfolding generation
  next-union_ever P Q far = next-union R P Q (far 0)

  pub apart_from_empty : (P : Generation) → AreApartForEver R P empty
  apart_from_empty P n c d h k near = in_empty d (ap (λ H. contains H d) (sym (generation-empty R n)) ∙ k)

  module _ (P A L : Generation) (leaves : Leaves R P A L) where
    pub stays_part : IsPart R A (next R P)
    stays_part = record { rest = L; together = leaves.together; apart = leaves.apart }

    pub left_part : IsPart R L (next R P)
    left_part = record {
      rest = A;
      together = union-comm L A ∙ leaves.together;
      apart = AreApartForEver-swap R A L leaves.apart;
    }

  module _ (b : ℕ) (way : Way) (on : GoesOn R b way) where
    abbrev debris : ℕ → Generation
    debris n = accumulated R way.left n

    module _ (n : ℕ) (far : AreApartForEver R (way.core n) (debris n)) where
      old_apart : AreApartForEver R (next R (way.core n)) (next R (debris n))
      old_apart = next_apart (way.core n) (debris n) far

      core_from_old : AreApartForEver R (way.core (suc n)) (next R (debris n))
      core_from_old =
          part_apart R (way.core (suc n)) (next R (way.core n)) (next R (debris n))
          (stays_part (way.core n) (way.core (suc n)) (way.left n) (on.leaves n)) old_apart

      old_from_left : AreApartForEver R (next R (debris n)) (way.left n)
      old_from_left =
          AreApartForEver-swap R (way.left n) (next R (debris n))
          (part_apart R (way.left n) (next R (way.core n)) (next R (debris n))
          (left_part (way.core n) (way.core (suc n)) (way.left n) (on.leaves n)) old_apart)

    pub core_apart : (n : ℕ) → AreApartForEver R (way.core n) (debris n)
    unfolding accumulated
    core_apart zero = apart_from_empty (way.core 0)
    core_apart (suc n) =
        apart_from_both R (way.core (suc n)) (next R (debris n)) (way.left n) (core_from_old n (core_apart n))
        (on.leaves n).apart (old_from_left n (core_apart n))

    -- generation n is the core and what has left it
    pub becomes : (n : ℕ) → generation R (way.core 0) n ≡ union (way.core n) (debris n)
    unfolding accumulated generation
    becomes zero = sym (union-empty (way.core 0))
    becomes (suc n) =
        ap (next R) (becomes n) ∙ next-union_ever (way.core n) (debris n) (core_apart n)
        ∙ ap (λ H. union H (next R (debris n))) (sym (on.leaves n).together)
        ∙ union-assoc (way.core (suc n)) (way.left n) (next R (debris n))
        ∙ ap (union (way.core (suc n))) (union-comm (way.left n) (next R (debris n)))

    -- ---- what has left falls apart

    -- the parts of what left in the first n steps, n steps on
    unfoldable pub remains : (ℕ → List Generation) → ℕ → List Generation
    remains ashes zero = []
    remains ashes (suc n) = generations R (remains ashes n) 1 ++ ashes n

    pub debris_settles : (ashes : ℕ → List Generation) → ((n : ℕ) → HasFallenApart R b (way.left n) (ashes n)) → (n : ℕ) →
        HasFallenApart R b (debris n) (remains ashes n)
    unfolding accumulated remains
    debris_settles ashes fallen zero = settles_empty R b
    debris_settles ashes fallen (suc n) =
        settles_together R b (next R (debris n)) (way.left n) (generations R (remains ashes n) 1) (ashes n)
        (old_from_left n (core_apart n))
        (settles_next R b (debris n) (remains ashes n) (debris_settles ashes fallen n)) (fallen n)

    -- ---- what has left grows

    -- each generation of what has left in n steps has at least k cells
    abbrev IsLarge : ℕ → ℕ → Type 0
    IsLarge k n = (m : ℕ) → k ≤ size (generation R (debris n) m)

    more_debris : (n m : ℕ) → size (generation R (debris (suc n)) m) ≡
        size (generation R (debris n) (suc m)) + size (generation R (way.left n) m)
    unfolding accumulated
    more_debris n m =
        size-union_ever R (next R (debris n)) (way.left n) m (old_from_left n (core_apart n))
        ∙ ap (λ H. size (generation R H m) + size (generation R (way.left n) m)) (sym (generation-one (debris n)))
        ∙ ap (λ H. size H + size (generation R (way.left n) m)) (generation-add R (debris n) 1 m
        ∙ ap (generation R (debris n)) (let e : 1 + m ≡ suc m = omega arith in e))

    IsLarge-kept : (k n j : ℕ) → IsLarge k n → IsLarge k (n + j)
    IsLarge-kept k n zero large = subst (IsLarge k) (let e : n ≡ n + 0 = omega arith in e) large
    IsLarge-kept k n (suc j) large =
        subst (IsLarge k) (let e : suc (n + j) ≡ n + suc j = omega arith in e)
        (λ m.
        let e = more_debris (n + j) m in
        let h = IsLarge-kept k n j large (suc m) in
        omega arith)

    IsLarge-more : (k n : ℕ) → IsLarge k n → ((m : ℕ) → generation R (way.left n) m ≢ empty) → IsLarge (suc k) (suc n)
    IsLarge-more k n large lives m =
        let e = more_debris n m in
        let h = large (suc m) in
        let some : 1 ≤ size (generation R (way.left n) m) = some_size (generation R (way.left n) m) (lives m) in
        omega arith

    emitting_lives : (k m : ℕ) → generation R (way.left (on.emitting.0 + k * way.period)) m ≢ empty
    emitting_lives k =
        lives_on R b (way.left (on.emitting.0 + k * way.period)) (on.settles (on.emitting.0 + k * way.period))
        (emitting_times R b way on k)

    large : (k : ℕ) → IsLarge k (on.emitting.0 + k * way.period)
    large zero = λ m. omega arith
    large (suc k) =
        let at : ℕ = on.emitting.0 + k * way.period in
        let one : 1 ≤ way.period = on.later in
        let e : suc at + (way.period - 1) ≡ on.emitting.0 + suc k * way.period = omega arith in
        subst (IsLarge (suc k)) e
        (IsLarge-kept (suc k) (suc at) (way.period - 1) (IsLarge-more k at (large k) (emitting_lives k)))

    -- from the step after one in which something leaves for good, what has left always has a cell
    large_since : (e : ℕ) → LivesThrough R b (way.left e) → (n : ℕ) → e < n → IsLarge 1 n
    large_since e lives n after =
        subst (IsLarge 1) (let at : suc e + (n - suc e) ≡ n = omega arith in at)
        (IsLarge-kept 1 (suc e) (n - suc e)
        (IsLarge-more 0 e (λ m. omega arith) (lives_on R b (way.left e) (on.settles e) lives)))

    -- so all of it has more cells than its core, whatever both become
    pub more_than_core : (e : ℕ) → LivesThrough R b (way.left e) → (n : ℕ) → e < n → (m : ℕ) →
        size (generation R (way.core n) m) < size (generation R (way.core 0) (n + m))
    more_than_core e lives n after m =
        let all : size (generation R (way.core 0) (n + m))
        ≡ size (generation R (way.core n) m) + size (generation R (debris n) m) =
        ap size (sym (generation-add R (way.core 0) n m)) ∙ ap (λ H. size (generation R H m)) (becomes n)
        ∙ size-union_ever R (way.core n) (debris n) m (core_apart n) in
        let some : 1 ≤ size (generation R (debris n) m) = large_since e lives n after m in
        omega arith

    pub first_has_no_bound : HasNoBound R (way.core 0)
    first_has_no_bound k =
        let n : ℕ = on.emitting.0 + k * way.period in
        let e : size (generation R (way.core 0) n) ≡ size (union (way.core n) (debris n)) = ap size (becomes n) in
        let both : size (union (way.core n) (debris n)) ≡ size (way.core n) + size (debris n) =
        ap size (sym (generation-zero R (union (way.core n) (debris n))))
        ∙ size-union_ever R (way.core n) (debris n) 0 (core_apart n)
        ∙ (λ i. size (generation-zero R (way.core n) i) + size (generation-zero R (debris n) i)) in
        let few : k ≤ size (generation R (debris n) 0) = large k 0 in
        let same : size (generation R (debris n) 0) ≡ size (debris n) = ap size (generation-zero R (debris n)) in
        (n, omega arith)

  pub core_has_no_bound : (b : ℕ) (way : Way) → GoesOn R b way → (n : ℕ) → HasNoBound R (way.core n)
  core_has_no_bound b way on n =
      subst (λ k. HasNoBound R (way.core k)) (let e : n + 0 ≡ n = omega arith in e)
      (first_has_no_bound b (from_step R b way on n) (GoesOn-from R b way on n))
