-- The objects that were counted, one after another.
use Rattle.std.proofs.Common.{◌≡◌, ℕ, zero, suc, ◌+◌, ◌≤◌, true, false, ◌&&◌, eqb, Some, None as Nothing, List, [], ◌∷◌, drop, length, slice_get, ap, ◌∙◌, sym, refl, arith}
use Rattle.std.specs.Option.{option_map_or}
use Rattle.std.proofs.lemmas.Bool.{and_parts, eq-eqb, eqb-true}
use Rattle.std.proofs.Math.Seq.{drop-length}
use Rattle.census_readback.specs.Counts.{Object, Sum, is_counted, same_object}
use Rattle.census_readback.specs.ObjectLaws.{one_object, same_itself}

one-sum : (sum : Sum) (n : ℕ) → option_map_or (λ m. eqb m n) sum false ≡ true → sum ≡ Some n
one-sum Nothing n h = absurd (cc)
one-sum (Some m) n h = ap (λ (k : ℕ). Some k) (eqb-true m n h)

-- the next one, and those after it
pub next-counted : (es : List (Object × Sum)) (i : ℕ) (k : Object) (n : ℕ) → is_counted (slice_get es i) k n ≡ true → drop i es ≡ (k, Some n) ∷ drop (i + 1) es
next-counted [] i k n h = absurd (cc)
next-counted (e ∷ es) zero k n h =
    let parts = and_parts (same_object e.0 k) (option_map_or (λ m. eqb m n) e.1 false) h in
    let object = one_object e.0 k parts.0 in
    let sum = one-sum e.1 n parts.1 in
    λ i. (object i, sum i) ∷ es
next-counted (e ∷ es) (suc i) k n h = let more : suc i + 1 ≡ suc (i + 1) = omega arith in next-counted es i k n h ∙ ap (λ m. (k, Some n) ∷ drop m (e ∷ es)) (sym more)

-- it is the next one, there is one at this index, and those after it
pub next-drops : (es : List (Object × Sum)) (i : ℕ) (k : Object) (n : ℕ) (rest : List (Object × Sum)) → drop i es ≡ (k, Some n) ∷ rest
    → (is_counted (slice_get es i) k n ≡ true) × (i + 1 ≤ length es) × (rest ≡ drop (i + 1) es)
next-drops [] zero k n rest h = absurd (cc)
next-drops [] (suc i) k n rest h = absurd (cc)
next-drops (e ∷ es) zero k n rest h =
    let same : e ≡ (k, Some n) = cc in
    let others : es ≡ rest = cc in (
      ap (λ (x : Object × Sum). same_object x.0 k && option_map_or (λ m. eqb m n) x.1 false) same ∙ ap (λ b. b && eqb n n) (same_itself k) ∙ eq-eqb n n refl,
      omega arith,
      sym others,
    )
next-drops (e ∷ es) (suc i) k n rest h =
    let more : suc i + 1 ≡ suc (i + 1) = omega arith in
    let inner = next-drops es i k n rest h in
    (inner.0, omega (arith, inner.1), inner.2 ∙ ap (λ m. drop m (e ∷ es)) (sym more))

pub none-left : (es : List (Object × Sum)) (i : ℕ) → i ≡ length es → drop i es ≡ []
none-left es i e = ap (λ k. drop k es) e ∙ drop-length es

-- if none is left, the index is the number of objects
pub drop-none : (es : List (Object × Sum)) (i : ℕ) → i ≤ length es → drop i es ≡ [] → i ≡ length es
drop-none [] i most h = omega arith
drop-none (e ∷ es) zero most h = absurd (cc)
drop-none (e ∷ es) (suc i) most h = (let inner = drop-none es i (omega arith) h in omega (arith, inner))
