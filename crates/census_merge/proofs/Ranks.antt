-- The numbers of the collections that are closed.
use Rattle.std.proofs.Common.{◌≡◌, ℕ, zero, suc, ◌+◌, ◌-◌, ◌<◌, ◌≤◌, Bool, true, false, ltb, List, ap, refl, arith}
use Rattle.std.specs.Prelude.{if◌then◌else◌}
use Rattle.census_rows.specs.declared.row.Row.{Row}
use Rattle.census_merge.specs.Kept.{closed_to, is_closed, most}
use Rattle.census_readback.specs.Limits.{count_limit}

pub most-is : most ≡ count_limit
unfolding most
most-is = refl

abbrev pub one : Bool → ℕ
one b = if b then 1 else 0

module _ (all : List Row) where
  next : (c : ℕ) (b : Bool) → is_closed all (suc c) ≡ b → closed_to all (suc c) ≡ closed_to all c + one b
  next c b e = ap (λ v. closed_to all c + one v) e

  -- one more collection is closed, or none
  grows : (c : ℕ) (b : Bool) → is_closed all (suc c) ≡ b → closed_to all c ≤ closed_to all (suc c)
  grows c true e = omega (arith, next c true e)
  grows c false e = omega (arith, next c false e)

  small : (c : ℕ) (b : Bool) → is_closed all (suc c) ≡ b → closed_to all (suc c) ≤ closed_to all c + 1
  small c true e = omega (arith, next c true e)
  small c false e = omega (arith, next c false e)

  pub number-most : (c : ℕ) → closed_to all c ≤ c
  number-most zero = omega arith
  number-most (suc c) = omega (arith, number-most c, small c (is_closed all (suc c)) refl)

  more : (k c : ℕ) → closed_to all c ≤ closed_to all (k + c)
  more zero c = (let e : 0 + c ≡ c = omega arith in rw e (omega arith))
  more (suc k) c =
      let e : suc k + c ≡ suc (k + c) = omega arith in
      let on = grows (k + c) (is_closed all (suc (k + c))) refl in
      rw e (omega (arith, more k c, on))

  pub number-rises : (c d : ℕ) → c ≤ d → closed_to all c ≤ closed_to all d
  number-rises c d less = (let e : (d - c) + c ≡ d = omega arith in let h = more (d - c) c in omega (arith, h, ap (closed_to all) e))

  last : (d : ℕ) → is_closed all (suc d) ≡ true → closed_to all (suc d) ≡ closed_to all d + 1
  last d e = next d true e

  pub number-least : (d : ℕ) → 0 < d → is_closed all d ≡ true → 0 < closed_to all d
  number-least zero low e = absurd (omega arith)
  number-least (suc d) low e = omega (arith, last d e)

  pub number-less : (c d : ℕ) → c < d → is_closed all d ≡ true → closed_to all c < closed_to all d
  number-less c zero less e = absurd (omega arith)
  number-less c (suc d) less e = omega (arith, last d e, number-rises c d (omega arith))

  -- each number up to the last is that of a collection that is closed
  pub record Numbers (n i : ℕ) : Type 0 where
    pub collection : ℕ
    pub low : 0 < collection
    pub high : collection ≤ n
    pub kept : is_closed all collection ≡ true
    pub is : closed_to all collection ≡ i + 1

  wider : (n i : ℕ) → Numbers n i → Numbers (suc n) i
  wider n i h = record { collection = h.collection; low = h.low; high = omega (arith, h.high); kept = h.kept; is = h.is }

  pub number-of : (n i : ℕ) → i < closed_to all n → Numbers n i
  number-of zero i less = absurd (omega arith)
  number-of (suc n) i less =
      let on : (b : Bool) → is_closed all (suc n) ≡ b → Numbers (suc n) i = λ b. elim b as (λ b. is_closed all (suc n) ≡ b → Numbers (suc n) i) [
        | true ↦ λ e.
            (let inner : (v : Bool) → ltb i (closed_to all n) ≡ v → Numbers (suc n) i = λ v. elim v as (λ v. ltb i (closed_to all n) ≡ v → Numbers (suc n) i) [
              | true ↦ λ k. wider n i (number-of n i (grind (arith, k)))
              | false ↦ λ k. record { collection = suc n; low = omega arith; high = omega arith; kept = e; is = grind (arith, k, last n e, less) }
            ] in inner (ltb i (closed_to all n)) refl)
        | false ↦ λ e. wider n i (number-of n i (omega (arith, next n false e, less)))
      ] in
      on (is_closed all (suc n)) refl
