-- The collections that are closed, by their numbers.
use Rattle.std.proofs.Common.{◌≡◌, ℕ, zero, suc, ◌+◌, ◌-◌, ◌<◌, true, false, cond, List, [], ◌∷◌, length, slice_get, ap, ◌∙◌, sym, refl, arith}
use Rattle.census_format.specs.Lines.{Collection}
use Rattle.census_merge.specs.Kept.{closed_to, is_closed}
use Rattle.census_merge.proofs.Ranks.{number-rises, one}
use Rattle.census_rows.specs.declared.row.Row.{Row}
use Rattle.census_merge.specs.Cuts.Closed.{closed_collections}

module _ (all : List Row) where
  pub next-closed : (c : ℕ) → is_closed all (suc c) ≡ true → closed_to all (suc c) ≡ closed_to all c + 1
  next-closed c e = ap (λ v. closed_to all c + one v) e

  next-open : (c : ℕ) → is_closed all (suc c) ≡ false → closed_to all (suc c) ≡ closed_to all c
  next-open c e = let same : closed_to all (suc c) ≡ closed_to all c + 0 = ap (λ v. closed_to all c + one v) e in omega (arith, same)

  -- how many of them there are
  pub closed-length : (c : ℕ) (fs : List Collection) → length (closed_collections all (suc c) fs) + closed_to all c ≡ closed_to all (c + length fs)
  closed-length c [] =
      let same : c + 0 ≡ c = omega arith in
      let here = ap (closed_to all) same in
      omega (arith, here)
  closed-length c (f ∷ fs) =
      let same : suc c + length fs ≡ c + length (f ∷ fs) = omega arith in
      let whole = ap (closed_to all) same in
      let rest = closed-length (suc c) fs in
      let others = closed_collections all (suc (suc c)) fs in
      elim (is_closed all (suc c)) as (λ v. is_closed all (suc c) ≡ v → length (cond v (f ∷ others) others) + closed_to all c ≡ closed_to all (c + length (f ∷ fs))) [
        | true ↦ λ e. (let next = next-closed c e in omega (arith, next, rest, whole))
        | false ↦ λ e. (let next = next-open c e in omega (arith, next, rest, whole))
      ] refl

  -- the collection m + 1, counted from after c, is the one of its number among those that are closed
  pub folder-at : (c j k m : ℕ) (fs : List Collection) → m ≡ c + j → closed_to all m ≡ k + closed_to all c → is_closed all (suc m) ≡ true
      → slice_get (closed_collections all (suc c) fs) k ≡ slice_get fs j
  folder-at c j k m [] at count closed = refl
  folder-at c zero k m (f ∷ fs) at count closed =
      let same : m ≡ c = omega (arith, at) in
      let others = closed_collections all (suc (suc c)) fs in
      let here : is_closed all (suc c) ≡ true = ap (λ n. is_closed all (suc n)) (sym same) ∙ closed in
      let counts = ap (closed_to all) same in
      let first : k ≡ 0 = omega (arith, counts, count) in
      ap (λ v. slice_get (cond v (f ∷ others) others) k) here ∙ ap (λ n. slice_get (f ∷ others) n) first
  folder-at c (suc j) k m (f ∷ fs) at count closed =
      let further : m ≡ suc c + j = omega (arith, at) in
      let others = closed_collections all (suc (suc c)) fs in
      elim (is_closed all (suc c)) as (λ v. is_closed all (suc c) ≡ v → slice_get (cond v (f ∷ others) others) k ≡ slice_get fs j) [
        | true ↦ λ e.
            (let next = next-closed c e in
            let rises = number-rises all (suc c) m (omega (arith, further)) in
            let more : k ≡ suc (k - 1) = omega (arith, next, rises, count) in
            ap (λ n. slice_get (f ∷ others) n) more
            ∙ folder-at (suc c) j (k - 1) m fs further (omega (arith, next, rises, count)) closed)
        | false ↦ λ e. (let next = next-open c e in folder-at (suc c) j k m fs further (omega (arith, next, count)) closed)
      ] refl

  -- if no collection after n is closed, no number grows from there on
  pub closed-past : (n k : ℕ) → ((c : ℕ) → n < c → is_closed all c ≡ false) → closed_to all (k + n) ≡ closed_to all n
  closed-past n zero h = let same : 0 + n ≡ n = omega arith in ap (closed_to all) same
  closed-past n (suc k) h =
      let same : suc k + n ≡ suc (k + n) = omega arith in
      ap (closed_to all) same ∙ next-open (k + n) (h (suc (k + n)) (omega arith)) ∙ closed-past n k h
