-- How many of the objects that are counted by their codes have a given rule and code.
use Rattle.std.proofs.Common.{◌≡◌, ℕ, zero, suc, ◌+◌, ◌<◌, ◌≤◌, Bool, true, false, cond, List, [], ◌∷◌, fold}
use Rattle.std.proofs.Common.{Ordering, Less, Equal, Greater, inl, inr, refl, sym, ap, ◌∙◌, arith}
use Rattle.std.specs.List.{Contains, count_by, sum_by}
use Rattle.std.proofs.lemmas.Bool.{cases_Bool}
use Rattle.std.proofs.lemmas.List.Sums.{sum_by-cons}
use Rattle.life_answer.specs.Parts.{with_code_by_order, counted_codes, with_code}
use Rattle.life_answer.specs.declared.part.Part.{Part}
use Rattle.life_model.specs.Rule.{Rule}
use Rattle.life_objects.proofs.Lists.{Contains-head, Contains-later, head_or_later}
use Rattle.life_cells.specs.TextOrder.{shorter_cmp}
use Rattle.life_cells.proofs.TextOrders.{shorter_exact}
use Rattle.census_format.specs.Objects.{Object, object, same_object}
use Rattle.census_format.specs.PartCounts.{parts_as}
use Rattle.census_format.proofs.Tallies.{count_first}

-- ---- the objects counted by their codes

module _ (k : Object) (rule : Rule) where
  abbrev is_k : List ℕ → Bool
  is_k code = same_object k (object rule code)

  more_of : (b : Bool) (n rest : ℕ) → cond b (n + 1) 0 + rest ≡ cond b 1 0 + (cond b n 0 + rest)
  more_of true n rest = omega arith
  more_of false n rest = omega arith

  as_beside : (o : Ordering) (code : List ℕ) (part : Part) (parts rest : List Part) → shorter_cmp code part.code ≡ o
      → parts_as k rule rest ≡ cond (is_k code) 1 0 + parts_as k rule parts
      → parts_as k rule (with_code_by_order o code part parts rest) ≡ cond (is_k code) 1 0 + parts_as k rule (part ∷ parts)
  as_beside Less code part parts rest e more = refl
  as_beside Equal code part parts rest e more =
      more_of (is_k part.code) part.count (parts_as k rule parts)
      ∙ ap (λ c. cond (is_k c) 1 0 + parts_as k rule (part ∷ parts)) (sym (shorter_exact code part.code e))
  as_beside Greater code part parts rest e more =
      ap (λ n. cond (is_k part.code) part.count 0 + n) more ∙ omega arith

  as_with_code : (code : List ℕ) (parts : List Part)
      → parts_as k rule (with_code code parts) ≡ cond (is_k code) 1 0 + parts_as k rule parts
  as_with_code code [] = refl
  as_with_code code (part ∷ parts) =
      as_beside (shorter_cmp code part.code) code part parts (with_code code parts) refl (as_with_code code parts)

  as_folded : (codes : List (List ℕ)) (parts : List Part)
      → parts_as k rule (fold (λ ps c. with_code c ps) parts codes) ≡ parts_as k rule parts + count_by is_k codes
  as_folded [] parts = omega arith
  as_folded (code ∷ codes) parts =
      let here = as_with_code code parts in
      let later = as_folded codes (with_code code parts) in
      let first = count_first is_k code codes in
      omega (arith, here, later, first)

  -- how many of the codes that are counted are this one
  pub as_counted : (codes : List (List ℕ)) → parts_as k rule (counted_codes codes) ≡ count_by is_k codes
  as_counted codes = as_folded codes [] ∙ omega arith

-- ---- lists

module _ {A : Type 0} where
  -- one of these passes
  pub record Passes (p : A → Bool) (xs : List A) : Type 0 where
    pub one : A
    pub among : Contains xs one
    pub passes : p one ≡ true

  pub passing : (p : A → Bool) (xs : List A) → 1 ≤ count_by p xs → Passes p xs
  passing p [] some = absurd (omega arith)
  passing p (x ∷ xs) some =
      let first = count_first p x xs in
      elim (cases_Bool (p x)) [
        | inl holds ↦ record { one = x; among = Contains-head x xs; passes = holds }
        | inr fails ↦
            let none = ap {B = ℕ} (λ b. cond b 1 0) fails in
            let rest = passing p xs (omega (arith, first, none, some)) in
            record { one = rest.one; among = Contains-later x rest.one xs rest.among; passes = rest.passes }
      ]

  pub some_count : (p : A → Bool) (x : A) (xs : List A) → Contains xs x → p x ≡ true → 1 ≤ count_by p xs
  some_count p x [] at holds = let none : at.0 < 0 = at.1 in absurd (omega arith)
  some_count p x (y ∷ ys) at holds =
      let first = count_first p y ys in
      elim (head_or_later y x ys at.0 at.1 at.2) [
        | inl e ↦ let one = ap {B = ℕ} (λ b. cond b 1 0) (ap p e ∙ holds) in omega (arith, first, one)
        | inr later ↦ let more = some_count p x ys later holds in omega (arith, first, more)
      ]

  -- one of these adds something
  pub record Adds (f : A → ℕ) (xs : List A) : Type 0 where
    pub one : A
    pub among : Contains xs one
    pub adds : 1 ≤ f one

  pub adding : (f : A → ℕ) (xs : List A) → 1 ≤ sum_by f xs → Adds f xs
  adding f [] some = absurd (omega arith)
  adding f (x ∷ xs) some = first (f x) refl (λ rest. adding f xs rest)
    where
      first : (n : ℕ) → f x ≡ n → (1 ≤ sum_by f xs → Adds f xs) → Adds f (x ∷ xs)
      first zero e later =
          let whole = sum_by-cons f x xs in
          let r = later (omega (arith, whole, some, e)) in
          record { one = r.one; among = Contains-later x r.one xs r.among; adds = r.adds }
      first (suc n) e later = record { one = x; among = Contains-head x xs; adds = omega (arith, e) }

  pub some_sum : (f : A → ℕ) (x : A) (xs : List A) → Contains xs x → 1 ≤ f x → 1 ≤ sum_by f xs
  some_sum f x [] at some = let none : at.0 < 0 = at.1 in absurd (omega arith)
  some_sum f x (y ∷ ys) at some =
      let first = sum_by-cons f y ys in
      elim (head_or_later y x ys at.0 at.1 at.2) [
        | inl e ↦ let same = ap f e in omega (arith, first, same, some)
        | inr later ↦ let more = some_sum f x ys later some in omega (arith, first, more)
      ]
