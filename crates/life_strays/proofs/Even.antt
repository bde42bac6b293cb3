-- The generations of ash have nearly as many cells in each stretch as in any other that is as long.
use Rattle.std.proofs.Common.{◌≡◌, ℕ, zero, suc, ◌+◌, ◌-◌, ◌*◌, ◌≤◌, List, [], ◌∷◌, slice_index_or, sym, ap, subst, ◌∙◌, arith}
use Rattle.std.specs.List.{All, AllPairs}
use Rattle.std.proofs.lemmas.List.Elements.{All-head, All-tail}
use Rattle.life_model.specs.Rule.{Rule}
use Rattle.life_model.specs.Evolution.{generation}
use Rattle.life_model.specs.Generation.{Generation, empty, size}
use Rattle.life_model.proofs.Generations.{size-empty}
use Rattle.life_model.proofs.Recurrences.{generation-add}
use Rattle.life_model.proofs.Lists.{size-moved}
use Rattle.life_objects.specs.Apart.{AreApartForEver}
use Rattle.life_objects.specs.Ash.{IsAsh, IsObject, RecursWithin}
use Rattle.life_objects.specs.Union.{union, union_of}
use Rattle.life_objects.proofs.Lists.{AllPairs-head, AllPairs-tail}
use Rattle.life_objects.proofs.OneList.{apart_from_list}
use Rattle.life_objects.proofs.Recurring.{RecursBy-later}
use Rattle.life_objects.proofs.Times.{disjoint_ever, generation-empty, generation-union_ever}
use Rattle.life_objects.proofs.Unions.{size-disjoint}
use Rattle.life_strays.specs.Totals.{AreTotals, IsUneven, total}
use Rattle.life_strays.proofs.Sums.{even, rises}

module _ (R : Rule) where
  -- how many cells a set has then
  abbrev size_at : Generation → ℕ → ℕ
  size_at G m = size (generation R G m)

  none : (n : ℕ) → total R empty n ≡ 0
  none zero = omega arith
  none (suc n) = let h = none n in let e : size_at empty n ≡ 0 = ap size (generation-empty R n) ∙ size-empty in omega arith

  adds : (P Q : Generation) → AreApartForEver R P Q → (n : ℕ) → total R (union P Q) n ≡ total R P n + total R Q n
  adds P Q far zero = omega arith
  adds P Q far (suc n) =
      let h = adds P Q far n in
      let e : size_at (union P Q) n ≡ size_at P n + size_at Q n =
      ap size (generation-union_ever R n P Q far)
      ∙ size-disjoint (generation R P n) (generation R Q n) (disjoint_ever R n P Q far) in
      omega arith

  module _ (b k : ℕ) where
    -- no k stretches of b generations have more than (k + 1) / k times as many cells as any other k
    abbrev IsEven : Generation → Type 0
    IsEven G =
        (s t : ℕ) →
        k * (total R G (t + k * b) - total R G t) ≤ (k + 1) * (total R G (s + k * b) - total R G s)

    one_even : (P : Generation) → RecursWithin R b P → IsEven P
    one_even P r =
        even (size_at P) r.steps b k
        (λ n.
        ap size (sym (generation-add R P n r.steps) ∙ (RecursBy-later R P r.steps r.by r.recurs n).again)
        ∙ size-moved (generation R P n) r.by)
        r.recurs.later r.within

    none_even : IsEven empty
    none_even s t =
        let x = none (t + k * b) in
        let y : total R empty (t + k * b) - total R empty t ≡ 0 = omega arith in
        let z : k * (total R empty (t + k * b) - total R empty t) ≡ k * 0 = ap (λ w. k * w) y in
        omega arith

    both_even : (P Q : Generation) → AreApartForEver R P Q → IsEven P → IsEven Q → IsEven (union P Q)
    both_even P Q far p q s t =
        let l : ℕ = k * b in
        let w : total R (union P Q) (t + l) - total R (union P Q) t
        ≡ (total R P (t + l) - total R P t) + (total R Q (t + l) - total R Q t) =
        (let a = adds P Q far (t + l) in
        let c = adds P Q far t in
        let e = rises (size_at P) t l in
        let g = rises (size_at Q) t l in
        omega arith) in
        let v : total R (union P Q) (s + l) - total R (union P Q) s
        ≡ (total R P (s + l) - total R P s) + (total R Q (s + l) - total R Q s) =
        (let a = adds P Q far (s + l) in
        let c = adds P Q far s in
        let e = rises (size_at P) s l in
        let g = rises (size_at Q) s l in
        omega arith) in
        let x = p s t in
        let y = q s t in
        let high : k * (total R (union P Q) (t + l) - total R (union P Q) t)
        ≡ k * (total R P (t + l) - total R P t) + k * (total R Q (t + l) - total R Q t) =
        ap (λ n. k * n) w ∙ (let e : k * ((total R P (t + l) - total R P t) + (total R Q (t + l) - total R Q t))
        ≡ k * (total R P (t + l) - total R P t) + k * (total R Q (t + l) - total R Q t) = omega arith in e) in
        let low : (k + 1) * (total R (union P Q) (s + l) - total R (union P Q) s)
        ≡ (k + 1) * (total R P (s + l) - total R P s) + (k + 1) * (total R Q (s + l) - total R Q s) =
        ap (λ n. (k + 1) * n) v ∙ (let e : (k + 1) * ((total R P (s + l) - total R P s) + (total R Q (s + l) - total R Q s))
        ≡ (k + 1) * (total R P (s + l) - total R P s) + (k + 1) * (total R Q (s + l) - total R Q s) = omega arith in e) in
        omega arith

    all_even : (Ps : List Generation) → AllPairs (AreApartForEver R) Ps → All (IsObject R b) Ps → IsEven (union_of Ps)
    all_even [] far objects = none_even
    all_even (P ∷ Ps) far objects =
        both_even P (union_of Ps)
        (apart_from_list R P Ps (AllPairs-head (AreApartForEver R) P Ps far) (AllPairs-tail (AreApartForEver R) P Ps far))
        (one_even P (All-head (IsObject R b) P Ps objects).recurs)
        (all_even Ps (AllPairs-tail (AreApartForEver R) P Ps far) (All-tail (IsObject R b) P Ps objects))

  -- so what has uneven totals is no ash
  pub uneven_is_no_ash : (b : ℕ) (G : Generation) (totals : List ℕ) → AreTotals R b G totals → IsUneven totals →
      (parts : List Generation) → IsAsh R b G parts → ⊥
  uneven_is_no_ash b G totals are uneven parts ash =
      let k : ℕ = uneven.count in
      let s : ℕ = uneven.lesser in
      let t : ℕ = uneven.greater in
      let within_s = uneven.has_lesser in
      let within_t = uneven.has_greater in
      let few = subst (IsEven b k) ash.together (all_even b k parts ash.apart ash.objects) (s * b) (t * b) in
      let s0 = are s 0 (omega arith) in
      let s1 : slice_index_or totals (s + k) 0 ≡ total R G (s * b + k * b) =
      are (s + k) 0 within_s ∙ ap (total R G) (let e : (s + k) * b ≡ s * b + k * b = omega arith in e) in
      let t0 = are t 0 (omega arith) in
      let t1 : slice_index_or totals (t + k) 0 ≡ total R G (t * b + k * b) =
      are (t + k) 0 within_t ∙ ap (total R G) (let e : (t + k) * b ≡ t * b + k * b = omega arith in e) in
      let high : slice_index_or totals (t + k) 0 - slice_index_or totals t 0
      ≡ total R G (t * b + k * b) - total R G (t * b) = omega arith in
      let low : slice_index_or totals (s + k) 0 - slice_index_or totals s 0
      ≡ total R G (s * b + k * b) - total R G (s * b) = omega arith in
      let more = uneven.more 0 in
      let x = ap (λ n. k * n) high in
      let y = ap (λ n. (k + 1) * n) low in
      absurd (omega arith)
