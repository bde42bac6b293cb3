-- Which of several sets has a cell.
use Rattle.std.proofs.Common.{◌≡◌, ℕ, ◌+◌, ◌<◌, ◌≤◌, true, false, List, [], ◌∷◌, ◌++◌, length, get_or, inl, inr, sym, ap, subst, ◌∙◌, true≢false, arith}
use Rattle.std.proofs.lemmas.Bool.{cases_lt}
use Rattle.std.proofs.lemmas.List.{get_or_default, get_or_append_left, get_or_push}
use Rattle.std.proofs.lemmas.List.Folds.{Any-from_list_any}
use Rattle.life_model.specs.Cell.{Cell}
use Rattle.life_model.specs.Generation.{Generation, contains, empty}
use Rattle.life_objects.specs.Union.{union_of}
use Rattle.life_objects.proofs.Unions.{contains-union_of}
use Rattle.life_tracks.specs.Frames.Frames.{IsBeside}

-- one more set doesn't have the cell
pub one_more_without : (Ps : List Generation) (c : Cell) (n : ℕ) (P : Generation) → n < length Ps → P ≡ get_or Ps n P →
    contains P c ≡ false → ((k : ℕ) → k < n → contains (get_or Ps k empty) c ≡ false) → (k : ℕ) → k < n + 1 →
    contains (get_or Ps k empty) c ≡ false
one_more_without Ps c n P inside is never all k below = elim (cases_lt k n) [
  | inl before ↦ all k before
  | inr past ↦
      let here : n ≡ k = omega arith in
      ap (λ j. contains (get_or Ps j empty) c) (sym here)
      ∙ ap (λ H. contains H c) (sym (is ∙ get_or_default Ps n P empty inside)) ∙ never
]

pub none_has : (Ps : List Generation) (c : Cell) (n : ℕ) → length Ps ≤ n →
    ((k : ℕ) → k < n → contains (get_or Ps k empty) c ≡ false) → contains (union_of Ps) c ≡ true → ⊥
none_has Ps c n past all h =
    let one = Any-from_list_any (λ H. contains H c) Ps (sym (contains-union_of Ps c) ∙ h) in
    let within : one.0 < length Ps = one.2 in
    true≢false (sym (ap (λ H. contains H c) (get_or_default Ps one.0 empty one.1 within ∙ one.3) ∙ one.4) ∙ all one.0 (omega arith))

-- one more place
pub one_place_more : (G : Generation) (Ps Qs : List Generation) (n : ℕ) (Q : Generation) (old new : List ℕ) (p : ℕ) →
    n < length Qs → Q ≡ get_or Qs n Q → length old ≡ n → new ≡ old ++ (p ∷ []) → IsBeside G Ps Q p →
    ((j : ℕ) → j < n → IsBeside G Ps (get_or Qs j empty) (get_or old j 0)) → (j : ℕ) → j < n + 1 →
    IsBeside G Ps (get_or Qs j empty) (get_or new j 0)
one_place_more G Ps Qs n Q old new p inside is long made one all j below = elim (cases_lt j n) [
  | inl before ↦
      subst (IsBeside G Ps (get_or Qs j empty))
      (sym (ap (λ v. get_or v j 0) made ∙ get_or_append_left old (p ∷ []) 0 j (subst (λ m. j < m) (sym long) before)))
      (all j before)
  | inr past ↦
      let here : n ≡ j = omega arith in
      subst (λ i. IsBeside G Ps (get_or Qs i empty) (get_or new i 0)) here
      (subst (IsBeside G Ps (get_or Qs n empty)) (sym (ap (λ v. get_or v n 0) made ∙ get_or_push old p 0 n long))
      (subst (λ H. IsBeside G Ps H p) (is ∙ get_or_default Qs n Q empty inside) one))
]
