-- Objects are counted with the same result in whatever order their codes come, or they themselves.
use Rattle.std.proofs.Common.{◌≡◌, ℕ, zero, suc, ◌<◌, List, [], ◌∷◌, ◌++◌, length, flat_map, fold, get_or, set, sym, refl, ap, ◌∙◌, arith}
use Rattle.std.specs.List.{swap}
use Rattle.std.specs.List.Sorted.{IsPermutation, SwapsInRange, apply_swaps}
use Rattle.std.proofs.lemmas.List.Sorted.{IsPermutation-append_comm, length_permutation}
use Rattle.std.proofs.lemmas.List.Sums.{fold-append}
use Rattle.life_answer.specs.declared.part.Part.{Part}
use Rattle.life_answer.specs.Parts.{counted_codes, objects_in, with_code, with_codes}
use Rattle.life_answer.proofs.Counted.{commutes, one_more}

-- ---- what is counted in any order, since any two may change places

module _ {X : Type 0} (with : X → List Part → List Part)
    (either_first : (x y : X) (parts : List Part) → with x (with y parts) ≡ with y (with x parts)) where
  -- the first counted last
  abbrev gather : List X → List Part
  gather [] = []
  gather (x ∷ xs) = with x (gather xs)

  pub absorbs : (xs : List X) (x : X) (parts : List Part) →
      fold (λ ps y. with y ps) (with x parts) xs ≡ with x (fold (λ ps y. with y ps) parts xs)
  absorbs [] x parts = refl
  absorbs (y ∷ ys) x parts =
      ap (λ ps. fold (λ qs z. with z qs) ps ys) (either_first y x parts) ∙ absorbs ys x (with y parts)

  pub gathers : (xs : List X) → fold (λ ps y. with y ps) [] xs ≡ gather xs
  gathers [] = refl
  gathers (x ∷ xs) = absorbs xs x [] ∙ ap (with x) (gathers xs)

  -- two change places
  trade : (xs : List X) (j : ℕ) (x d : X) → j < length xs →
      with (get_or xs j d) (gather (set xs j x)) ≡ with x (gather xs)
  trade [] j x d h = absurd (omega arith)
  trade (y ∷ ys) zero x d h = either_first y x (gather ys)
  trade (y ∷ ys) (suc j) x d h =
      either_first (get_or ys j d) y (gather (set ys j x))
      ∙ ap (with y) (trade ys j x d (omega arith))
      ∙ either_first y x (gather ys)

  swapped : (xs : List X) (i j : ℕ) (d : X) → i < length xs → j < length xs →
      gather (set (set xs i (get_or xs j d)) j (get_or xs i d)) ≡ gather xs
  swapped [] i j d h k = absurd (omega arith)
  swapped (x ∷ xs) zero zero d h k = refl
  swapped (x ∷ xs) zero (suc j) d h k = trade xs j x d (omega arith)
  swapped (x ∷ xs) (suc i) zero d h k = trade xs i x d (omega arith)
  swapped (x ∷ xs) (suc i) (suc j) d h k = ap (with x) (swapped xs i j d (omega arith) (omega arith))

  swap_same : (xs : List X) (i j : ℕ) → i < length xs → j < length xs → gather (swap xs i j) ≡ gather xs
  swap_same [] i j h k = refl
  swap_same (x ∷ xs) i j h k = swapped (x ∷ xs) i j x h k

  swaps_same : (xs : List X) (moves : List (ℕ × ℕ)) → SwapsInRange (length xs) moves →
      gather (apply_swaps xs moves) ≡ gather xs
  swaps_same xs [] below = refl
  swaps_same xs (m ∷ ms) below =
      let within = below.2 in
      let long : length (apply_swaps xs ms) ≡ length xs =
      length_permutation xs (apply_swaps xs ms) (record { moves = ms; below = within; is = refl }) in
      swap_same (apply_swaps xs ms) m.0 m.1 (omega (arith, long, below.0)) (omega (arith, long, below.1))
      ∙ swaps_same xs ms within

  pub in_any_order : (xs ys : List X) → IsPermutation xs ys →
      fold (λ ps x. with x ps) [] xs ≡ fold (λ ps x. with x ps) [] ys
  in_any_order xs ys p =
      gathers xs ∙ sym (swaps_same xs p.moves p.below) ∙ ap gather (sym p.is) ∙ sym (gathers ys)

-- ---- codes

pub counted_permutation : (codes others : List (List ℕ)) → IsPermutation codes others →
    counted_codes codes ≡ counted_codes others
counted_permutation = in_any_order with_code commutes

gather_all : (codes : List (List ℕ)) → objects_in (gather with_code commutes codes) ≡ length codes
gather_all [] = refl
gather_all (code ∷ codes) =
    let before : objects_in (gather with_code commutes codes) ≡ length codes = gather_all codes in
    let here = one_more code (gather with_code commutes codes) in
    omega arith

pub counted_all : (codes : List (List ℕ)) → objects_in (counted_codes codes) ≡ length codes
counted_all codes = ap objects_in (gathers with_code commutes codes) ∙ gather_all codes

-- codes that count alike do so with others
pub counted_after : (others codes alike : List (List ℕ)) → counted_codes codes ≡ counted_codes alike →
    counted_codes (others ++ codes) ≡ with_codes alike (counted_codes others)
counted_after others codes alike same =
    counted_permutation (others ++ codes) (codes ++ others) (IsPermutation-append_comm others codes)
    ∙ fold-append (λ ps c. with_code c ps) [] codes others
    ∙ ap (with_codes others) same
    ∙ sym (fold-append (λ ps c. with_code c ps) [] alike others)
    ∙ counted_permutation (alike ++ others) (others ++ alike) (IsPermutation-append_comm alike others)
    ∙ fold-append (λ ps c. with_code c ps) [] others alike

-- ---- things that have several codes each

with_either_first : (codes others : List (List ℕ)) (parts : List Part) →
    with_codes codes (with_codes others parts) ≡ with_codes others (with_codes codes parts)
with_either_first [] others parts = refl
with_either_first (code ∷ codes) others parts =
    ap (with_codes codes) (sym (absorbs with_code commutes others code parts))
    ∙ with_either_first codes others (with_code code parts)

module _ {X : Type 0} (codes_of : X → List (List ℕ)) where
  one_by_one : (xs : List X) (parts : List Part) →
      with_codes (flat_map codes_of xs) parts ≡ fold (λ ps x. with_codes (codes_of x) ps) parts xs
  one_by_one [] parts = refl
  one_by_one (x ∷ xs) parts =
      fold-append (λ ps c. with_code c ps) parts (codes_of x) (flat_map codes_of xs)
      ∙ one_by_one xs (with_codes (codes_of x) parts)

  pub all_codes_in_any_order : (xs ys : List X) → IsPermutation xs ys →
      counted_codes (flat_map codes_of xs) ≡ counted_codes (flat_map codes_of ys)
  all_codes_in_any_order xs ys p =
      one_by_one xs []
      ∙ in_any_order (λ x. with_codes (codes_of x)) (λ x y. with_either_first (codes_of x) (codes_of y)) xs ys p
      ∙ sym (one_by_one ys [])
