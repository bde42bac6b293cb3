-- How many cells later generations may have.
use Rattle.std.proofs.Common.{◌≡◌, ℕ, zero, suc, ◌+◌, ◌*◌, ◌<◌, ◌≤◌, ℤ, pos, negsuc, neg_ℤ, ◌+ℤ◌, ◌-ℤ◌, ◌≤ℤ◌, Bool, true, false, not, ◌&&◌, List, [], ◌∷◌, length, filter, flat_map, map}
use Rattle.std.proofs.Common.{◌-◌, Option, inl, inr, refl, sym, ap, subst, ◌∙◌, mul-le-mul, arith}
use Rattle.std.specs.List.{Contains, list_any}
use Rattle.std.proofs.lemmas.Bool.{cases_lt, or_left, or_right}
use Rattle.std.proofs.lemmas.Int.{ints}
use Rattle.std.proofs.lemmas.List.{length-append}
use Rattle.std.proofs.lemmas.List.Filters.{length-filter_both}
use Rattle.std.proofs.lemmas.Map.Views.{any-filter_same}
use Rattle.life_model.specs.Cell.{Cell, same_cell}
use Rattle.life_model.specs.Evolution.{generation}
use Rattle.life_model.specs.Generation.{Generation, cells, contains, from_list, size}
use Rattle.life_model.specs.Rule.{Rule}
use Rattle.life_model.proofs.Cells.{same_cell-is}
use Rattle.life_model.proofs.Generations.{contains-from_list, same_members, size-cells}
use Rattle.life_model.proofs.Members.{in_cells}
use Rattle.life_model.proofs.Near.{next_near}
use Rattle.life_model.proofs.Recurrences.{generation-add, generation-next, generation-zero}
use Rattle.life_growth.specs.Meeting.Listed.{numbers_below}
use Rattle.life_objects.proofs.Found.{Contains-flat_map}
use Rattle.life_objects.proofs.Lists.{head_or_later}
use Rattle.life_growth.proofs.MeetingLemmas.Listed.{listed_below}
use Rattle.life_growth.proofs.MeetingLemmas.Reach.{mapped}
use Rattle.life_answer.specs.Limited.{IsAllowed}
use Rattle.life_answer.proofs.Sizes.{size-from_list}
use Rattle.life_ash.specs.Allowed.{AreAllowedBefore}

-- ---- sets in lists

any_of : (c : Cell) (cs : List Cell) → Contains cs c → list_any (same_cell c) cs ≡ true
any_of c [] one = let none : one.0 < 0 = one.1 in absurd (omega arith)
any_of c (d ∷ ds) one =
    elim (head_or_later d c ds one.0 one.1 one.2) [
      | inl e ↦ or_left _ _ ((same_cell-is c d).1 (sym e))
      | inr later ↦ or_right _ _ (any_of c ds later)
    ]

filtered : (H : Generation) (cs : List Cell) → ((c : Cell) → contains H c ≡ true → Contains cs c) → (c : Cell) →
    contains H c ≡ contains (from_list (filter (contains H) cs)) c
filtered H cs all c =
    let kept : contains (from_list (filter (contains H) cs)) c ≡ (contains H c && list_any (same_cell c) cs) =
    contains-from_list (filter (contains H) cs) c
    ∙ any-filter_same (same_cell c) (contains H) (contains H c) (λ d same. ap (contains H) (sym ((same_cell-is c d).0 same))) cs in
    elim (contains H c) as (λ b. contains H c ≡ b → contains H c ≡ contains (from_list (filter (contains H) cs)) c) [
      | true ↦ λ live. live ∙ sym (kept ∙ (λ i. live i && any_of c cs (all c live) i))
      | false ↦ λ dead. dead ∙ sym (kept ∙ ap (λ b. b && list_any (same_cell c) cs) dead)
    ] refl

length-filter : (p : Cell → Bool) (cs : List Cell) → length (filter p cs) ≤ length cs
length-filter p cs = let e = length-filter_both p (λ c. not (p c)) (λ c. refl) cs in omega arith

-- a set has no more cells than a list that has all of them
size_listed : (H : Generation) (cs : List Cell) → ((c : Cell) → contains H c ≡ true → Contains cs c) → size H ≤ length cs
size_listed H cs all =
    let same : size H ≡ size (from_list (filter (contains H) cs)) = ap size (same_members _ _ (filtered H cs all)) in
    let few = size-from_list (filter (contains H) cs) in
    let fewer = length-filter (contains H) cs in
    omega arith

-- ---- squares of cells

abbrev offsets : ℕ → List ℤ
offsets k = map (λ m. pos m -ℤ pos k) (numbers_below (2 * k + 1))

abbrev square : ℕ → Cell → List Cell
square k c = flat_map (λ x. map (λ y. (c.0 +ℤ x, c.1 +ℤ y)) (offsets k)) (offsets k)

length-map : {X Y : Type 0} (f : X → Y) (xs : List X) → length (map f xs) ≡ length xs
length-map f [] = refl
length-map f (x ∷ xs) = ap suc (length-map f xs)

length_each : {X Y : Type 0} (f : X → List Y) (w : ℕ) → ((x : X) → length (f x) ≡ w) → (xs : List X) →
    length (flat_map f xs) ≡ length xs * w
length_each f w each [] = omega arith
length_each f w each (x ∷ xs) =
    let first = each x in
    let rest = length_each f w each xs in
    let both = length-append (f x) (flat_map f xs) in
    omega arith

length_below : (n : ℕ) → length (numbers_below n) ≡ n
length_below zero = refl
length_below (suc n) = ap suc (length_below n)

length_offsets : (k : ℕ) → length (offsets k) ≡ 2 * k + 1
length_offsets k = length-map (λ m. pos m -ℤ pos k) (numbers_below (2 * k + 1)) ∙ length_below (2 * k + 1)

length_square : (k : ℕ) (c : Cell) → length (square k c) ≡ (2 * k + 1) * (2 * k + 1)
length_square k c =
    length_each (λ x. map (λ y. (c.0 +ℤ x, c.1 +ℤ y)) (offsets k)) (2 * k + 1)
    (λ x. length-map (λ y. (c.0 +ℤ x, c.1 +ℤ y)) (offsets k) ∙ length_offsets k) (offsets k)
    ∙ ap (λ n. n * (2 * k + 1)) (length_offsets k)

-- a and b are within k of each other in both directions
record IsNoFurther (k : ℕ) (a b : Cell) : Type 0 where
  left : (b.0 -ℤ pos k) ≤ℤ a.0
  right : a.0 ≤ℤ (b.0 +ℤ pos k)
  above : (b.1 -ℤ pos k) ≤ℤ a.1
  below : a.1 ≤ℤ (b.1 +ℤ pos k)

offset : (k : ℕ) (x : ℤ) → neg_ℤ (pos k) ≤ℤ x → x ≤ℤ pos k → Contains (offsets k) x
offset k x low high =
    elim (x +ℤ pos k) as (λ z. x +ℤ pos k ≡ z → Contains (offsets k) x) [
      | pos m ↦ λ is.
          let few : m < 2 * k + 1 = omega (arith, ints) in
          let same : pos m -ℤ pos k ≡ x = omega (arith, ints) in
          subst (Contains (offsets k)) same
          (mapped (λ m. pos m -ℤ pos k) (numbers_below (2 * k + 1)) m (listed_below (2 * k + 1) m few))
      | negsuc m ↦ λ is. absurd (omega (arith, ints))
    ] refl

in_square : (k : ℕ) (a b : Cell) → IsNoFurther k a b → Contains (square k b) a
in_square k a b near =
    let x = a.0 -ℤ b.0 in
    let y = a.1 -ℤ b.1 in
    let left = near.left in
    let right = near.right in
    let above = near.above in
    let below = near.below in
    let column : b.0 +ℤ x ≡ a.0 = omega (arith, ints) in
    let row : b.1 +ℤ y ≡ a.1 = omega (arith, ints) in
    subst (Contains (square k b)) (λ i. (column i, row i))
    (Contains-flat_map (λ u. map (λ v. (b.0 +ℤ u, b.1 +ℤ v)) (offsets k)) (offsets k) x (b.0 +ℤ x, b.1 +ℤ y)
    (offset k x (omega (arith, ints)) (omega (arith, ints)))
    (mapped (λ v. (b.0 +ℤ x, b.1 +ℤ v)) (offsets k) y (offset k y (omega (arith, ints)) (omega (arith, ints)))))

-- ---- later generations

-- each cell of a later generation is no further from one of these than there are generations between
come_from : (R : Rule) (G : Generation) (k : ℕ) (a : Cell) → contains (generation R G k) a ≡ true →
    (b : Cell) × (contains G b ≡ true) × IsNoFurther k a b
come_from R G zero a live = (
  a,
  ap (λ H. contains H a) (sym (generation-zero R G)) ∙ live,
  record {
    left = omega (arith, ints);
    right = omega (arith, ints);
    above = omega (arith, ints);
    below = omega (arith, ints);
  },
)
come_from R G (suc k) a live =
    let more : suc k ≡ k + 1 = omega arith in
    let q = next_near R (generation R G k) a
    (ap (λ H. contains H a) (sym (generation-next R G k)) ∙ ap (λ n. contains (generation R G n) a) (sym more) ∙ live) in
    let r = come_from R G k q.0 q.1 in
    let one = q.2 in
    let rest = r.2 in (
      r.0,
      r.1,
      record {
        left = let a = one.left in let b = rest.left in omega (arith, ints);
        right = let a = one.right in let b = rest.right in omega (arith, ints);
        above = let a = one.above in let b = rest.above in omega (arith, ints);
        below = let a = one.below in let b = rest.below in omega (arith, ints);
      },
    )

-- k generations later there are no more than (2 k + 1) (2 k + 1) times as many cells
pub size_later : (R : Rule) (G : Generation) (k : ℕ) →
    size (generation R G k) ≤ size G * ((2 * k + 1) * (2 * k + 1))
size_later R G k =
    let few = size_listed (generation R G k) (flat_map (square k) (cells G))
    (λ a live.
    let q = come_from R G k a live in
    Contains-flat_map (square k) (cells G) q.0 a (in_cells G q.0 q.1) (in_square k a q.0 q.2)) in
    let w = (2 * k + 1) * (2 * k + 1) in
    subst (λ n. size (generation R G k) ≤ n)
    (length_each (square k) w (length_square k) (cells G) ∙ ap (λ n. n * w) (sym (size-cells G))) few

-- the next three generations have no more than 49 times as many cells
pub three_later : (R : Rule) (G : Generation) (n : ℕ) → n < 4 → size (generation R G n) ≤ 49 * size G
three_later R G zero h = let most = size_later R G 0 in omega arith
three_later R G (suc zero) h = let most = size_later R G 1 in omega arith
three_later R G (suc (suc zero)) h = let most = size_later R G 2 in omega arith
three_later R G (suc (suc (suc zero))) h = let most = size_later R G 3 in omega arith
three_later R G (suc (suc (suc (suc n)))) h = absurd (omega arith)

-- n generations later there are no more cells than times (2 k + 1) (2 k + 1), where n is no more than k
pub size_until : (R : Rule) (G : Generation) (k n : ℕ) → n ≤ k →
    size (generation R G n) ≤ size G * ((2 * k + 1) * (2 * k + 1))
size_until R G k n h =
    let most = size_later R G n in
    let wide : (2 * n + 1) * (2 * n + 1) ≤ (2 * k + 1) * (2 * k + 1) = mul-le-mul (omega arith) (omega arith) in
    let more : size G * ((2 * n + 1) * (2 * n + 1)) ≤ size G * ((2 * k + 1) * (2 * k + 1)) = mul-le-mul (omega arith) wide in
    omega arith

-- all are allowed before generation n + k, where those before n are, and `more` generations from n on
pub allowed_on : (R : Rule) (G : Generation) (limit : Option ℕ) (n more k : ℕ) → AreAllowedBefore R G limit n →
    AreAllowedBefore R (generation R G n) limit more → k ≤ more → AreAllowedBefore R G limit (n + k)
allowed_on R G limit n more k before on few m h =
    elim (cases_lt m n) [
      | inl early ↦ before m early
      | inr late ↦
          let there : n + (m - n) ≡ m = omega arith in
          subst (λ H. IsAllowed limit (size H)) (generation-add R G n (m - n) ∙ ap (generation R G) there)
          (on (m - n) (omega arith))
    ]
