-- How often one step may be made to agree with a time, if another follows it.
use Rattle.std.proofs.Common.{◌≡◌, ℕ, zero, suc, ℤ, pos, negsuc, neg_ℤ, ◌+ℤ◌, ◌-ℤ◌, ◌+◌, ◌*◌, ◌/◌, ◌%◌, ◌<◌, ◌≤◌, sym, ap, subst, ◌∙◌, inl, inr, mul-le-mul_left, arith}
use Rattle.std.proofs.lemmas.Bool.{cases_lt}
use Rattle.std.specs.Int.{◌∣◌}
use Rattle.std.specs.Prelude.{unsigned_abs}
use Rattle.std.proofs.Math.IntN.{◌*ℤ◌, *ℤ_comm}
use Rattle.std.proofs.Math.Nat.{div-add-mod, div-lt_iff_lt-mul, mul-div_cancel'}
use Rattle.std.proofs.lemmas.Int.{ints, unsigned_abs-mul}
use Rattle.std.proofs.lemmas.Nat.{mod-mul-add}
use Rattle.std.proofs.lemmas.Nat.Gcd.{dvd_refl}
use Rattle.life_growth.proofs.RelationsLemmas.Products.{spreads}
use Rattle.life_things.specs.Lattice.Alike.{AreAlike}
use Rattle.life_things.proofs.LatticeLemmas.Likeness.{alike_back, alike_same, alike_through, alike_times, left_alike, whole}
use Rattle.life_things.proofs.LatticeLemmas.Lowering.{only_none, regrouped}
use Rattle.life_things.proofs.LatticeLemmas.Rising.{no_rest}

swapped : (a b x : ℤ) → (a *ℤ (b *ℤ x)) ≡ (b *ℤ (a *ℤ x))
swapped a b x = sym (regrouped a b x) ∙ ap (λ z. z *ℤ x) (*ℤ_comm a b) ∙ regrouped b a x

-- a step s, u and last lead to 0, seen modulo the size of the last
module _ (s u last : ℤ) (m g p f r : ℕ) (size : m ≡ unsigned_abs last) (pace : AreAlike m u (pos p))
    (factor : (p * f) % m ≡ g % m) (rest : AreAlike m (neg_ℤ s) (pos r)) where
  steps_alike : (n : ℕ) (k : ℤ) → (s +ℤ ((pos n *ℤ u) +ℤ (k *ℤ last))) ≡ pos 0 → AreAlike m (pos n *ℤ u) (neg_ℤ s)
  steps_alike n k e =
      let w = whole m last (subst (λ z. m ∣ z) size (dvd_refl m)) in
      let more : (k *ℤ last) ≡ (pos m *ℤ (k *ℤ w.0)) = ap (λ z. k *ℤ z) w.1 ∙ swapped k (pos m) w.0 in
      alike_back m (neg_ℤ s) (pos n *ℤ u) (k *ℤ w.0, omega (arith, ints))

  factor_alike : AreAlike m (pos f *ℤ u) (pos g)
  factor_alike =
      alike_through m (pos f *ℤ u) (pos (f * p)) (pos g) (alike_times m (pos f) u (pos p) pace)
      (alike_through m (pos (f * p)) (pos ((p * f) % m)) (pos g)
      (alike_through m (pos (f * p)) (pos (p * f)) (pos ((p * f) % m))
      (alike_same m (pos (f * p)) (pos (p * f)) (ap pos (let z : f * p ≡ p * f = omega arith in z))) (left_alike m (p * f)))
      (subst (λ n. AreAlike m (pos n) (pos g)) (sym factor) (alike_back m (pos g) (pos (g % m)) (left_alike m g))))

  rest_alike : AreAlike m (pos f *ℤ neg_ℤ s) (pos ((r * f) % m))
  rest_alike =
      alike_through m (pos f *ℤ neg_ℤ s) (pos (f * r)) (pos ((r * f) % m)) (alike_times m (pos f) (neg_ℤ s) (pos r) rest)
      (alike_through m (pos (f * r)) (pos (r * f)) (pos ((r * f) % m))
      (alike_same m (pos (f * r)) (pos (r * f)) (ap pos (let z : f * r ≡ r * f = omega arith in z))) (left_alike m (r * f)))

  pub count_alike : (n : ℕ) (k : ℤ) → (s +ℤ ((pos n *ℤ u) +ℤ (k *ℤ last))) ≡ pos 0 →
      AreAlike m (pos (n * g)) (pos ((r * f) % m))
  count_alike n k e =
      alike_through m (pos (n * g)) (pos n *ℤ (pos f *ℤ u)) (pos ((r * f) % m))
      (alike_back m (pos n *ℤ (pos f *ℤ u)) (pos (n * g)) (alike_times m (pos n) (pos f *ℤ u) (pos g) factor_alike))
      (alike_through m (pos n *ℤ (pos f *ℤ u)) (pos f *ℤ (pos n *ℤ u)) (pos ((r * f) % m))
      (alike_same m (pos n *ℤ (pos f *ℤ u)) (pos f *ℤ (pos n *ℤ u)) (swapped (pos n) (pos f) u))
      (alike_through m (pos f *ℤ (pos n *ℤ u)) (pos f *ℤ neg_ℤ s) (pos ((r * f) % m))
      (alike_times m (pos f) (pos n *ℤ u) (neg_ℤ s) (steps_alike n k e)) rest_alike))

-- ---- the numbers themselves

module _ (m g rest : ℕ) (some : 1 ≤ g) (divides : g ∣ m) where
  abbrev e : ℕ
  e = m / g

  whole_parts : g * e ≡ m
  whole_parts = mul-div_cancel' g divides

  pub first_less : rest < m → rest / g < e
  first_less less =
      (div-lt_iff_lt-mul (let z : 0 < g = omega arith in z)).1
      (let parts = whole_parts in (let z : rest < e * g = omega arith in z))

  some_parts : (k : ℕ) → 1 ≤ g * k → 1 ≤ k
  some_parts zero h = absurd (omega arith)
  some_parts (suc k) h = omega arith

  pub some_turn : 1 ≤ m → 1 ≤ e
  some_turn one = some_parts e (let parts = whole_parts in omega arith)

  in_parts : (k : ℤ) → (pos m *ℤ k) ≡ (pos g *ℤ (pos e *ℤ k))
  in_parts k =
      ap (λ z. pos z *ℤ k) (sym (mul-div_cancel' g divides)) ∙ regrouped (pos g) (pos e) k

  pub divided_rest : (n : ℕ) → AreAlike m (pos (n * g)) (pos rest) → rest % g ≡ 0
  divided_rest n h =
      let back = alike_back m (pos (n * g)) (pos rest) h in
      let turned : n * g ≡ g * n = omega arith in
      let it : pos rest ≡ (pos g *ℤ (pos n +ℤ (pos e *ℤ back.0))) =
      back.1 ∙ (λ i. pos (turned i) +ℤ in_parts back.0 i) ∙ sym (spreads (pos g) (pos n) (pos e *ℤ back.0)) in
      let size = unsigned_abs-mul (pos g) (pos n +ℤ (pos e *ℤ back.0)) in
      let same : rest ≡ unsigned_abs (pos g *ℤ (pos n +ℤ (pos e *ℤ back.0))) = ap unsigned_abs it in
      no_rest rest (unsigned_abs (pos n +ℤ (pos e *ℤ back.0))) g some (omega arith)

  cancelled : (x y : ℤ) → (pos g *ℤ x) ≡ (pos g *ℤ y) → x ≡ y
  cancelled x y same =
      let apart : (pos g *ℤ (x -ℤ y)) ≡ pos 0 =
      (let both = spreads (pos g) (x -ℤ y) y in
      let back : (pos g *ℤ ((x -ℤ y) +ℤ y)) ≡ (pos g *ℤ x) = ap (λ z. pos g *ℤ z) (let z : (x -ℤ y) +ℤ y ≡ x = omega (arith, ints) in z) in
      omega (arith, ints)) in
      let none = only_none g (x -ℤ y) some apart in
      omega (arith, ints)

  in_turn : (n first : ℕ) (k : ℤ) → first < e → pos n ≡ (pos first +ℤ (pos e *ℤ k)) → n % e ≡ first
  in_turn n first (pos j) less it =
      ap (λ z. z % e) (let z : n ≡ j * e + first = omega (arith, ints) in z) ∙ mod-mul-add j e first less
  in_turn n first (negsuc j) less it =
      let more : e * 1 ≤ e * suc j = mul-le-mul_left e (let z : 1 ≤ suc j = omega arith in z) in
      absurd (omega (arith, ints))

  pub turn_is : (n : ℕ) → rest < m → rest % g ≡ 0 → AreAlike m (pos (n * g)) (pos rest) → n % e ≡ rest / g
  turn_is n less none h =
      let parts = div-add-mod rest g in
      let it : (pos g *ℤ pos n) ≡ (pos g *ℤ (pos (rest / g) +ℤ (pos e *ℤ h.0))) =
      ap pos (let z : g * n ≡ n * g = omega arith in z) ∙ h.1
      ∙ (λ i. pos ((let z : rest ≡ g * (rest / g) = omega arith in z) i) +ℤ in_parts h.0 i)
      ∙ sym (spreads (pos g) (pos (rest / g)) (pos e *ℤ h.0)) in
      in_turn n (rest / g) h.0 (first_less less)
      (cancelled (pos n) (pos (rest / g) +ℤ (pos e *ℤ h.0)) it)

-- ---- the numbers of a turn

of_turn : (g a f : ℕ) → a % g ≡ f → a ≡ g * (a / g) + f
of_turn g a f it = let parts = div-add-mod a g in omega arith

later_quotient : (g a b : ℕ) → g * a < g * b → a < b
later_quotient g a b less =
    elim (cases_lt a b) [
      | inl it ↦ it
      | inr other ↦
          let more : g * b ≤ g * a = mul-le-mul_left g (let z : b ≤ a = omega arith in z) in
          absurd (omega arith)
    ]

-- no number between one of a turn and the next is of the turn
pub out_of_turn : (g f a n : ℕ) → a % g ≡ f → a < n → n < a + g → n % g ≡ f → ⊥
out_of_turn g f a n first late early second =
    let one = of_turn g a f first in
    let two = of_turn g n f second in
    let less : a / g < n / g = later_quotient g (a / g) (n / g) (omega arith) in
    let more : g * suc (a / g) ≤ g * (n / g) = mul-le-mul_left g less in
    omega arith

pub next_turn : (g f a : ℕ) → f < g → a % g ≡ f → (a + g) % g ≡ f
next_turn g f a less it =
    let one = of_turn g a f it in
    ap (λ n. n % g) (let z : a + g ≡ suc (a / g) * g + f = omega arith in z) ∙ mod-mul-add (suc (a / g)) g f less
