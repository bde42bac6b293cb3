-- How often a number may rise or fall.
use Rattle.std.proofs.Common.{◌≡◌, ℕ, zero, suc, ℤ, neg_ℤ, pos, ◌+ℤ◌, ◌≤ℤ◌, ◌+◌, ◌*◌, ◌/◌, ◌%◌, ◌<◌, ◌≤◌, inl, inr, refl, ap, subst, ◌∙◌, mul-le-mul_left, arith}
use Rattle.std.proofs.Math.IntN.{◌*ℤ◌, *ℤ-zero}
use Rattle.std.proofs.Math.Nat.{div-lt_iff_lt-mul}
use Rattle.std.proofs.lemmas.Bool.{cases_lt}
use Rattle.std.proofs.lemmas.Int.{by_lt_z, ints}
use Rattle.std.proofs.lemmas.Nat.{mod-mul-add}

pub not_before : (low start : ℤ) (excess gain n : ℕ) → 1 ≤ gain → (start ≤ℤ low → low ≡ start +ℤ pos excess) →
    (low ≤ℤ start → excess ≡ 0) → low ≤ℤ (start +ℤ pos (n * gain)) → excess / gain ≤ n
not_before low start excess gain n one more none h =
    let under : excess < suc n * gain =
    by_lt_z low start
    (λ less. let z : excess ≡ 0 = none (omega (arith, ints)) in omega arith)
    (λ most. let e : low ≡ start +ℤ pos excess = more most in omega (arith, ints)) in
    let few : excess / gain < suc n = (div-lt_iff_lt-mul (let z : 0 < gain = omega arith in z)).1 under in
    omega arith

pub not_after : (high start : ℤ) (excess gain n : ℕ) → 1 ≤ gain → high ≡ start +ℤ pos excess →
    (start +ℤ pos (n * gain)) ≤ℤ high → n < excess / gain + 1
not_after high start excess gain n one e h =
    elim (cases_lt (excess / gain) n) [
      | inl less ↦
          let more : excess < n * gain = (div-lt_iff_lt-mul (let z : 0 < gain = omega arith in z)).0 less in
          absurd (omega (arith, ints))
      | inr late ↦ omega arith
    ]

pub no_rest : (d n g : ℕ) → 1 ≤ g → d ≡ n * g → d % g ≡ 0
no_rest d n g one e =
    ap (λ z. z % g) (let z : d ≡ n * g + 0 = omega arith in z) ∙ mod-mul-add n g 0 (omega arith)

pub quotient_least : (a g : ℕ) → 1 ≤ g → a / g ≤ a
quotient_least a g one =
    let more : suc a * 1 ≤ suc a * g = mul-le-mul_left (suc a) one in
    let under : a / g < suc a =
    (div-lt_iff_lt-mul (let z : 0 < g = omega arith in z)).1 (let z : a < suc a * g = omega arith in z) in
    omega arith

pub times_back : (n g : ℕ) → (pos n *ℤ neg_ℤ (pos g)) ≡ neg_ℤ (pos (n * g))
times_back n zero = *ℤ-zero (pos n) ∙ ap (λ k. neg_ℤ (pos k)) (let z : 0 ≡ n * zero = omega arith in z)
times_back n (suc k) = refl

pub to_rising : (low high start z : ℤ) (g from until : ℕ) → z ≡ pos g →
    ((n : ℕ) → low ≤ℤ (start +ℤ pos (n * g)) → (start +ℤ pos (n * g)) ≤ℤ high → (from ≤ n) × (n < until)) →
    (n : ℕ) → low ≤ℤ (start +ℤ (pos n *ℤ z)) → (start +ℤ (pos n *ℤ z)) ≤ℤ high → (from ≤ n) × (n < until)
to_rising low high start z g from until e within n h k =
    within n (subst (λ x. low ≤ℤ (start +ℤ (pos n *ℤ x))) e h) (subst (λ x. (start +ℤ (pos n *ℤ x)) ≤ℤ high) e k)

pub to_falling : (low high start z : ℤ) (g from until : ℕ) → z ≡ neg_ℤ (pos g) →
    ((n : ℕ) → neg_ℤ high ≤ℤ (neg_ℤ start +ℤ pos (n * g)) → (neg_ℤ start +ℤ pos (n * g)) ≤ℤ neg_ℤ low →
    (from ≤ n) × (n < until)) →
    (n : ℕ) → low ≤ℤ (start +ℤ (pos n *ℤ z)) → (start +ℤ (pos n *ℤ z)) ≤ℤ high → (from ≤ n) × (n < until)
to_falling low high start z g from until e within n h k =
    let same : (pos n *ℤ z) ≡ neg_ℤ (pos (n * g)) = ap (λ x. pos n *ℤ x) e ∙ times_back n g in
    within n (omega (arith, ints)) (omega (arith, ints))
