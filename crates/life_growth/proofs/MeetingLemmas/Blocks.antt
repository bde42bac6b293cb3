-- What comes back to 0 in a coordinate is taken out of a sum, so that few steps are left.
use Rattle.std.proofs.Common.{◌≡◌, ℕ, zero, suc, ℤ, pos, negsuc, neg_ℤ, ◌+ℤ◌, ◌≤ℤ◌, ◌+◌, ◌*◌, ◌/◌, ◌%◌, ◌<◌, ◌≤◌, List, [], ◌∷◌, inl, inr, sym, refl, ap, subst, ◌∙◌, mul-le-mul_left, mod-lt, div-add-mod', arith}
use Rattle.std.specs.Prelude.{unsigned_abs, ◌⊎◌, length, nat_eq}
use Rattle.std.specs.List.{Contains}
use Rattle.std.proofs.lemmas.Bool.{eqb-true, eq-eqb}
use Rattle.std.proofs.lemmas.Int.{ints}
use Rattle.life_objects.proofs.Lists.{Contains-head, Contains-later, head_or_later}
use Rattle.life_objects.proofs.DecidedLemmas.Kept.{Contains-filter, of_filter}
use Rattle.life_objects.proofs.DecidedLemmas.Tests.{abs_small}
use Rattle.life_growth.specs.Meeting.Sums.{Step, and_then, common, enough_steps, returning, size, sizes, stay, sum_of, sums_within, times}
use Rattle.life_growth.proofs.MeetingLemmas.Reach.{IsSum, Within, none_by, none_sum, stay-then, step_is, sum_then, then-assoc, then-stay, times-add, within_by, within_none, within_one, within_sum, within_times, within_upto}

-- a number whose size is at most r
abbrev IsWithin : ℕ → ℤ → Type 0
IsWithin r x = (neg_ℤ (pos r) ≤ℤ x) × (x ≤ℤ pos r)

times-times : (n q : ℕ) (u : Step) → times (n * q) u ≡ times n (times q u)
times-times zero q u = ap (λ k. times k u) (let z : zero * q ≡ zero = omega arith in z)
times-times (suc n) q u =
    ap (λ k. times k u) (let z : suc n * q ≡ n * q + q = omega arith in z)
    ∙ times-add (n * q) q u ∙ ap (λ c. and_then c (times q u)) (times-times n q u)

-- ---- how often each step is made

pub no_numbers : (us : List Step) → sum_of us [] ≡ stay
no_numbers [] = refl
no_numbers (u ∷ us) = refl

swapped : (u v w : Step) → and_then (and_then u v) w ≡ and_then (and_then u w) v
swapped u v w =
    step_is (and_then (and_then u v) w) (and_then (and_then u w) v) (omega (arith, ints)) (omega (arith, ints))
    (omega (arith, ints))

one_more : (us : List Step) (often : List ℕ) (u : Step) → Contains us u →
    (more : List ℕ) × (sum_of us more ≡ and_then (sum_of us often) u)
one_more [] often u one = let none : one.0 < 0 = one.1 in absurd (omega arith)
one_more (v ∷ us) [] u one =
    elim (head_or_later v u us one.0 one.1 one.2) [
      | inl e ↦ (
        suc zero ∷ [],
        swapped stay v (sum_of us []) ∙ ap (λ c. and_then (and_then stay c) v) (no_numbers us)
            ∙ ap (λ c. and_then c v) (then-stay stay) ∙ ap (and_then stay) e,
      )
      | inr later ↦
          let q = one_more us [] u later in
          (0 ∷ q.0, stay-then (sum_of us q.0) ∙ q.1 ∙ ap (λ c. and_then c u) (no_numbers us))
    ]
one_more (v ∷ us) (k ∷ often) u one =
    elim (head_or_later v u us one.0 one.1 one.2) [
      | inl e ↦
          (suc k ∷ often, swapped (times k v) v (sum_of us often) ∙ ap (and_then (and_then (times k v) (sum_of us often))) e)
      | inr later ↦
          let q = one_more us often u later in
          (k ∷ q.0, ap (and_then (times k v)) q.1 ∙ sym (then-assoc (times k v) (sum_of us often) u))
    ]

pub numbers_of : (us : List Step) (n : ℕ) (x : Step) → Within us n x → (often : List ℕ) × (sum_of us often ≡ x)
numbers_of us zero x one = ([], no_numbers us ∙ none_by us x one)
numbers_of us (suc n) x one =
    elim (within_by us n x one) [
      | inl same ↦ numbers_of us n x same
      | inr q ↦
          let before = numbers_of us n q.0 q.2 in
          let more = one_more us before.0 q.1 q.3 in
          (more.0, more.1 ∙ ap (λ c. and_then c q.1) before.1 ∙ q.4)
    ]

-- ---- signs

sign : (x : ℤ) → (x ≡ pos 0) ⊎ (((a : ℕ) × (1 ≤ a) × (x ≡ pos a) × (size x ≡ a))
    ⊎ ((a : ℕ) × (1 ≤ a) × (x ≡ neg_ℤ (pos a)) × (size x ≡ a)))
sign (pos zero) = inl refl
sign (pos (suc a)) = inr (inl (suc a, omega arith, refl, refl))
sign (negsuc a) = inr (inr (suc a, omega arith, omega (arith, ints), refl))

some_or_none : (c : ℕ) → (1 ≤ c) ⊎ (c ≡ 0)
some_or_none zero = inr refl
some_or_none (suc c) = inl (omega arith)

size_some : (x : ℤ) → 1 ≤ size x
size_some (pos zero) = omega arith
size_some (pos (suc a)) = omega arith
size_some (negsuc a) = omega arith

module _ (f : Step → ℤ) where
  common_some : (us : List Step) → 1 ≤ common f us
  common_some [] = omega arith
  common_some (u ∷ us) =
      let one : 1 ≤ size (f u) = size_some (f u) in
      let all : 1 ≤ common f us = common_some us in
      omega (arith, mul-le-mul_left (common f us) one)

  cofactor : (us : List Step) (u : Step) → Contains us u → (c : ℕ) × (c * size (f u) ≡ common f us)
  cofactor [] u one = let none : one.0 < 0 = one.1 in absurd (omega arith)
  cofactor (v ∷ us) u one =
      elim (head_or_later v u us one.0 one.1 one.2) [
        | inl e ↦ (
          common f us,
          ap (λ w. common f us * size (f w)) (sym e)
              ∙ (let z : common f us * size (f v) ≡ size (f v) * common f us = omega arith in z),
        )
        | inr later ↦
            let c = cofactor us u later in (
              size (f v) * c.0,
              (let z : size (f v) * c.0 * size (f u) ≡ size (f v) * (c.0 * size (f u)) = omega arith in z)
                  ∙ ap (λ m. size (f v) * m) c.1,
            )
      ]

  size_listed : (us : List Step) (u : Step) → Contains us u → unsigned_abs (f u) ≤ sizes f us
  size_listed [] u one = let none : one.0 < 0 = one.1 in absurd (omega arith)
  size_listed (v ∷ us) u one =
      elim (head_or_later v u us one.0 one.1 one.2) [
        | inl e ↦
            subst (λ w. unsigned_abs (f w) ≤ unsigned_abs (f v) + sizes f us) e
            (let z : unsigned_abs (f v) ≤ unsigned_abs (f v) + sizes f us = omega arith in z)
        | inr later ↦ let less = size_listed us u later in omega arith
      ]

module _ (f : Step → ℤ) (add : (u v : Step) → f (and_then u v) ≡ (f u +ℤ f v)) (nil : f stay ≡ pos 0) where
  times_up : (k a : ℕ) (u : Step) → f u ≡ pos a → f (times k u) ≡ pos (k * a)
  times_up zero a u e = nil ∙ ap pos (let z : 0 ≡ zero * a = omega arith in z)
  times_up (suc k) a u e =
      let both = add (times k u) u in
      let before = times_up k a u e in
      let long : k * a + a ≡ suc k * a = omega arith in
      omega (arith, ints)

  times_down : (k a : ℕ) (u : Step) → f u ≡ neg_ℤ (pos a) → f (times k u) ≡ neg_ℤ (pos (k * a))
  times_down zero a u e = let z : 0 ≡ zero * a = omega arith in omega (arith, ints)
  times_down (suc k) a u e =
      let both = add (times k u) u in
      let before = times_down k a u e in
      let long : k * a + a ≡ suc k * a = omega arith in
      omega (arith, ints)

  pub stays_none : (us : List Step) → ((u : Step) → Contains us u → f u ≡ pos 0) → (n : ℕ) (x : Step) →
      Within us n x → f x ≡ pos 0
  stays_none us each zero x one = ap f (sym (none_by us x one)) ∙ nil
  stays_none us each (suc n) x one =
      elim (within_by us n x one) [
        | inl same ↦ stays_none us each n x same
        | inr q ↦
            let before = stays_none us each n q.0 q.2 in
            let last = each q.1 q.3 in
            let both = add q.0 q.1 in
            ap f (sym q.4) ∙ (omega (arith, ints))
      ]

  module _ (us : List Step) where
    abbrev M : ℕ
    M = common f us

    sized : (n : ℕ) (x : Step) → Within us n x → IsWithin (n * sizes f us) (f x)
    sized zero x one =
        let none = ap f (sym (none_by us x one)) ∙ nil in
        let z : 0 ≤ zero * sizes f us = omega arith in
        (omega (arith, ints), omega (arith, ints))
    sized (suc n) x one =
        let long : n * sizes f us + sizes f us ≡ suc n * sizes f us = omega arith in
        elim (within_by us n x one) [
          | inl same ↦
              let before = sized n x same in
              let low = before.0 in
              let high = before.1 in
              (omega (arith, ints), omega (arith, ints))
          | inr q ↦
              let before = sized n q.0 q.2 in
              let low = before.0 in
              let high = before.1 in
              let last = abs_small (f q.1) (sizes f us) (size_listed f us q.1 q.3) in
              let down = last.0 in
              let up = last.1 in
              let both = add q.0 q.1 in
              let whole = ap f q.4 in
              (omega (arith, ints), omega (arith, ints))
        ]

    pub returning_by : (n : ℕ) (x : Step) → Within us n x → n ≤ 2 * M → f x ≡ pos 0 → Contains (returning f us) x
    returning_by n x one h e =
        Contains-filter (λ u. nat_eq (unsigned_abs (f u)) 0) (sums_within us (2 * M)) x (within_upto us n (2 * M) x one h)
        (eq-eqb (unsigned_abs (f x)) 0 (ap unsigned_abs e))

    pub of_returning : (x : Step) → Contains (returning f us) x → Within us (2 * M) x × (f x ≡ pos 0)
    of_returning x one =
        let q = of_filter (λ u. nat_eq (unsigned_abs (f u)) 0) (sums_within us (2 * M)) x one in
        let none : unsigned_abs (f x) ≡ 0 = eqb-true (unsigned_abs (f x)) 0 q.1 in
        let small = abs_small (f x) 0 (omega arith) in
        let low = small.0 in
        let high = small.1 in
        (q.0, omega (arith, ints))

    abbrev Back : Step → Type 0
    Back z = IsSum (returning f us) z

    back_one : (x : Step) → Contains (returning f us) x → Back x
    back_one x one = (1, within_one (returning f us) x one)

    back_none : (z : Step) → Back z → f z ≡ pos 0
    back_none z one = stays_none (returning f us) (λ u of. (of_returning u of).1) one.0 z one.1

    -- ---- blocks of steps, each with the same sum in this coordinate

    abbrev Blocks : ℤ → ℕ → Step → Type 0
    Blocks s zero p = stay ≡ p
    Blocks s (suc m) p = (q b : Step) × Blocks s m q × Within us M b × (f b ≡ s) × (and_then q b ≡ p)

    abbrev Some : ℤ → Step → Type 0
    Some s p = (m : ℕ) × Blocks s m p

    blocks_within : (s : ℤ) (m : ℕ) (p : Step) → Blocks s m p → Within us (m * M) p
    blocks_within s zero p e =
        subst (λ k. Within us k p) (let z : 0 ≡ zero * M = omega arith in z) (subst (Within us 0) e (within_none us))
    blocks_within s (suc m) p q =
        subst (λ k. Within us k p) (let z : m * M + M ≡ suc m * M = omega arith in z)
        (subst (Within us (m * M + M)) q.5 (within_sum us M (m * M) q.0 q.1 (blocks_within s m q.0 q.2) q.3))

    blocks_up : (m : ℕ) (p : Step) → Blocks (pos M) m p → f p ≡ pos (m * M)
    blocks_up zero p e = ap f (sym e) ∙ nil ∙ ap pos (let z : 0 ≡ zero * M = omega arith in z)
    blocks_up (suc m) p q =
        let before = blocks_up m q.0 q.2 in
        let both = add q.0 q.1 in
        let last = q.4 in
        let whole = ap f q.5 in
        let long : m * M + M ≡ suc m * M = omega arith in
        omega (arith, ints)

    blocks_down : (m : ℕ) (p : Step) → Blocks (neg_ℤ (pos M)) m p → f p ≡ neg_ℤ (pos (m * M))
    blocks_down zero p e =
        let none = ap f (sym e) ∙ nil in
        let z : 0 ≡ zero * M = omega arith in
        omega (arith, ints)
    blocks_down (suc m) p q =
        let before = blocks_down m q.0 q.2 in
        let both = add q.0 q.1 in
        let last = q.4 in
        let whole = ap f q.5 in
        let long : m * M + M ≡ suc m * M = omega arith in
        omega (arith, ints)

    more_blocks : (s : ℤ) (p b : Step) → Some s p → Within us M b → f b ≡ s → (n : ℕ) → Some s (and_then p (times n b))
    more_blocks s p b some one e zero = subst (Some s) (sym (then-stay p)) some
    more_blocks s p b some one e (suc n) =
        let before = more_blocks s p b some one e n in
        (suc before.0, (and_then p (times n b), b, before.1, one, e, then-assoc p (times n b) b))

    -- ---- a sum as a few steps, blocks, and what comes back

    record Parted (many : ℕ) (x : Step) : Type 0 where
      pub y : Step
      pub p : Step
      pub n : Step
      pub z : Step
      pub few : Within us (many * M) y
      pub up : Some (pos M) p
      pub down : Some (neg_ℤ (pos M)) n
      pub back : Back z
      pub same : and_then y (and_then p (and_then n z)) ≡ x

    parted_none : (many : ℕ) (x : Step) → stay ≡ x → Parted many x
    parted_none many x e =
        record {
          y = stay;
          p = stay;
          n = stay;
          z = stay;
          few = within_upto us 0 (many * M) stay (within_none us) (omega arith);
          up = (0, refl);
          down = (0, refl);
          back = none_sum (returning f us);
          same = step_is (and_then stay (and_then stay (and_then stay stay))) x (omega (arith, ints, ap (λ u. u.0) e))
              (omega (arith, ints, ap (λ u. u.1.0) e)) (omega (arith, ints, ap (λ u. u.1.1) e));
        }

    to_back : (u y p n z : Step) →
        and_then y (and_then p (and_then n (and_then z u))) ≡ and_then u (and_then y (and_then p (and_then n z)))
    to_back u y p n z =
        step_is (and_then y (and_then p (and_then n (and_then z u)))) (and_then u (and_then y (and_then p (and_then n z))))
        (omega (arith, ints)) (omega (arith, ints)) (omega (arith, ints))

    to_up : (u v y p n z : Step) →
        and_then (and_then y v) (and_then (and_then p u) (and_then n z))
        ≡ and_then (and_then u v) (and_then y (and_then p (and_then n z)))
    to_up u v y p n z =
        step_is (and_then (and_then y v) (and_then (and_then p u) (and_then n z)))
        (and_then (and_then u v) (and_then y (and_then p (and_then n z))))
        (omega (arith, ints)) (omega (arith, ints)) (omega (arith, ints))

    to_down : (u v y p n z : Step) →
        and_then (and_then y v) (and_then p (and_then (and_then n u) z))
        ≡ and_then (and_then u v) (and_then y (and_then p (and_then n z)))
    to_down u v y p n z =
        step_is (and_then (and_then y v) (and_then p (and_then (and_then n u) z)))
        (and_then (and_then u v) (and_then y (and_then p (and_then n z))))
        (omega (arith, ints)) (omega (arith, ints)) (omega (arith, ints))

    -- k times a step of some size: whole blocks, and fewer than make one
    module _ (k a c : ℕ) (u : Step) (of : Contains us u) (some : 1 ≤ a) (e : c * a ≡ M) where
      c_some : 1 ≤ c
      c_some =
          let one : 1 ≤ M = common_some f us in
          let long : c * a ≡ M = e in
          elim (some_or_none c) [ inl h ↦ h | inr h ↦ let z : c * a ≡ 0 * a = ap (λ m. m * a) h in absurd (omega arith) ]

      c_few : c ≤ M
      c_few =
          let less : c * 1 ≤ c * a = mul-le-mul_left c some in
          let long : c * a ≡ M = e in
          omega arith

      block : Within us M (times c u)
      block =
          within_upto us (c * 1) M (times c u) (within_times us c 1 u (within_one us u of))
          (let less : c ≤ M = c_few in omega arith)

      odd : Within us M (times (k % c) u)
      odd =
          within_upto us ((k % c) * 1) M (times (k % c) u) (within_times us (k % c) 1 u (within_one us u of))
          (let less : c ≤ M = c_few in let under : k % c < c = mod-lt k c_some in omega arith)

      whole : and_then (times (k / c) (times c u)) (times (k % c) u) ≡ times k u
      whole =
          ap (λ v. and_then v (times (k % c) u)) (sym (times-times (k / c) c u))
          ∙ sym (times-add ((k / c) * c) (k % c) u) ∙ ap (λ m. times m u) (div-add-mod' k c)

    parted : (vs : List Step) → ((v : Step) → Contains vs v → Contains us v) → (often : List ℕ) →
        Parted (length vs) (sum_of vs often)
    parted [] each often = parted_none _ stay refl
    parted (v ∷ vs) each [] = parted_none (length (v ∷ vs)) stay refl
    parted (v ∷ vs) each (k ∷ often) =
        let d = parted vs (λ w of. each w (Contains-later v w vs of)) often in
        let of : Contains us v = each v (Contains-head v vs) in
        let long : length (v ∷ vs) ≡ suc (length vs) = refl in
        let room : length vs * M + M ≡ length (v ∷ vs) * M = omega (arith, ap (λ m. m * M) long) in
        let cof = cofactor f us v of in
        let one : 1 ≤ M = common_some f us in
        elim (sign (f v)) [
          | inl none ↦
              record {
                y = d.y;
                p = d.p;
                n = d.n;
                z = and_then d.z (times k v);
                few = within_upto us (length vs * M) (length (v ∷ vs) * M) d.y d.few (omega arith);
                up = d.up;
                down = d.down;
                back = sum_then (returning f us) d.z (times k v) d.back (
                  k * 1,
                  within_times (returning f us) k 1 v
                      (within_one (returning f us) v (returning_by 1 v (within_one us v of) (omega arith) none)),
                );
                same = to_back (times k v) d.y d.p d.n d.z ∙ ap (and_then (times k v)) d.same;
              }
          | inr some ↦
              elim some [
                | inl q ↦
                    let e : cof.0 * q.0 ≡ M = ap (λ m. cof.0 * m) (sym q.3) ∙ cof.1 in
                    record {
                      y = and_then d.y (times (k % cof.0) v);
                      p = and_then d.p (times (k / cof.0) (times cof.0 v));
                      n = d.n;
                      z = d.z;
                      few = subst (λ m. Within us m (and_then d.y (times (k % cof.0) v))) room
                          (within_sum us M (length vs * M) d.y (times (k % cof.0) v) d.few (odd k q.0 cof.0 v of q.1 e));
                      up = more_blocks (pos M) d.p (times cof.0 v) d.up (block k q.0 cof.0 v of q.1 e)
                          (times_up cof.0 q.0 v q.2 ∙ ap pos e) (k / cof.0);
                      down = d.down;
                      back = d.back;
                      same = to_up (times (k / cof.0) (times cof.0 v)) (times (k % cof.0) v) d.y d.p d.n d.z
                          ∙ ap (λ w. and_then w (and_then d.y (and_then d.p (and_then d.n d.z)))) (whole k q.0 cof.0 v of q.1 e)
                          ∙ ap (and_then (times k v)) d.same;
                    }
                | inr q ↦
                    let e : cof.0 * q.0 ≡ M = ap (λ m. cof.0 * m) (sym q.3) ∙ cof.1 in
                    record {
                      y = and_then d.y (times (k % cof.0) v);
                      p = d.p;
                      n = and_then d.n (times (k / cof.0) (times cof.0 v));
                      z = d.z;
                      few = subst (λ m. Within us m (and_then d.y (times (k % cof.0) v))) room
                          (within_sum us M (length vs * M) d.y (times (k % cof.0) v) d.few (odd k q.0 cof.0 v of q.1 e));
                      up = d.up;
                      down = more_blocks (neg_ℤ (pos M)) d.n (times cof.0 v) d.down (block k q.0 cof.0 v of q.1 e)
                          (times_down cof.0 q.0 v q.2 ∙ ap (λ m. neg_ℤ (pos m)) e) (k / cof.0);
                      back = d.back;
                      same = to_down (times (k / cof.0) (times cof.0 v)) (times (k % cof.0) v) d.y d.p d.n d.z
                          ∙ ap (λ w. and_then w (and_then d.y (and_then d.p (and_then d.n d.z)))) (whole k q.0 cof.0 v of q.1 e)
                          ∙ ap (and_then (times k v)) d.same;
                    }
              ]
        ]

    -- ---- blocks up and blocks down are taken out together

    record Left (x : Step) : Type 0 where
      pub l : Step
      pub z : Step
      pub one_sided : Some (pos M) l ⊎ Some (neg_ℤ (pos M)) l
      pub back : Back z
      pub same : and_then l z ≡ x

    crossed : (q b r c z : Step) →
        and_then q (and_then r (and_then z (and_then b c))) ≡ and_then (and_then q b) (and_then (and_then r c) z)
    crossed q b r c z =
        step_is (and_then q (and_then r (and_then z (and_then b c)))) (and_then (and_then q b) (and_then (and_then r c) z))
        (omega (arith, ints)) (omega (arith, ints)) (omega (arith, ints))

    both_back : (b c : Step) → Within us M b → f b ≡ pos M → Within us M c → f c ≡ neg_ℤ (pos M) → Back (and_then b c)
    both_back b c one e two g =
        back_one (and_then b c)
        (returning_by (M + M) (and_then b c) (within_sum us M M b c one two) (omega arith)
        (let both = add b c in omega (arith, ints)))

    one_side : (m k : ℕ) (p n z : Step) → Blocks (pos M) m p → Blocks (neg_ℤ (pos M)) k n → Back z →
        Left (and_then p (and_then n z))
    one_side zero k p n z e down back =
        record {
          l = n;
          z = z;
          one_sided = inr (k, down);
          back = back;
          same = sym (stay-then (and_then n z)) ∙ ap (λ w. and_then w (and_then n z)) e;
        }
    one_side (suc m) zero p n z up e back =
        record {
          l = p;
          z = z;
          one_sided = inl (suc m, up);
          back = back;
          same = ap (and_then p) (sym (stay-then z) ∙ ap (λ w. and_then w z) e);
        }
    one_side (suc m) (suc k) p n z up down back =
        let d = one_side m k up.0 down.0 (and_then z (and_then up.1 down.1)) up.2 down.2
        (sum_then (returning f us) z (and_then up.1 down.1) back (both_back up.1 down.1 up.3 up.4 down.3 down.4)) in
        record {
          l = d.l;
          z = d.z;
          one_sided = d.one_sided;
          back = d.back;
          same = d.same ∙ crossed up.0 up.1 down.0 down.1 z ∙ ap (λ w. and_then w (and_then (and_then down.0 down.1) z)) up.5
              ∙ ap (λ w. and_then p (and_then w z)) down.5;
        }

    -- ---- few steps, and what comes back

    module _ (often : List ℕ) where
      abbrev x : Step
      x = sum_of us often

      abbrev d : Parted (length us) x
      d = parted us (λ v of. of) often

      abbrev rest : Left (and_then d.p (and_then d.n d.z))
      rest = one_side d.up.0 d.down.0 d.p d.n d.z d.up.1 d.down.1 d.back

      abbrev F : ℕ
      F = unsigned_abs (f x) + length us * M * sizes f us

      same_sum : (f d.y +ℤ f rest.l) ≡ f x
      same_sum =
          let none = back_none rest.z rest.back in
          let inner = add rest.l rest.z in
          let outer = add d.y (and_then rest.l rest.z) in
          let whole = ap f (ap (and_then d.y) rest.same ∙ d.same) in
          omega (arith, ints)

      few_blocks : (m : ℕ) → (f rest.l ≡ pos (m * M)) ⊎ (f rest.l ≡ neg_ℤ (pos (m * M))) → m * M ≤ F * M
      few_blocks m which =
          let one : 1 ≤ M = common_some f us in
          let whole = same_sum in
          let within = sized (length us * M) d.y d.few in
          let low = within.0 in
          let high = within.1 in
          let mine = abs_small (f x) (unsigned_abs (f x)) (omega arith) in
          let least = mine.0 in
          let most = mine.1 in
          let more : F * 1 ≤ F * M = mul-le-mul_left F one in
          let less : m * M ≤ F = elim which [ inl e ↦ omega (arith, ints) | inr e ↦ omega (arith, ints) ] in
          omega arith

      left_within : Within us (F * M) rest.l
      left_within =
          elim rest.one_sided [
            | inl up ↦
                within_upto us (up.0 * M) (F * M) rest.l (blocks_within (pos M) up.0 rest.l up.1)
                (few_blocks up.0 (inl (blocks_up up.0 rest.l up.1)))
            | inr down ↦
                within_upto us (down.0 * M) (F * M) rest.l (blocks_within (neg_ℤ (pos M)) down.0 rest.l down.1)
                (few_blocks down.0 (inr (blocks_down down.0 rest.l down.1)))
          ]

      pub few_and_back : (y z : Step) × Within us (enough_steps f us x) y × Back z × (and_then y z ≡ x)
      few_and_back = (
        and_then d.y rest.l,
        rest.z,
        within_sum us (F * M) (length us * M) d.y rest.l d.few left_within,
        rest.back,
        then-assoc d.y rest.l rest.z ∙ ap (and_then d.y) rest.same ∙ d.same,
      )
