-- Roots of numbers that are joined.
use Rattle.std.proofs.Common.{◌≡◌, ◌⊎◌, ℕ, zero, suc, ◌<◌, ◌≤◌, ◌==◌, true, false, leb, List, length, get_or, inl, inr, sym, refl, ap, subst, ◌∙◌, arith, eq-eqb}
use Rattle.std.proofs.Math.ListN.{set}
use Rattle.std.proofs.lemmas.Bool.{both_ways, cases_eq, cases_lt, cond-false, cond-true, le-leb, lt-leb, ne_eqb}
use Rattle.std.proofs.lemmas.List.{get_or_past, get_or-set_other, get_or-set_same}
use Rattle.std.proofs.lemmas.List.Sums.{sum_by-set}
use Rattle.std.specs.List.{sum}
use Rattle.life_classes.specs.Forest.{IsJoined, moved, root, root_within}

steps : (n : ℕ) (f : List ℕ) (k : ℕ) → get_or f k k < k → root_within (suc n) f k ≡ root_within n f (get_or f k k)
steps n f k h =
    let v = get_or f k k in
    cond-true (leb (suc v) k) (root_within n f v) k (le-leb (suc v) k (omega arith))

stays : (n : ℕ) (f : List ℕ) (k : ℕ) → k ≤ get_or f k k → root_within n f k ≡ k
stays zero f k h = refl
stays (suc n) f k h =
    let v = get_or f k k in
    cond-false (leb (suc v) k) (root_within n f v) k (lt-leb (suc v) k (omega arith))

alike : (n m : ℕ) (f : List ℕ) (k : ℕ) → k ≤ n → k ≤ m → root_within n f k ≡ root_within m f k
alike zero m f k h l = sym (stays m f k (omega arith))
alike (suc n) zero f k h l = stays (suc n) f k (omega arith)
alike (suc n) (suc m) f k h l =
    elim (cases_lt (get_or f k k) k) [
      | inl less ↦ steps n f k less ∙ alike n m f (get_or f k k) (omega arith) (omega arith) ∙ sym (steps m f k less)
      | inr most ↦ stays (suc n) f k most ∙ sym (stays (suc m) f k most)
    ]

-- more steps than enough change nothing
pub root_within_long : (n : ℕ) (f : List ℕ) (k : ℕ) → k ≤ n → root_within n f k ≡ root f k
root_within_long n f k h = alike n k f k h (omega arith)

-- what points nowhere is its own root
pub root-stays : (f : List ℕ) (k : ℕ) → k ≤ get_or f k k → root f k ≡ k
root-stays f k h = stays k f k h

-- what points to a smaller number has the root of that number
pub root-up : (f : List ℕ) (k : ℕ) → get_or f k k < k → root f k ≡ root f (get_or f k k)
root-up f k h =
    alike k (suc k) f k (omega arith) (omega arith) ∙ steps k f k h ∙ root_within_long k f (get_or f k k) (omega arith)

pub root-past : (f : List ℕ) (k : ℕ) → length f ≤ k → root f k ≡ k
root-past f k h = root-stays f k (omega (arith, get_or_past f k k h))

-- ---- by steps

by_steps_to : (f : List ℕ) (P : ℕ → Type 0) → ((k : ℕ) → k ≤ get_or f k k → P k) →
    ((k : ℕ) → get_or f k k < k → P (get_or f k k) → P k) → (n k : ℕ) → k ≤ n → P k
by_steps_to f P stop go zero k h = stop k (omega arith)
by_steps_to f P stop go (suc n) k h =
    elim (cases_lt (get_or f k k) k) [
      | inl less ↦ go k less (by_steps_to f P stop go n (get_or f k k) (omega arith))
      | inr most ↦ stop k most
    ]

-- what holds of roots, and passes from each number's target to the number, holds of all numbers
pub by_steps : (f : List ℕ) (P : ℕ → Type 0) → ((k : ℕ) → k ≤ get_or f k k → P k) →
    ((k : ℕ) → get_or f k k < k → P (get_or f k k) → P k) → (k : ℕ) → P k
by_steps f P stop go k = by_steps_to f P stop go k k (omega arith)

pub root-le : (f : List ℕ) (k : ℕ) → root f k ≤ k
root-le f k =
    by_steps f (λ k. root f k ≤ k) (λ k h. omega (arith, root-stays f k h)) (λ k h l. omega (arith, root-up f k h)) k

abbrev pub IsRoot : List ℕ → ℕ → Type 0
IsRoot f k = k ≤ get_or f k k

pub root-is : (f : List ℕ) (k : ℕ) → IsRoot f (root f k)
root-is f k =
    by_steps f (λ k. IsRoot f (root f k)) (λ k h. subst (IsRoot f) (sym (root-stays f k h)) h)
    (λ k h l. subst (IsRoot f) (sym (root-up f k h)) l) k

pub root-root : (f : List ℕ) (k : ℕ) → root f (root f k) ≡ root f k
root-root f k = root-stays f (root f k) (root-is f k)

-- what was returned as the root is its own root
pub told_root : (f g : List ℕ) (k r : ℕ) → g ≡ f → r ≡ root g k → root f r ≡ r
told_root f g k r same is =
    let it = is ∙ ap (λ h. root h k) same in
    ap (root f) it ∙ root-root f k ∙ sym it

pub is_root : (f : List ℕ) (k : ℕ) → root f k ≡ k → IsRoot f k
is_root f k e = subst (IsRoot f) e (root-is f k)

-- the root is at most the number that one points to
pub root-le_up : (f : List ℕ) (k : ℕ) → root f k ≤ get_or f k k
root-le_up f k =
    elim (cases_lt (get_or f k k) k) [
      | inl less ↦ omega (arith, root-up f k less, root-le f (get_or f k k))
      | inr most ↦ omega (arith, root-stays f k most)
    ]

-- ---- a number points to a smaller one

module _ (f : List ℕ) (k v : ℕ) (within : k < length f) (lower : v < k) where
  abbrev after : List ℕ
  after = set f k v

  up_other : (x : ℕ) → (x ≡ k → ⊥) → get_or after x x ≡ get_or f x x
  up_other x other = get_or-set_other f k x v x other

  up_here : (x : ℕ) → x ≡ k → get_or after x x ≡ v
  up_here x e = ap (λ y. get_or after y y) e ∙ get_or-set_same f k v k within

  not_here : (x : ℕ) → x ≤ get_or after x x → x ≡ k → ⊥
  not_here x h e = omega (arith, up_here x e)

  -- if it had this root already
  pub root-set_within : root f v ≡ root f k → (x : ℕ) → root after x ≡ root f x
  root-set_within same x =
      by_steps after (λ x. root after x ≡ root f x)
      (λ x h. root-stays after x h ∙ sym (root-stays f x (omega (arith, up_other x (not_here x h)))))
      (λ x h l.
      elim (cases_eq x k) [
        | inl e ↦ root-up after x h ∙ l ∙ ap (root f) (up_here x e) ∙ same ∙ ap (root f) (sym e)
        | inr other ↦
            root-up after x h ∙ l ∙ ap (root f) (up_other x other) ∙ sym (root-up f x (omega (arith, up_other x other)))
      ]) x

  -- if both were roots
  pub root-set_roots : IsRoot f k → IsRoot f v → (x : ℕ) → root after x ≡ moved k v (root f x)
  root-set_roots high low x =
      by_steps after (λ x. root after x ≡ moved k v (root f x))
      (λ x h.
      let other = not_here x h in
      let same = root-stays f x (omega (arith, up_other x other)) in
      root-stays after x h ∙ sym same
      ∙ sym (cond-false (root f x == k) v (root f x) (ne_eqb (root f x) k (λ e. other (sym same ∙ e)))))
      (λ x h l.
      elim (cases_eq x k) [
        | inl e ↦
            root-up after x h ∙ ap (root after) (up_here x e)
            ∙ root-stays after v (omega (arith, up_other v (λ (d : v ≡ k). omega arith)))
            ∙ sym (cond-true (root f x == k) v (root f x) (eq-eqb (root f x) k (ap (root f) e ∙ root-stays f k high)))
        | inr other ↦
            root-up after x h ∙ l
            ∙ ap (moved k v) (ap (root f) (up_other x other) ∙ sym (root-up f x (omega (arith, up_other x other))))
      ]) x

  pub sum-set : v < get_or f k k → sum after < sum f
  sum-set h = omega (arith, sum_by-set (λ x. x) f k v k within)

  pub sum-set-le : v ≤ get_or f k k → sum after ≤ sum f
  sum-set-le h = omega (arith, sum_by-set (λ x. x) f k v k within)

-- ---- a root points to another

pub moved_here : (k v a : ℕ) → a ≡ k → moved k v a ≡ v
moved_here k v a e = cond-true (a == k) v a (eq-eqb a k e)

pub moved_other : (k v a : ℕ) → (a ≡ k → ⊥) → moved k v a ≡ a
moved_other k v a e = cond-false (a == k) v a (ne_eqb a k e)

moved_only : (k v a b : ℕ) → moved k v a ≡ moved k v b → (a ≡ b) ⊎ (((a ≡ k) × (b ≡ v)) ⊎ ((a ≡ v) × (b ≡ k)))
moved_only k v a b same =
    elim (cases_eq a k) [
      | inl here ↦ elim (cases_eq b k) [
        | inl there ↦ inl (here ∙ sym there)
        | inr other ↦ inr (inl (here, sym (moved_other k v b other) ∙ sym same ∙ moved_here k v a here))
      ]
      | inr other ↦ elim (cases_eq b k) [
        | inl there ↦ inr (inr (sym (moved_other k v a other) ∙ same ∙ moved_here k v b there, there))
        | inr too ↦ inl (sym (moved_other k v a other) ∙ same ∙ moved_other k v b too)
      ]
    ]

module _ (old new : List ℕ) (one other : ℕ) (long : length new ≡ length old) (less : sum new < sum old) where
  pub joined_first : ((k : ℕ) → root new k ≡ moved (root old one) (root old other) (root old k)) → root old other < root old one →
      IsJoined old new one other true
  joined_first by lower =
      let r = root old one in
      let s = root old other in
      record {
        long = long;
        coarser = λ k l same. by k ∙ ap (moved r s) same ∙ sym (by l);
        both = by one ∙ moved_here r s r refl ∙ sym (moved_other r s s (λ (e : s ≡ r). omega arith)) ∙ sym (by other);
        only = λ k l same. elim (moved_only r s (root old k) (root old l) (sym (by k) ∙ same ∙ by l)) [
          | inl e ↦ inl e
          | inr w ↦ elim w [
            | inl e ↦ inr (inl e)
            | inr e ↦ inr (inr e)
          ]
        ];
        same = λ h. absurd (both_ways true h refl);
        less = λ h. less;
        put = λ h. inl (record { lower = lower; goes = by });
      }

  pub joined_second : ((k : ℕ) → root new k ≡ moved (root old other) (root old one) (root old k)) → root old one < root old other →
      IsJoined old new one other true
  joined_second by lower =
      let r = root old other in
      let s = root old one in
      record {
        long = long;
        coarser = λ k l same. by k ∙ ap (moved r s) same ∙ sym (by l);
        both = by one ∙ moved_other r s s (λ (e : s ≡ r). omega arith) ∙ sym (moved_here r s r refl) ∙ sym (by other);
        only = λ k l same. elim (moved_only r s (root old k) (root old l) (sym (by k) ∙ same ∙ by l)) [
          | inl e ↦ inl e
          | inr w ↦ elim w [
            | inl e ↦ inr (inr e)
            | inr e ↦ inr (inl e)
          ]
        ];
        same = λ h. absurd (both_ways true h refl);
        less = λ h. less;
        put = λ h. inr (record { lower = lower; goes = by });
      }

-- two numbers with one root are joined already
pub joined_already : (old : List ℕ) (one other : ℕ) → root old one ≡ root old other → IsJoined old old one other false
joined_already old one other same = record {
  long = refl;
  coarser = λ k l e. e;
  both = same;
  only = λ k l e. inl e;
  same = λ h. refl;
  less = λ h. absurd (both_ways false refl h);
  put = λ h. absurd (both_ways false refl h);
}
