-- Keys, and the names that they are about.
use Rattle.std.proofs.Common.{◌≡◌, ℕ, zero, suc, arith, ◌+◌, ◌<◌, ◌≤◌, Bool, true, false, ◌&&◌, ◌||◌, length, refl, sym, ap, ap₂, ◌∙◌, subst, List, [], ◌∷◌, true≢false}
use Rattle.std.specs.Prelude.{Option, Some, None as Nowhere, nat_eq}
use Rattle.std.specs.Cmp.Lexicographic.{bytes_decides, nat_list_cmp_total, nat_list_eq_equiv, options_equiv, pointwise, slice_cmp, texts_ties}
use Rattle.std.specs.Cmp.{both_tied, IsTotalOrder}
use Rattle.std.specs.Option.{option_eq}
use Rattle.std.specs.Ordering.{is_eq, is_gt, is_lt, nat_cmp, ordering_reverse, ordering_then}
use Rattle.std.specs.declared.cmp.Ordering.{Ordering}
use Rattle.std.specs.declared.cmp.Ordering.TheVariants.{Less, Equal, Greater}
use Rattle.std.proofs.lemmas.Bool.{and_parts}
use Rattle.std.proofs.lemmas.Cmp.{alike_right}
use Rattle.census_compare.specs.Claims.{Claim}
use Rattle.census_compare.specs.Index.{Names, has_key, has_names, key_order, names_claimed, rank, same_key}
use Rattle.census_compare.specs.KeyLaws.{key_total}
use Rattle.census_compare.specs.Order.{key_cmp}
use Rattle.census_compare.specs.Patterns.{Key, key_of}

-- # The order of keys and names

pub names-tied : (key : Key) (names : Names) → has_names key names ≡ is_eq (key_order key names)
names-tied (name, Nowhere) names = both_tied (pointwise nat_eq name names.0) true (slice_cmp nat_cmp name names.0) Equal (texts_ties name names.0) refl
names-tied (name, Some meant) names =
    both_tied (pointwise nat_eq name names.0) (pointwise nat_eq meant names.1) (slice_cmp nat_cmp name names.0) (slice_cmp nat_cmp meant names.1)
    (texts_ties name names.0) (texts_ties meant names.1)

module _ {K : Type 0} (c : K → K → Ordering) (total : IsTotalOrder c) where
  turned : (a b : K) (s : Ordering) → c b a ≡ s → c a b ≡ ordering_reverse s
  turned a b s e = total.antisymm a b ∙ ap ordering_reverse e

  level-rank : (k a b : K) (s : Ordering) → c k a ≡ Equal → c b a ≡ s → is_lt s ≡ false → 1 ≤ rank (c k b)
  level-rank k a b Less e f h = absurd (true≢false h)
  level-rank k a b Equal e f h = subst (λ r. 1 ≤ rank r) (sym (total.congr k a b e ∙ turned a b Equal f)) (omega arith)
  level-rank k a b Greater e f h = subst (λ r. 1 ≤ rank r) (sym (total.congr k a b e ∙ turned a b Greater f)) (omega arith)

  below-rank : (k a b : K) (s : Ordering) → c k a ≡ Less → c b a ≡ s → is_lt s ≡ false → 2 ≤ rank (c k b)
  below-rank k a b Less e f h = absurd (true≢false h)
  below-rank k a b Equal e f h = subst (λ r. 2 ≤ rank r) (sym (alike_right total b a k f ∙ e)) (omega arith)
  below-rank k a b Greater e f h = subst (λ r. 2 ≤ rank r) (sym (total.trans k a b e (turned a b Greater f))) (omega arith)

  -- what is not before something is not before a key where that is not
  rises : (k a b : K) (r : Ordering) → c k a ≡ r → is_lt (c b a) ≡ false → rank r ≤ rank (c k b)
  rises k a b Greater e up = omega arith
  rises k a b Equal e up = level-rank k a b (c b a) e refl up
  rises k a b Less e up = below-rank k a b (c b a) e refl up

then-equal : (r : Ordering) → ordering_then r Equal ≡ r
then-equal Less = refl
then-equal Equal = refl
then-equal Greater = refl

first-not-less : (r s : Ordering) → is_lt (ordering_then r s) ≡ false → is_lt r ≡ false
first-not-less Less s e = e
first-not-less Equal s e = refl
first-not-less Greater s e = e

pub rank-rises : (key : Key) (a b : Names) → is_lt (key_cmp b a) ≡ false → rank (key_order key a) ≤ rank (key_order key b)
rank-rises (name, Some meant) a b up = rises key_cmp key_total (name, meant) a b (key_cmp (name, meant) a) refl up
rank-rises (name, Nowhere) a b up =
    let low : rank (ordering_then (slice_cmp nat_cmp name a.0) Equal) ≡ rank (slice_cmp nat_cmp name a.0) = ap rank (then-equal (slice_cmp nat_cmp name a.0)) in
    let high : rank (ordering_then (slice_cmp nat_cmp name b.0) Equal) ≡ rank (slice_cmp nat_cmp name b.0) = ap rank (then-equal (slice_cmp nat_cmp name b.0)) in
    let base = rises (slice_cmp nat_cmp) nat_list_cmp_total name a.0 b.0 (slice_cmp nat_cmp name a.0) refl
    (first-not-less (slice_cmp nat_cmp b.0 a.0) (slice_cmp nat_cmp b.1 a.1) up) in
    omega (arith, low, high, base)

pub rank-most : (r : Ordering) → rank r ≤ 2
rank-most Less = omega arith
rank-most Equal = omega arith
rank-most Greater = omega arith

pub before-rank : (r : Ordering) → is_gt r ≡ true → rank r ≡ 0
before-rank Less e = absurd (true≢false (sym e))
before-rank Equal e = absurd (true≢false (sym e))
before-rank Greater e = refl

pub rank-before : (r : Ordering) → rank r ≤ 0 → is_gt r ≡ true
rank-before Less e = absurd (omega arith)
rank-before Equal e = absurd (omega arith)
rank-before Greater e = refl

pub level-is : (r : Ordering) → is_eq r ≡ true → rank r ≡ 1
level-is Less e = absurd (true≢false (sym e))
level-is Equal e = refl
level-is Greater e = absurd (true≢false (sym e))

pub other-rank : (r : Ordering) → is_eq r ≡ false → 1 ≤ rank r → 2 ≤ rank r
other-rank Less e h = omega arith
other-rank Equal e h = absurd (true≢false e)
other-rank Greater e h = absurd (omega arith)

pub not-level : (r : Ordering) → 2 ≤ rank r → is_eq r ≡ false
not-level Less h = refl
not-level Equal h = absurd (omega arith)
not-level Greater h = refl

pub before-other : (r : Ordering) → is_gt r ≡ true → is_eq r ≡ false
before-other Less e = refl
before-other Equal e = absurd (true≢false (sym e))
before-other Greater e = refl

pub not-before : (r : Ordering) → is_gt r ≡ false → 1 ≤ rank r
not-before Less e = omega arith
not-before Equal e = omega arith
not-before Greater e = absurd (true≢false e)

-- # Keys that are the same

meant-is : (one other : Option (List ℕ)) → option_eq (pointwise nat_eq) one other ≡ true → one ≡ other
meant-is Nowhere Nowhere e = refl
meant-is Nowhere (Some b) e = absurd (true≢false (sym e))
meant-is (Some a) Nowhere e = absurd (true≢false (sym e))
meant-is (Some a) (Some b) e = ap Some ((bytes_decides a b).0 e)

pub key-is : (one other : Key) → same_key one other ≡ true → one ≡ other
key-is one other e =
    let both = and_parts (pointwise nat_eq one.0 other.0) (option_eq (pointwise nat_eq) one.1 other.1) e in
    ap₂ (λ (a : List ℕ) (b : Option (List ℕ)). (a, b)) ((bytes_decides one.0 other.0).0 both.0) (meant-is one.1 other.1 both.1)

pub key-itself : (key : Key) → same_key key key ≡ true
key-itself (name, meant) = ap₂ (λ a b. a && b) (nat_list_eq_equiv.refl name) ((options_equiv nat_list_eq_equiv).refl meant)

-- # Claims by their keys

name-or : (a : Bool) → (a && true) ≡ ((a && true) || (a && false))
name-or true = refl
name-or false = refl

both-or : (a b : Bool) → (a && b) ≡ ((a && false) || (a && b))
both-or true b = refl
both-or false b = refl

of-either : (key : Key) (names : Names) → has_names key names ≡ (same_key key (names.0, Nowhere) || same_key key (names.0, Some names.1))
of-either (name, Nowhere) names = name-or (pointwise nat_eq name names.0)
of-either (name, Some meant) names = both-or (pointwise nat_eq name names.0) (pointwise nat_eq meant names.1)

or-apart : (a b c d : Bool) → ((a || b) || (c || d)) ≡ ((a || c) || (b || d))
or-apart true b c d = refl
or-apart false true true d = refl
or-apart false true false d = refl
or-apart false false c d = refl

pub claimed-by : (claims : List Claim) (names : Names) → names_claimed claims names ≡ (has_key claims (names.0, Nowhere) || has_key claims (names.0, Some names.1))
claimed-by [] names = refl
claimed-by (claim ∷ claims) names =
    ap₂ (λ a b. a || b) (of-either (key_of claim) names) (claimed-by claims names)
    ∙ or-apart (same_key (key_of claim) (names.0, Nowhere)) (same_key (key_of claim) (names.0, Some names.1)) (has_key claims (names.0, Nowhere)) (has_key claims (names.0, Some names.1))

-- each pattern has its own names
pub own-name : (names : Names) → has_names (names.0, Nowhere) names ≡ true
own-name names = ap (λ a. a && true) (nat_list_eq_equiv.refl names.0)

pub own-names : (names : Names) → has_names (names.0, Some names.1) names ≡ true
own-names names = ap₂ (λ a b. a && b) (nat_list_eq_equiv.refl names.0) (nat_list_eq_equiv.refl names.1)
