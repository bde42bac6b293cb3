-- Codes under rules, in order.
use Rattle.std.proofs.Common.{◌≡◌, ℕ, true, false, List, [], refl, sym, ap, ap₂, ◌∙◌, subst, true≢false}
use Rattle.std.proofs.lemmas.Bool.{and_parts}
use Rattle.std.specs.Prelude.{nat_eq}
use Rattle.std.specs.Cmp.Lexicographic.{bytes_decides, pointwise, slice_cmp, texts_ties}
use Rattle.std.specs.Cmp.{both_tied}
use Rattle.std.specs.Ordering.{is_eq, is_lt, nat_cmp, ordering_reverse}
use Rattle.std.specs.declared.cmp.Ordering.{Ordering}
use Rattle.std.specs.declared.cmp.Ordering.TheVariants.{Less, Equal, Greater}
use Rattle.census_compare.specs.Order.{Key, is_key, has_key, key_cmp, key_of}
use Rattle.census_compare.specs.KeyLaws.{key_total}
use Rattle.census_compare.specs.declared.told.Told.{Told}

-- # The order

pub has_is : (k : Key) (t : Told) → has_key k t ≡ is_key (key_of t) k
has_is k t =
    both_tied (pointwise nat_eq t.code.now k.0) (pointwise nat_eq t.rule.now k.1) (slice_cmp nat_cmp t.code.now k.0) (slice_cmp nat_cmp t.rule.now k.1)
    (texts_ties t.code.now k.0) (texts_ties t.rule.now k.1)

-- a pattern has only one key
pub has-key : (k : Key) (t : Told) → has_key k t ≡ true → key_of t ≡ k
has-key k t h =
    let b = and_parts (pointwise nat_eq t.code.now k.0) (pointwise nat_eq t.rule.now k.1) h in
    ap₂ (λ (c r : List ℕ). (c, r)) ((bytes_decides t.code.now k.0).0 b.0) ((bytes_decides t.rule.now k.1).0 b.1)

pub key-itself : (k : Key) → key_cmp k k ≡ Equal
key-itself k = go (key_cmp k k) (key_total.antisymm k k)
  where
    go : (r : Ordering) → r ≡ ordering_reverse r → r ≡ Equal
    go Less e = absurd (cc)
    go Equal e = refl
    go Greater e = absurd (cc)

-- a pattern with this key
abbrev pub at_key : Key → Told
at_key k = record {
  rule = record { ref_ptr = (0, 0); now = k.1 };
  code = record { ref_ptr = (0, 0); now = k.0 };
  collection = record { ref_ptr = (0, 0); now = [] };
  name = record { ref_ptr = (0, 0); now = [] };
}

-- keys that are level are the same
pub key-same : (x y : Key) → key_cmp x y ≡ Equal → x ≡ y
key-same x y e = has-key y (at_key x) (has_is y (at_key x) ∙ ap is_eq e)

-- the test says so
pub tied-same : (x y : Key) → is_key x y ≡ true → x ≡ y
tied-same x y h = has-key y (at_key x) (has_is y (at_key x) ∙ h)

pub above : (x y : Key) → key_cmp x y ≡ Greater → key_cmp y x ≡ Less
above x y e = key_total.antisymm y x ∙ ap ordering_reverse e

pub not-key : (x y : Key) → key_cmp x y ≡ Less → is_key x y ≡ false
not-key x y e = ap is_eq e

pub not-key-back : (x y : Key) → key_cmp x y ≡ Less → is_key y x ≡ false
not-key-back x y e = ap is_eq (key_total.antisymm y x ∙ ap ordering_reverse e)

-- neither before nor the same: after
pub behind : (x y : Key) → is_lt (key_cmp x y) ≡ false → is_key x y ≡ false → key_cmp y x ≡ Less
behind x y h k = go (key_cmp x y) refl h k
  where
    go : (r : Ordering) → key_cmp x y ≡ r → is_lt r ≡ false → is_eq r ≡ false → key_cmp y x ≡ Less
    go Less e h k = absurd (true≢false h)
    go Equal e h k = absurd (true≢false k)
    go Greater e h k = above x y e

-- what is no earlier than something after a key is after it
pub further : (k x y : Key) → key_cmp k x ≡ Less → is_lt (key_cmp y x) ≡ false → key_cmp k y ≡ Less
further k x y less up = go (key_cmp y x) refl up
  where
    go : (r : Ordering) → key_cmp y x ≡ r → is_lt r ≡ false → key_cmp k y ≡ Less
    go Less e h = absurd (true≢false h)
    go Equal e h = subst (λ z. key_cmp k z ≡ Less) (sym (key-same y x e)) less
    go Greater e h = key_total.trans k x y less (above y x e)
