-- Claims that are noted by their keys.
use Rattle.std.proofs.Common.{◌≡◌, ◌≢◌, ℕ, arith, ◌+◌, ◌<◌, Bool, true, false, ◌&&◌, ◌||◌, get_or, get_or-set_other, get_or-set_same, length, refl, set, sym, ap, ap₂, ◌∙◌, subst, List, [], ◌∷◌, ◌++◌, true≢false}
use Rattle.std.specs.Prelude.{Option, Some, None as Nowhere, nat_eq}
use Rattle.std.specs.Cmp.Lexicographic.{bytes_decides, pointwise}
use Rattle.std.specs.Option.{option_map_or}
use Rattle.std.proofs.Math.Bool.{or-true}
use Rattle.std.proofs.lemmas.Bool.{and_parts}
use Rattle.std.proofs.lemmas.List.Folds.{list_any-append}
use Rattle.census_compare.specs.Claims.{Claim}
use Rattle.census_compare.specs.Index.{AreNoted, AreOthers, IsFirst, IsIndex, Names, has_key, has_names, names_of, same_key, slot_in, slot_of}
use Rattle.census_compare.specs.Patterns.{Key, key_of}
use Rattle.census_compare.specs.declared.index.Index.{Index}
use Rattle.census_compare.specs.declared.index.Spot.{Spot}
use Rattle.census_compare.proofs.Keys.{key-is, key-itself}
use Rattle.census_compare.proofs.Spotted.{first-one, nobody}

-- # Places of keys

slot-within : (at n : ℕ) (meant : Option (List ℕ)) → at < n → slot_in at meant < n + n
slot-within at n Nowhere less = omega arith
slot-within at n (Some b) less = omega arith

pub key-within : (at n : ℕ) (key : Key) → at < n → slot_of at key < n + n
key-within at n key less = slot-within at n key.1 less

both-of : (a b c d : Bool) → (a && b) ≡ true → (c && d) ≡ true → (a ≡ true) × (b ≡ true) × (c ≡ true) × (d ≡ true)
both-of a b c d e f = let p = and_parts a b e in let q = and_parts c d f in (p.0, p.1, q.0, q.1)

-- keys of one kind that are about one pattern are the same
keys-same : (one other : Key) (names : Names) (i j : ℕ) → slot_in i one.1 ≡ slot_in j other.1 → has_names one names ≡ true → has_names other names ≡ true → one ≡ other
keys-same (a, Nowhere) (b, Nowhere) names i j same e f =
    let p = both-of (pointwise nat_eq a names.0) true (pointwise nat_eq b names.0) true e f in
    ap (λ (x : List ℕ). (x, Nowhere)) ((bytes_decides a names.0).0 p.0 ∙ sym ((bytes_decides b names.0).0 p.2))
keys-same (a, Nowhere) (b, Some d) names i j same e f = absurd (omega arith)
keys-same (a, Some c) (b, Nowhere) names i j same e f = absurd (omega arith)
keys-same (a, Some c) (b, Some d) names i j same e f =
    let p = both-of (pointwise nat_eq a names.0) (pointwise nat_eq c names.1) (pointwise nat_eq b names.0) (pointwise nat_eq d names.1) e f in
    ap₂ (λ (x y : List ℕ). (x, Some y)) ((bytes_decides a names.0).0 p.0 ∙ sym ((bytes_decides b names.0).0 p.2))
    ((bytes_decides c names.1).0 p.1 ∙ sym ((bytes_decides d names.1).0 p.3))

slot-index : (i j : ℕ) (one other : Option (List ℕ)) → slot_in i one ≡ slot_in j other → i ≡ j
slot-index i j Nowhere Nowhere same = omega arith
slot-index i j Nowhere (Some d) same = absurd (omega arith)
slot-index i j (Some c) Nowhere same = absurd (omega arith)
slot-index i j (Some c) (Some d) same = omega arith

-- where keys have one place, they are the same
place-same : (spots : List Spot) (one other : Key) (i j : ℕ) → IsFirst one spots i → IsFirst other spots j → slot_of i one ≡ slot_of j other → one ≡ other
place-same spots one other i j first second same =
    let e : i ≡ j = slot-index i j one.1 other.1 same in
    keys-same one other (names_of (get_or spots j nobody)) i j same
    (subst (λ n. has_names one (names_of (get_or spots n nobody)) ≡ true) e (first.is nobody)) (second.is nobody)

-- # One more claim

has-more : (claims : List Claim) (claim : Claim) (key : Key) → has_key (claims ++ claim ∷ []) key ≡ (has_key claims key || (same_key (key_of claim) key || false))
has-more claims claim key = list_any-append (λ c. same_key (key_of c) key) claims (claim ∷ [])

or-or : (a : Bool) → (a || (true || false)) ≡ true
or-or true = refl
or-or false = refl

or-none : (a : Bool) → (a || (false || false)) ≡ a
or-none true = refl
or-none false = refl

module _ (claims : List Claim) (index : Index) (claim : Claim) (is : IsIndex index) (before : AreNoted claims index) where
  pub noted-more : (at : ℕ) → IsFirst (key_of claim) index.spots.items at → (noted : List Bool) → noted ≡ set index.noted.items (slot_of at (key_of claim)) true
      → (key : Key) (n : ℕ) → IsFirst key index.spots.items n → get_or noted (slot_of n key) false ≡ has_key (claims ++ claim ∷ []) key
  noted-more at first noted new key n second = go (same_key (key_of claim) key) refl
    where
      mine : Key
      mine = key_of claim

      long : slot_of at mine < length index.noted.items
      long = let small = key-within at (length index.spots.items) mine first.within in let e = is.long in omega (arith, small, e)

      go : (b : Bool) → same_key mine key ≡ b → get_or noted (slot_of n key) false ≡ has_key (claims ++ claim ∷ []) key
      go true e =
          let k : mine ≡ key = key-is mine key e in
          let here : n ≡ at = first-one mine index.spots.items at first n (subst (λ q. IsFirst q index.spots.items n) (sym k) second) in
          ap₂ (λ (bs : List Bool) (i : ℕ). get_or bs i false) new (ap₂ slot_of here (sym k))
          ∙ get_or-set_same index.noted.items (slot_of at mine) true false long
          ∙ sym (has-more claims claim key ∙ ap (λ b. has_key claims key || (b || false)) e ∙ or-or (has_key claims key))
      go false e =
          let apart : slot_of n key ≢ slot_of at mine = λ same.
          let k : mine ≡ key = place-same index.spots.items mine key at n first second (sym same) in
          true≢false (sym (key-itself mine) ∙ ap (same_key mine) k ∙ e) in
          ap (λ (bs : List Bool). get_or bs (slot_of n key) false) new
          ∙ get_or-set_other index.noted.items (slot_of at mine) (slot_of n key) true false apart
          ∙ before key n second
          ∙ sym (has-more claims claim key ∙ ap (λ b. has_key claims key || (b || false)) e ∙ or-none (has_key claims key))

  -- a claim about no pattern changes nothing
  pub noted-others : AreOthers (key_of claim) index.spots.items → AreNoted (claims ++ claim ∷ []) index
  noted-others others = λ key n second.
      let apart : same_key (key_of claim) key ≡ false = go key n second (same_key (key_of claim) key) refl in
      before key n second
      ∙ sym (has-more claims claim key ∙ ap (λ b. has_key claims key || (b || false)) apart ∙ or-none (has_key claims key))
    where
      go : (key : Key) (n : ℕ) → IsFirst key index.spots.items n → (b : Bool) → same_key (key_of claim) key ≡ b → same_key (key_of claim) key ≡ false
      go key n second true e =
          let k : key_of claim ≡ key = key-is (key_of claim) key e in
          absurd (true≢false (sym (second.is nobody) ∙ ap (λ q. has_names q (names_of (get_or index.spots.items n nobody))) (sym k) ∙ others n nobody second.within))
      go key n second false e = e
