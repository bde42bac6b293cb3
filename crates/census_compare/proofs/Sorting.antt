-- Places that are put in the order of the keys of their patterns.
use Rattle.std.proofs.Common.{◌≡◌, true, false, List, [], ◌∷◌, sym, ap, ◌∙◌, map}
use Rattle.std.specs.Prelude.{filter}
use Rattle.std.specs.List.{AllByRecursion}
use Rattle.std.specs.Ordering.{is_gt, is_lt}
use Rattle.std.specs.declared.cmp.Ordering.TheVariants.{Equal}
use Rattle.std.proofs.lemmas.List.Elements.{All-from_recursion}
use Rattle.census_table.specs.Places.{Rises}
use Rattle.census_table.specs.declared.place.Place.{Place}
use Rattle.census_rows.proofs.Filters.{filter-map}
use Rattle.census_table.proofs.Ties.{lt-back}
use Rattle.census_compare.specs.KeyLaws.{key_total}
use Rattle.census_compare.specs.Order.{Key, has_key, key_cmp, key_of, AreInOrder}
use Rattle.census_compare.specs.declared.told.Told.{Told}
use Rattle.census_compare.proofs.SameKeys.{has-key, key-itself}

not-before : (x y : Key) → is_gt (key_cmp x y) ≡ false → is_lt (key_cmp y x) ≡ false
not-before x y h = ap is_lt (key_total.antisymm y x) ∙ lt-back (key_cmp x y) ∙ h

module _ (told : Place → Told) where
  -- patterns of one key are level
  pub one-key : (k : Key) (p q : Place) → has_key k (told p) ≡ true → has_key k (told q) ≡ true → key_cmp (key_of (told p)) (key_of (told q)) ≡ Equal
  one-key k p q a b = ap (λ x. key_cmp x (key_of (told q))) (has-key k (told p) a ∙ sym (has-key k (told q) b)) ∙ key-itself (key_of (told q))

  pub places-in-order : (ps : List Place) → Rises (λ p q. is_gt (key_cmp (key_of (told p)) (key_of (told q))) ≡ false) ps → AreInOrder (map told ps)
  places-in-order [] h = tt
  places-in-order (p ∷ ps) h =
      (All-from_recursion (λ t. is_lt (key_cmp (key_of t) (key_of (told p))) ≡ false) (map told ps) (behind p ps h.0), places-in-order ps h.1)
    where
      behind : (p : Place) (ps : List Place) → AllByRecursion (λ q. is_gt (key_cmp (key_of (told p)) (key_of (told q))) ≡ false) ps
          → AllByRecursion (λ t. is_lt (key_cmp (key_of t) (key_of (told p))) ≡ false) (map told ps)
      behind p [] h = tt
      behind p (q ∷ qs) h = (not-before (key_of (told p)) (key_of (told q)) h.0, behind p qs h.1)

  pub places-same : (ps qs : List Place) (key : Key) → filter (λ p. has_key key (told p)) qs ≡ filter (λ p. has_key key (told p)) ps
      → filter (has_key key) (map told qs) ≡ filter (has_key key) (map told ps)
  places-same ps qs key same = filter-map (has_key key) told qs ∙ ap (map told) same ∙ sym (filter-map (has_key key) told ps)
