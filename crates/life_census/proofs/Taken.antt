-- The first elements of a list, and one more.
use Rattle.std.proofs.Common.{◌≡◌, ℕ, ◌+◌, ◌<◌, ◌≤◌, List, [], ◌∷◌, ◌++◌, length, get_or, take, flat_map, refl, sym, ap, subst, ◌∙◌}
use Rattle.std.specs.List.{All}
use Rattle.std.proofs.lemmas.List.Elements.{All-get_or, All-same}
use Rattle.std.proofs.lemmas.Grind.{flat_map-append}
use Rattle.std.proofs.lemmas.List.{append-nil, get_or_read_under, take_all, take_more}

module _ {X : Type 0} where
  -- where an element is read, in a list that is another
  pub one_taken : (xs ys : List X) (i : ℕ) (x : X) → xs ≡ ys → x ≡ get_or xs i x → i < length xs →
      take i ys ++ x ∷ [] ≡ take (i + 1) ys
  one_taken xs ys i x same read inside =
      sym (take_more xs i x inside ∙ ap (λ y. take i xs ++ y ∷ []) (sym (get_or_read_under xs i (length xs) x x read inside refl))
      ∙ ap (λ zs. take i zs ++ x ∷ []) same)
      ∙ ap (take (i + 1)) same

  -- what holds of all holds of it
  pub holds_of_one : (P : X → Type 0) (xs ys : List X) (i : ℕ) (x : X) → xs ≡ ys → x ≡ get_or xs i x → i < length xs →
      All P ys → P x
  holds_of_one P xs ys i x same read inside all =
      subst P (sym read) (All-get_or P xs i x inside (All-same P xs ys same all))

  pub all_taken : (xs ys : List X) (i : ℕ) → xs ≡ ys → length xs ≤ i → take i ys ≡ ys
  all_taken xs ys i same past = ap (take i) (sym same) ∙ take_all i xs past ∙ same

-- of each a list, one after the other
pub one_flat : {X Y : Type 0} (f : X → List Y) (xs : List X) (x : X) → flat_map f xs ++ f x ≡ flat_map f (xs ++ x ∷ [])
one_flat f xs x = ap (λ ys. flat_map f xs ++ ys) (sym (append-nil (f x))) ∙ sym (flat_map-append f xs (x ∷ []))
