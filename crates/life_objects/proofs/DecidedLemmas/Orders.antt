-- An element of a list moved to the front, and from the front to its place.
use Rattle.std.proofs.Common.{List, [], ◌∷◌, ◌++◌}
use Rattle.std.specs.List.{All, AllPairs}
use Rattle.std.proofs.lemmas.List.Elements.{All-head, All-tail, All-cons}
use Rattle.std.proofs.lemmas.List.Kept.{AllPairs-cons}
use Rattle.life_objects.proofs.Lists.{AllPairs-head, AllPairs-tail}

module _ {X : Type 0} where
  pub All-to_front : (P : X → Type 0) (x : X) (xs ys : List X) → All P (xs ++ (x ∷ ys)) → All P (x ∷ (xs ++ ys))
  All-to_front P x [] ys all = all
  All-to_front P x (z ∷ zs) ys all =
      let rest = All-to_front P x zs ys (All-tail P z (zs ++ (x ∷ ys)) all) in
      All-cons P x (z ∷ (zs ++ ys)) (All-head P x (zs ++ ys) rest)
      (All-cons P z (zs ++ ys) (All-head P z (zs ++ (x ∷ ys)) all) (All-tail P x (zs ++ ys) rest))

  pub All-from_front : (P : X → Type 0) (x : X) (xs ys : List X) → All P (x ∷ (xs ++ ys)) → All P (xs ++ (x ∷ ys))
  All-from_front P x [] ys all = all
  All-from_front P x (z ∷ zs) ys all =
      let rest = All-tail P x (z ∷ (zs ++ ys)) all in
      All-cons P z (zs ++ (x ∷ ys)) (All-head P z (zs ++ ys) rest)
      (All-from_front P x zs ys
      (All-cons P x (zs ++ ys) (All-head P x (z ∷ (zs ++ ys)) all) (All-tail P z (zs ++ ys) rest)))

  module _ (S : X → X → Type 0) (swap : (x y : X) → S x y → S y x) where
    pub pairs_to_front : (x : X) (xs ys : List X) → AllPairs S (xs ++ (x ∷ ys)) → AllPairs S (x ∷ (xs ++ ys))
    pairs_to_front x [] ys pairs = pairs
    pairs_to_front x (z ∷ zs) ys pairs =
        let with_z = All-to_front (S z) x zs ys (AllPairs-head S z (zs ++ (x ∷ ys)) pairs) in
        let rest = pairs_to_front x zs ys (AllPairs-tail S z (zs ++ (x ∷ ys)) pairs) in
        AllPairs-cons S x (z ∷ (zs ++ ys))
        (All-cons (S x) z (zs ++ ys) (swap z x (All-head (S z) x (zs ++ ys) with_z))
        (AllPairs-head S x (zs ++ ys) rest))
        (AllPairs-cons S z (zs ++ ys) (All-tail (S z) x (zs ++ ys) with_z) (AllPairs-tail S x (zs ++ ys) rest))

    pub pairs_from_front : (x : X) (xs ys : List X) → AllPairs S (x ∷ (xs ++ ys)) → AllPairs S (xs ++ (x ∷ ys))
    pairs_from_front x [] ys pairs = pairs
    pairs_from_front x (z ∷ zs) ys pairs =
        let with_x = AllPairs-head S x (z ∷ (zs ++ ys)) pairs in
        let rest = AllPairs-tail S x (z ∷ (zs ++ ys)) pairs in
        AllPairs-cons S z (zs ++ (x ∷ ys))
        (All-from_front (S z) x zs ys
        (All-cons (S z) x (zs ++ ys) (swap x z (All-head (S x) z (zs ++ ys) with_x))
        (AllPairs-head S z (zs ++ ys) rest)))
        (pairs_from_front x zs ys
        (AllPairs-cons S x (zs ++ ys) (All-tail (S x) z (zs ++ ys) with_x) (AllPairs-tail S z (zs ++ ys) rest)))
