-- Bytes of which a prefix is put.
use Rattle.std.proofs.Common.{◌≡◌, ℕ, suc, ◌+◌, ◌<◌, ◌≤◌, List, [], ◌∷◌, ◌++◌, length, drop, get_or, Result, Ok, Err, MatchResult, refl, sym, ap, ◌∙◌, subst, append_assoc, append-nil, drop-cons, arith}
use Rattle.std.proofs.lemmas.List.{drop_all}
use Rattle.watched.specs.Telling.{Sheet, TellsAfter, TellsFront}
use Rattle.watched.proofs.Telling.{tells_more, tells_none}

-- everything but what is left is put
pub record TellsUpTo (whole left : List ℕ) (a b : Sheet) : Type 0 where
  pub done : List ℕ
  pub whole_is : whole ≡ done ++ left
  pub told : TellsAfter done a b

pub up_to_start : (whole : List ℕ) (a : Sheet) → TellsUpTo whole whole a a
up_to_start whole a = record { done = []; whole_is = refl; told = tells_none a }

pub up_to_stop : (whole left : List ℕ) (a b : Sheet) → TellsUpTo whole left a b → TellsFront whole a b
up_to_stop whole left a b p = record { front = p.done; rest = left; whole = p.whole_is; tells = p.told }

pub up_to_end : (whole left : List ℕ) (a b : Sheet) → TellsUpTo whole left a b → left ≡ [] → TellsAfter whole a b
up_to_end whole left a b p none =
    subst (λ t. TellsAfter t a b) (sym (p.whole_is ∙ ap (λ t. p.done ++ t) none ∙ append-nil p.done)) p.told

-- nothing is put
pub front_none : (whole : List ℕ) (a : Sheet) → TellsFront whole a a
front_none whole a = up_to_stop whole whole a a (up_to_start whole a)

module _ (whole left text others : List ℕ) (a b c : Sheet) (p : TellsUpTo whole left a b) (cut : left ≡ text ++ others) where
  pub up_to_more : TellsAfter text b c → TellsUpTo whole others a c
  up_to_more told = record {
    done = p.done ++ text;
    whole_is = p.whole_is ∙ ap (λ t. p.done ++ t) cut ∙ sym (append_assoc p.done text others);
    told = tells_more p.done text a b c p.told told;
  }

  pub up_to_front : TellsFront text b c → TellsFront whole a c
  up_to_front front = record {
    front = p.done ++ front.front;
    rest = front.rest ++ others;
    whole = p.whole_is
        ∙ ap (λ t. p.done ++ t) (cut ∙ ap (λ t. t ++ others) front.whole ∙ append_assoc front.front front.rest others)
        ∙ sym (append_assoc p.done front.front (front.rest ++ others));
    tells = tells_more p.done front.front a b c p.told front.tells;
  }

-- no more than the first of two texts is put
pub front_first : (whole first second : List ℕ) (a b : Sheet) → whole ≡ first ++ second → TellsFront first a b → TellsFront whole a b
front_first whole first second a b e front = up_to_front whole whole first second a a b (up_to_start whole a) e front

-- two texts, of which the second is put after the first
pub told_both : {A B : Type 0} (r : Result A B) (whole first second : List ℕ) (a b c : Sheet) → whole ≡ first ++ second → TellsAfter first a b
    → MatchResult r (λ _. TellsAfter second b c) (λ _. TellsFront second b c) → MatchResult r (λ _. TellsAfter whole a c) (λ _. TellsFront whole a c)
told_both (Ok x) whole first second a b c e p q = subst (λ t. TellsAfter t a c) (sym e) (tells_more first second a b c p q)
told_both (Err x) whole first second a b c e p q =
    up_to_front whole second second [] a b c (record { done = first; whole_is = e; told = p }) (sym (append-nil second)) q

-- after a first text a prefix of a second is put
pub front_more : (first second : List ℕ) (a b c : Sheet) → TellsAfter first a b → TellsFront second b c → TellsFront (first ++ second) a c
front_more first second a b c told front = record {
  front = first ++ front.front;
  rest = front.rest;
  whole = ap (λ t. first ++ t) front.whole ∙ sym (append_assoc first front.front front.rest);
  tells = tells_more first front.front a b c told front.tells;
}

-- three texts, one after another
module _ (whole head inner end : List ℕ) (is : whole ≡ head ++ (inner ++ end)) (a b c : Sheet) (first : TellsAfter head a b) where
  pub told_around : (d : Sheet) → TellsAfter inner b c → TellsAfter end c d → TellsAfter whole a d
  told_around d second third = subst (λ t. TellsAfter t a d) (sym is) (tells_more head (inner ++ end) a b d first (tells_more inner end b c d second third))

  pub front_around : TellsFront inner b c → TellsFront whole a c
  front_around front = front_first whole (head ++ inner) end a c (is ∙ sym (append_assoc head inner end)) (front_more head inner a b c first front)

-- texts of elements one after another, each written with the elements after it
module _ {X : Type 0} (one : X → List X → List ℕ) (all : List X → List ℕ) (cons : (x : X) (xs : List X) → all (x ∷ xs) ≡ one x xs ++ all xs)
    (xs : List X) (i : ℕ) (a b : Sheet) (upto : TellsUpTo (all xs) (all (drop i xs)) a b) where
  cut : (d : X) → i < length xs → all (drop i xs) ≡ one (get_or xs i d) (drop (i + 1) xs) ++ all (drop (i + 1) xs)
  cut d less =
      ap all (drop-cons xs i d less ∙ ap (λ k. get_or xs i d ∷ drop k xs) (let e : suc i ≡ i + 1 = omega arith in e)) ∙ cons (get_or xs i d) (drop (i + 1) xs)

  pub behind_more : (d : X) (rest : List X) (c : Sheet) → rest ≡ drop (i + 1) xs → i < length xs → TellsAfter (one (get_or xs i d) rest) b c
      → TellsUpTo (all xs) (all (drop (i + 1) xs)) a c
  behind_more d rest c e less told =
      up_to_more (all xs) (all (drop i xs)) (one (get_or xs i d) rest) (all (drop (i + 1) xs)) a b c upto
      (cut d less ∙ ap (λ ys. one (get_or xs i d) ys ++ all (drop (i + 1) xs)) (sym e)) told

  pub behind_front : (d : X) (rest : List X) (c : Sheet) → rest ≡ drop (i + 1) xs → i < length xs → TellsFront (one (get_or xs i d) rest) b c
      → TellsFront (all xs) a c
  behind_front d rest c e less front =
      up_to_front (all xs) (all (drop i xs)) (one (get_or xs i d) rest) (all (drop (i + 1) xs)) a b c upto
      (cut d less ∙ ap (λ ys. one (get_or xs i d) ys ++ all (drop (i + 1) xs)) (sym e)) front

  pub behind_end : length xs ≤ i → all [] ≡ [] → TellsAfter (all xs) a b
  behind_end over none = up_to_end (all xs) (all (drop i xs)) a b upto (ap all (drop_all i xs over) ∙ none)

-- and each written by itself
module _ {X : Type 0} (one : X → List ℕ) (all : List X → List ℕ) (cons : (x : X) (xs : List X) → all (x ∷ xs) ≡ one x ++ all xs) (xs : List X) (i : ℕ) (a b : Sheet)
    (upto : TellsUpTo (all xs) (all (drop i xs)) a b) where
  pub each_more : (d : X) (c : Sheet) → i < length xs → TellsAfter (one (get_or xs i d)) b c → TellsUpTo (all xs) (all (drop (i + 1) xs)) a c
  each_more d c less told = behind_more (λ x rest. one x) all cons xs i a b upto d (drop (i + 1) xs) c refl less told

  pub each_front : (d : X) (c : Sheet) → i < length xs → TellsFront (one (get_or xs i d)) b c → TellsFront (all xs) a c
  each_front d c less front = behind_front (λ x rest. one x) all cons xs i a b upto d (drop (i + 1) xs) c refl less front

  pub each_end : length xs ≤ i → all [] ≡ [] → TellsAfter (all xs) a b
  each_end = behind_end (λ x rest. one x) all cons xs i a b upto
