-- Patterns in order, by the keys that they have.
use Rattle.std.proofs.Common.{◌≡◌, ℕ, suc, ◌+◌, ◌<◌, ◌≤◌, Bool, true, false, List, [], ◌∷◌, ◌++◌, length, map, take, drop, refl, sym, ap, ap₂, ◌∙◌, subst, arith, append-nil, append_assoc, get_or, true≢false}
use Rattle.std.specs.Prelude.{cond, filter, slice_index_or}
use Rattle.std.specs.List.{prefix_len, All}
use Rattle.std.specs.Ordering.{is_eq, is_lt}
use Rattle.std.specs.declared.cmp.Ordering.TheVariants.{Less}
use Rattle.std.proofs.Math.Numerals.{one-add}
use Rattle.std.proofs.lemmas.List.{drop-drop, drop-map, length-drop, map-append, take-append-drop, take-map}
use Rattle.std.proofs.lemmas.List.Elements.{All-cons, All-head, All-nil, All-tail, filter-append}
use Rattle.std.proofs.lemmas.List.Sums.{prefix_len-le-length}
use Rattle.census_rows.proofs.Filters.{filter-none}
use Rattle.census_compare.specs.Order.{Key, is_key, has_key, key_cmp, key_of, AreInOrder}
use Rattle.census_compare.specs.Same.{several}
use Rattle.census_compare.specs.declared.told.Told.{Told}
use Rattle.census_compare.proofs.SameKeys.{behind, further, has_is, has-key, key-itself, not-key-back, tied-same}

-- # Patterns in order, from a key on

-- the first n of patterns have a key, and the others have later ones
pub record Split (k : Key) (ts : List Told) (n : ℕ) : Type 0 where
  pub here : filter (has_key k) ts ≡ take n ts
  pub behind : All (λ t. key_cmp k (key_of t) ≡ Less) (drop n ts)
  pub order : AreInOrder (drop n ts)

split-more : (k : Key) (t : Told) (ts : List Told) (n : ℕ) → has_key k t ≡ true → Split k ts n → Split k (t ∷ ts) (suc n)
split-more k t ts n has s = record {
  here = ap (λ (b : Bool). cond b (t ∷ filter (has_key k) ts) (filter (has_key k) ts)) has ∙ ap (λ us. t ∷ us) s.here;
  behind = s.behind;
  order = s.order;
}
  where
    is : key_of t ≡ k
    is = has-key k t has

split-end : (k : Key) (t : Told) (ts : List Told) → AreInOrder (t ∷ ts) → is_lt (key_cmp (key_of t) k) ≡ false → has_key k t ≡ false → Split k (t ∷ ts) 0
split-end k t ts order from other = record {
  here = filter-none (has_key k) (t ∷ ts) (λ i d small.
      has_is k (slice_index_or (t ∷ ts) i d) ∙ not-key-back k (key_of (slice_index_or (t ∷ ts) i d)) (all i d small));
  behind = all;
  order = order;
}
  where
    first : key_cmp k (key_of t) ≡ Less
    first = behind (key_of t) k from (sym (has_is k t) ∙ other)

    all : All (λ u. key_cmp k (key_of u) ≡ Less) (t ∷ ts)
    all = All-cons (λ u. key_cmp k (key_of u) ≡ Less) t ts first
        (λ i d small. further k (key_of t) (key_of (slice_index_or ts i d)) first (order.0 i d small))

pub split : (k : Key) (ts : List Told) → AreInOrder ts → All (λ t. is_lt (key_cmp (key_of t) k) ≡ false) ts → Split k ts (prefix_len (has_key k) ts)
split k [] order from = record { here = refl; behind = All-nil (λ t. key_cmp k (key_of t) ≡ Less); order = tt }
split k (t ∷ ts) order from = go (has_key k t) refl (split k ts order.1 (All-tail (λ t. is_lt (key_cmp (key_of t) k) ≡ false) t ts from))
  where
    go : (b : Bool) → has_key k t ≡ b → Split k ts (prefix_len (has_key k) ts) → Split k (t ∷ ts) (cond b (1 + prefix_len (has_key k) ts) 0)
    go true e s = subst (Split k (t ∷ ts)) (sym (one-add (prefix_len (has_key k) ts))) (split-more k t ts (prefix_len (has_key k) ts) e s)
    go false e s = split-end k t ts order (from 0 t (omega arith)) e

-- # The first group, and the others

has-own : (t : Told) → has_key (key_of t) t ≡ true
has-own t = has_is (key_of t) t ∙ ap is_eq (key-itself (key_of t))

pub split-first : (t : Told) (ts : List Told) → AreInOrder (t ∷ ts) → Split (key_of t) (t ∷ ts) (prefix_len (has_key (key_of t)) (t ∷ ts))
split-first t ts order =
    split (key_of t) (t ∷ ts) order
    (All-cons (λ u. is_lt (key_cmp (key_of u) (key_of t)) ≡ false) t ts (ap is_lt (key-itself (key_of t))) order.0)

-- the first group has a pattern
pub group-some : (t : Told) (ts : List Told) → 0 < prefix_len (has_key (key_of t)) (t ∷ ts)
group-some t ts = subst (λ (b : Bool). 0 < cond b (1 + prefix_len (has_key (key_of t)) ts) 0) (sym (has-own t)) (omega arith)

filter-again : (p : Told → Bool) (ts : List Told) → filter p (filter p ts) ≡ filter p ts
filter-again p [] = refl
filter-again p (t ∷ ts) = go (p t) refl (filter-again p ts)
  where
    go : (b : Bool) → p t ≡ b → filter p (filter p ts) ≡ filter p ts → filter p (cond b (t ∷ filter p ts) (filter p ts)) ≡ cond b (t ∷ filter p ts) (filter p ts)
    go true e more = ap (λ b. cond b (t ∷ filter p (filter p ts)) (filter p (filter p ts))) e ∙ ap (λ us. t ∷ us) more
    go false e more = more

-- no pattern passes both tests
filter-apart : (p q : Told → Bool) (ts : List Told) → ((t : Told) → q t ≡ true → p t ≡ false) → filter p (filter q ts) ≡ []
filter-apart p q [] apart = refl
filter-apart p q (t ∷ ts) apart = go (q t) refl (filter-apart p q ts apart)
  where
    go : (b : Bool) → q t ≡ b → filter p (filter q ts) ≡ [] → filter p (cond b (t ∷ filter q ts) (filter q ts)) ≡ []
    go true e more = ap (λ b. cond b (t ∷ filter p (filter q ts)) (filter p (filter q ts))) (apart t e) ∙ more
    go false e more = more

several-whole : (p : Told → Bool) (ts : List Told) → filter p ts ≡ ts → filter p (several ts) ≡ several ts
several-whole p [] e = refl
several-whole p (t ∷ []) e = refl
several-whole p (t ∷ (u ∷ us)) e = e

several-none : (p : Told → Bool) (ts : List Told) → filter p ts ≡ [] → filter p (several ts) ≡ []
several-none p [] e = refl
several-none p (t ∷ []) e = refl
several-none p (t ∷ (u ∷ us)) e = e

-- of patterns with another key none has this one
apart-keys : (k x : Key) → is_key x k ≡ false → (t : Told) → has_key k t ≡ true → has_key x t ≡ false
apart-keys k x e t h = go (has_key x t) refl
  where
    go : (b : Bool) → has_key x t ≡ b → has_key x t ≡ false
    go true y = absurd (true≢false (sym (ap is_eq (key-itself k)) ∙ ap (λ z. is_key z k) (sym (has-key k t h) ∙ has-key x t y) ∙ e))
    go false y = y

-- what one key has in all is what it has in the first group, where that has several, and what it has in the others
parted : (x k : Key) (ts : List Told) (n : ℕ) → Split k ts n
    → several (filter (has_key x) ts) ≡ filter (has_key x) (several (take n ts)) ++ several (filter (has_key x) (drop n ts))
parted x k ts n s = go (is_key x k) refl
  where
    none : filter (has_key k) (drop n ts) ≡ []
    none = filter-none (has_key k) (drop n ts) (λ i d small.
        has_is k (slice_index_or (drop n ts) i d) ∙ not-key-back k (key_of (slice_index_or (drop n ts) i d)) (s.behind i d small))

    whole : filter (has_key k) (take n ts) ≡ take n ts
    whole = ap (filter (has_key k)) (sym s.here) ∙ filter-again (has_key k) ts ∙ s.here

    own : several (filter (has_key k) ts) ≡ filter (has_key k) (several (take n ts)) ++ several (filter (has_key k) (drop n ts))
    own =
        ap several s.here
        ∙ sym (several-whole (has_key k) (take n ts) whole)
        ∙ sym (append-nil (filter (has_key k) (several (take n ts))))
        ∙ ap (λ us. filter (has_key k) (several (take n ts)) ++ several us) (sym none)

    go : (b : Bool) → is_key x k ≡ b → several (filter (has_key x) ts) ≡ filter (has_key x) (several (take n ts)) ++ several (filter (has_key x) (drop n ts))
    go true e = subst (λ z. several (filter (has_key z) ts) ≡ filter (has_key z) (several (take n ts)) ++ several (filter (has_key z) (drop n ts))) (sym (tied-same x k e)) own
    go false e =
        let here : filter (has_key x) (take n ts) ≡ [] = ap (filter (has_key x)) (sym s.here) ∙ filter-apart (has_key x) (has_key k) ts (apart-keys k x e) in
        ap several
        (ap (filter (has_key x)) (sym (take-append-drop n ts)) ∙ filter-append (has_key x) (take n ts) (drop n ts) ∙ ap (λ us. us ++ filter (has_key x) (drop n ts)) here)
        ∙ ap (λ us. us ++ several (filter (has_key x) (drop n ts))) (sym (several-none (has_key x) (take n ts) here))

-- from patterns in order the first group is taken, and then the others
pub record Walk (ts : List Told) (n : ℕ) : Type 0 where
  pub on : 0 < n
  pub within : n ≤ length ts
  pub order : AreInOrder (drop n ts)
  pub same : (x : Key) → several (filter (has_key x) ts) ≡ filter (has_key x) (several (take n ts)) ++ several (filter (has_key x) (drop n ts))

pub walk : (ts : List Told) (d : Told) (k : Key) (n : ℕ) → AreInOrder ts → 0 < length ts → k ≡ key_of (get_or ts 0 d) → n ≡ prefix_len (has_key k) ts → Walk ts n
walk [] d k n order some is count = absurd (omega arith)
walk (t ∷ ts) d k n order some is count =
    let e : n ≡ prefix_len (has_key (key_of t)) (t ∷ ts) = count ∙ ap (λ z. prefix_len (has_key z) (t ∷ ts)) is in
    let s : Split (key_of t) (t ∷ ts) n = subst (Split (key_of t) (t ∷ ts)) (sym e) (split-first t ts order) in
    let low = group-some t ts in
    let high = prefix_len-le-length (has_key (key_of t)) (t ∷ ts) in
    record { on = omega (arith, e, low); within = omega (arith, e, high); order = s.order; same = λ x. parted x (key_of t) (t ∷ ts) n s }

pub several-told : {P : Type 0} (told : P → Told) (ps : List P) → 1 < length ps → map told ps ≡ several (map told ps)
several-told told [] many = absurd (omega arith)
several-told told (p ∷ []) many = absurd (omega arith)
several-told told (p ∷ (q ∷ qs)) many = refl

pub few-told : {P : Type 0} (told : P → Told) (ps : List P) → length ps ≤ 1 → [] ≡ several (map told ps)
few-told told [] few = refl
few-told told (p ∷ []) few = refl
few-told told (p ∷ (q ∷ qs)) few = absurd (omega arith)

pub walk_places : {P : Type 0} (told : P → Told) (ps : List P) (d : P) (k : Key) (n : ℕ) → AreInOrder (map told ps) → 0 < length ps → k ≡ key_of (told (get_or ps 0 d))
    → n ≡ prefix_len (has_key k) (map told ps) → Walk (map told ps) n
walk_places told [] d k n order some is count = absurd (omega arith)
walk_places told (p ∷ ps) d k n order some is count = walk (told p ∷ map told ps) (told p) k n order (omega arith) is count

-- the same of what is left of a list behind a place
pub walk_left : {P : Type 0} (told : P → Told) (ps : List P) (at : ℕ) (d : P) (k : Key) (n : ℕ) {left : List P} → at < length ps → AreInOrder (map told (drop at ps))
    → left ≡ drop at ps → k ≡ key_of (told (get_or left 0 d)) → n ≡ prefix_len (has_key k) (map told left) → Walk (map told (drop at ps)) n
walk_left told ps at d k n less order whole is count =
    walk_places told (drop at ps) d k n order (omega (arith, less, length-drop at ps)) (is ∙ ap (λ qs. key_of (told (get_or qs 0 d))) whole)
    (count ∙ ap (λ qs. prefix_len (has_key k) (map told qs)) whole)

pub behind_places : {P : Type 0} (told : P → Told) (ps : List P) (at n : ℕ) → drop n (map told (drop at ps)) ≡ map told (drop (at + n) ps)
behind_places told ps at n = drop-map told n (drop at ps) ∙ ap (map told) (drop-drop n at ps)

-- what was listed, with the first group of what is left
pub taken : {P : Type 0} (told : P → Told) (ps shared chosen new : List P) (at n : ℕ) (x : Key) → Walk (map told (drop at ps)) n → new ≡ shared ++ chosen
    → map told chosen ≡ several (map told (take n (drop at ps)))
    → several (filter (has_key x) (map told ps)) ≡ filter (has_key x) (map told shared) ++ several (filter (has_key x) (map told (drop at ps)))
    → several (filter (has_key x) (map told ps)) ≡ filter (has_key x) (map told new) ++ several (filter (has_key x) (map told (drop (at + n) ps)))
taken told ps shared chosen new at n x on new_is chosen_is before =
    let mine : List Told → List Told = filter (has_key x) in
    let ts : List Told = map told (drop at ps) in
    let rest : List Told = several (mine (drop n ts)) in
    let some : mine (several (take n ts)) ≡ mine (map told chosen) = ap (λ us. mine (several us)) (take-map told n (drop at ps)) ∙ ap mine (sym chosen_is) in
    let all : mine (map told shared) ++ mine (map told chosen) ≡ mine (map told new) =
    sym (filter-append (has_key x) (map told shared) (map told chosen)) ∙ ap mine (sym (map-append told shared chosen) ∙ ap (map told) (sym new_is)) in
    before
    ∙ ap (λ us. mine (map told shared) ++ us) (on.same x ∙ ap (λ us. us ++ rest) some)
    ∙ sym (append_assoc (mine (map told shared)) (mine (map told chosen)) rest)
    ∙ ap₂ (λ (us vs : List Told). us ++ several (mine vs)) all (behind_places told ps at n)

-- # What is left out of patterns in order

all-without : (P : Told → Type 0) (ts us vs : List Told) → All P (ts ++ (us ++ vs)) → All P (ts ++ vs)
all-without P [] [] vs all = all
all-without P [] (u ∷ us) vs all = all-without P [] us vs (All-tail P u (us ++ vs) all)
all-without P (t ∷ ts) us vs all = All-cons P t (ts ++ vs) (All-head P t (ts ++ (us ++ vs)) all) (all-without P ts us vs (All-tail P t (ts ++ (us ++ vs)) all))

order-without : (ts us vs : List Told) → AreInOrder (ts ++ (us ++ vs)) → AreInOrder (ts ++ vs)
order-without [] [] vs order = order
order-without [] (u ∷ us) vs order = order-without [] us vs order.1
order-without (t ∷ ts) us vs order =
    (all-without (λ other. is_lt (key_cmp (key_of other) (key_of t)) ≡ false) ts us vs order.0, order-without ts us vs order.1)

order-several : (ts us vs : List Told) → AreInOrder (ts ++ (us ++ vs)) → AreInOrder (ts ++ (several us ++ vs))
order-several ts [] vs order = order
order-several ts (u ∷ []) vs order = order-without ts (u ∷ []) vs order
order-several ts (u ∷ (w ∷ us)) vs order = order

-- what was listed, with the first group of what is left, is in order before what is left then
pub taken-order : {P : Type 0} (told : P → Told) (ps shared chosen new : List P) (at n : ℕ) → new ≡ shared ++ chosen
    → map told chosen ≡ several (map told (take n (drop at ps)))
    → AreInOrder (map told shared ++ map told (drop at ps)) → AreInOrder (map told new ++ map told (drop (at + n) ps))
taken-order told ps shared chosen new at n new_is chosen_is order =
    let ss : List Told = map told shared in
    let ts : List Told = map told (drop at ps) in
    let parted : AreInOrder (ss ++ (take n ts ++ drop n ts)) = subst (λ us. AreInOrder (ss ++ us)) (sym (take-append-drop n ts)) order in
    let group : several (take n ts) ≡ map told chosen = ap several (take-map told n (drop at ps)) ∙ sym chosen_is in
    let all : ss ++ several (take n ts) ≡ map told new = ap (λ us. ss ++ us) group ∙ sym (map-append told shared chosen) ∙ ap (map told) (sym new_is) in
    subst AreInOrder (sym (append_assoc ss (several (take n ts)) (drop n ts)) ∙ ap₂ (λ (us vs : List Told). us ++ vs) all (behind_places told ps at n))
    (order-several ss (take n ts) (drop n ts) parted)
