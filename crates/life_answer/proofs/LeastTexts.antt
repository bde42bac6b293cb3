-- The least of some texts: it is one of them, and the same texts have the same least one.
use Rattle.std.proofs.Common.{if◌then◌else◌, ◌≡◌, ℕ, true, false, List, [], ◌∷◌, ◌++◌, map, Ordering, Less, Equal, Greater, ◌⊎◌, inl, inr, sym, refl, ap, subst, ◌∙◌, true≢false}
use Rattle.std.specs.List.{fold}
use Rattle.std.specs.Ordering.{ordering_reverse, is_gt}
use Rattle.std.specs.Cmp as cmp
use Rattle.life_cells.specs.TextOrder.{shorter_cmp, lesser_text, least_text}
use Rattle.life_cells.proofs.TextOrders.{shorter_total, shorter_exact}

-- t is one of the texts
abbrev pub Member : List ℕ → List (List ℕ) → Type 0
Member t [] = ⊥
Member t (x ∷ xs) = (t ≡ x) ⊎ Member t xs

-- ---- the order

abbrev IsUpTo : List ℕ → List ℕ → Type 0
IsUpTo a b = is_gt (shorter_cmp a b) ≡ false

upto_itself : (a : List ℕ) → IsUpTo a a
upto_itself a = ap is_gt (cmp.tied_itself shorter_total a)

upto_turned : (r s : Ordering) → r ≡ ordering_reverse s → is_gt r ≡ true → is_gt s ≡ false
upto_turned r Less e h = refl
upto_turned r Equal e h = refl
upto_turned r Greater e h = absurd (true≢false (sym h ∙ ap is_gt e))

upto_back : (a b : List ℕ) → is_gt (shorter_cmp a b) ≡ true → IsUpTo b a
upto_back a b h = upto_turned (shorter_cmp a b) (shorter_cmp b a) (shorter_total.antisymm a b) h

tied : (r s : Ordering) → r ≡ ordering_reverse s → is_gt r ≡ false → is_gt s ≡ false → r ≡ Equal
tied r Less e h k = absurd (true≢false (sym (ap is_gt e) ∙ h))
tied r Equal e h k = e
tied r Greater e h k = absurd (true≢false k)

upto_both : (a b : List ℕ) → IsUpTo a b → IsUpTo b a → a ≡ b
upto_both a b h k = shorter_exact a b (tied (shorter_cmp a b) (shorter_cmp b a) (shorter_total.antisymm a b) h k)

-- ---- the lesser of two

record IsLesser (a b l : List ℕ) : Type 0 where
  one : (l ≡ a) ⊎ (l ≡ b)
  first : IsUpTo l a
  second : IsUpTo l b

lesser-is : (a b : List ℕ) → IsLesser a b (lesser_text a b)
lesser-is a b =
    elim (is_gt (shorter_cmp a b)) as (λ t. is_gt (shorter_cmp a b) ≡ t → IsLesser a b (if t then b else a)) [
      | true ↦ λ e. record { one = inr refl; first = upto_back a b e; second = upto_itself b }
      | false ↦ λ e. record { one = inl refl; first = upto_itself a; second = e }
    ] refl

-- ---- the least of some

record IsLeast (texts : List (List ℕ)) (l : List ℕ) : Type 0 where
  member : Member l texts
  least : (t : List ℕ) → Member t texts → IsUpTo l t

kept : (t u m : List ℕ) (us : List (List ℕ)) → (lesser_text t u ≡ t) ⊎ (lesser_text t u ≡ u) → (m ≡ lesser_text t u) ⊎ Member m us → (m ≡ t) ⊎ ((m ≡ u) ⊎ Member m us)
kept t u m us (inl e) (inl f) = inl (f ∙ e)
kept t u m us (inr e) (inl f) = inr (inl (f ∙ e))
kept t u m us e (inr f) = inr (inr f)

fold-least : (t : List ℕ) (ts : List (List ℕ)) → IsLeast (t ∷ ts) (fold lesser_text t ts)
fold-least t [] = record { member = inl refl; least = λ u h. elim h [ inl e ↦ subst (IsUpTo t) (sym e) (upto_itself t) | inr none ↦ absurd none ] }
fold-least t (u ∷ us) =
    let here = lesser-is t u in
    let rest = fold-least (lesser_text t u) us in
    let low : IsUpTo (fold lesser_text (lesser_text t u) us) (lesser_text t u) = rest.least (lesser_text t u) (inl refl) in
    record {
      member = kept t u _ us here.one rest.member;
      least = λ v h.
          elim h [
            | inl e ↦ subst (IsUpTo (fold lesser_text (lesser_text t u) us)) (sym e) (cmp.upto shorter_total _ (lesser_text t u) t low here.first)
            | inr later ↦
                elim later [
                  | inl e ↦ subst (IsUpTo (fold lesser_text (lesser_text t u) us)) (sym e) (cmp.upto shorter_total _ (lesser_text t u) u low here.second)
                  | inr among ↦ rest.least v (inr among)
                ]
          ];
    }

least_text-is : (t : List ℕ) (ts : List (List ℕ)) → Member t ts → IsLeast ts (least_text ts)
least_text-is t [] none = absurd none
least_text-is t (u ∷ us) h = fold-least u us

pub least_member : (t : List ℕ) (ts : List (List ℕ)) → Member t ts → Member (least_text ts) ts
least_member t ts h = (least_text-is t ts h).member

-- where each text of one list is one of the other's and the other way round, and there is one, the least is the same
pub least_same : (t : List ℕ) (ts us : List (List ℕ)) → Member t ts → ((v : List ℕ) → Member v ts → Member v us) → ((v : List ℕ) → Member v us → Member v ts) → least_text ts ≡ least_text us
least_same t ts us h forth back =
    let one = least_text-is t ts h in
    let other = least_text-is t us (forth t h) in
    upto_both (least_text ts) (least_text us) (one.least (least_text us) (back _ other.member)) (other.least (least_text ts) (forth _ one.member))

-- ---- texts that are made one after another

pub member-append_left : (t : List ℕ) (xs ys : List (List ℕ)) → Member t xs → Member t (xs ++ ys)
member-append_left t [] ys none = absurd none
member-append_left t (x ∷ xs) ys (inl e) = inl e
member-append_left t (x ∷ xs) ys (inr h) = inr (member-append_left t xs ys h)

pub member-append_right : (t : List ℕ) (xs ys : List (List ℕ)) → Member t ys → Member t (xs ++ ys)
member-append_right t [] ys h = h
member-append_right t (x ∷ xs) ys h = inr (member-append_right t xs ys h)

pub member_of_append : (t : List ℕ) (xs ys : List (List ℕ)) → Member t (xs ++ ys) → Member t xs ⊎ Member t ys
member_of_append t [] ys h = inr h
member_of_append t (x ∷ xs) ys (inl e) = inl (inl e)
member_of_append t (x ∷ xs) ys (inr h) = elim (member_of_append t xs ys h) [ inl a ↦ inl (inr a) | inr b ↦ inr b ]

pub member_of_map : {X : Type 0} (f : X → List ℕ) (t : List ℕ) (xs : List X) → Member t (map f xs) → (x : X) × (t ≡ f x)
member_of_map f t [] none = absurd none
member_of_map f t (x ∷ xs) (inl e) = (x, e)
member_of_map f t (x ∷ xs) (inr h) = member_of_map f t xs h
