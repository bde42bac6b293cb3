-- The least of several texts.
use Rattle.std.proofs.Common.{◌≡◌, ℕ, true, false, cond, List, [], ◌∷◌, length, Ordering, Less, Equal, Greater, ◌⊎◌, inl, inr, sym, refl, ap, subst, ◌∙◌, true≢false}
use Rattle.std.specs.List.{AllByRecursion, fold}
use Rattle.std.specs.Ordering.{nat_cmp, ordering_reverse, is_gt}
use Rattle.std.specs.Cmp.{IsTotalOrder, nat_cmp_total, on_total, then_total}
use Rattle.std.specs.Cmp as cmp
use Rattle.std.specs.Cmp.{upto}
use Rattle.std.specs.Cmp.Lexicographic.{slice_cmp, nat_list_cmp_total}
use Rattle.std.specs.FinMap.{nat_cmp-IsAntisymmetric, slice_cmp-IsAntisymmetric}
use Rattle.life_model.proofs.Cells.{both_equal}
use Rattle.life_cells.specs.TextOrder.{shorter_cmp, lesser_text, least_text}

pub shorter_total : IsTotalOrder shorter_cmp
shorter_total = then_total (on_total length nat_cmp_total) nat_list_cmp_total

-- no two texts tie
pub shorter_exact : (a b : List ℕ) → shorter_cmp a b ≡ Equal → a ≡ b
shorter_exact a b e = slice_cmp-IsAntisymmetric nat_cmp-IsAntisymmetric a b (both_equal (nat_cmp (length a) (length b)) (slice_cmp nat_cmp a b) e).1

-- ---- the least of several texts

greater_turned : (r s : Ordering) → s ≡ ordering_reverse r → is_gt r ≡ true → is_gt s ≡ false
greater_turned Less s e h = absurd (true≢false (sym h))
greater_turned Equal s e h = absurd (true≢false (sym h))
greater_turned Greater s e h = ap is_gt e

-- the first is no greater than the second
abbrev pub IsUpto : List ℕ → List ℕ → Type 0
IsUpto a b = is_gt (shorter_cmp a b) ≡ false

upto_itself : (a : List ℕ) → IsUpto a a
upto_itself a = ap is_gt (cmp.tied_itself shorter_total a)

lesser_first : (a b : List ℕ) → IsUpto (lesser_text a b) a
lesser_first a b =
    elim (is_gt (shorter_cmp a b)) as (λ t. is_gt (shorter_cmp a b) ≡ t → IsUpto (cond t b a) a) [
      | true ↦ λ e. greater_turned (shorter_cmp a b) (shorter_cmp b a) (shorter_total.antisymm b a) e
      | false ↦ λ e. upto_itself a
    ] refl

lesser_second : (a b : List ℕ) → IsUpto (lesser_text a b) b
lesser_second a b =
    elim (is_gt (shorter_cmp a b)) as (λ t. is_gt (shorter_cmp a b) ≡ t → IsUpto (cond t b a) b) [
      | true ↦ λ e. upto_itself b
      | false ↦ λ e. e
    ] refl

-- the least of a first text and others is no greater than each
fold_upto : (t : List ℕ) (ts : List (List ℕ)) → IsUpto (fold lesser_text t ts) t × AllByRecursion (IsUpto (fold lesser_text t ts)) ts
fold_upto t [] = (upto_itself t, tt)
fold_upto t (u ∷ us) =
    let h = fold_upto (lesser_text t u) us in
    (upto shorter_total (fold lesser_text (lesser_text t u) us) (lesser_text t u) t h.0 (lesser_first t u), (upto shorter_total (fold lesser_text (lesser_text t u) us) (lesser_text t u) u h.0 (lesser_second t u), h.1))

pub least_text-least : (ts : List (List ℕ)) → AllByRecursion (IsUpto (least_text ts)) ts
least_text-least [] = tt
least_text-least (t ∷ ts) = fold_upto t ts

lesser_one : (a b : List ℕ) → (lesser_text a b ≡ a) ⊎ (lesser_text a b ≡ b)
lesser_one a b = elim (is_gt (shorter_cmp a b)) as (λ t. (cond t b a ≡ a) ⊎ (cond t b a ≡ b)) [ true ↦ inr refl | false ↦ inl refl ]

-- the text is one of these
abbrev pub Among : List ℕ → List (List ℕ) → Type 0
Among x [] = ⊥
Among x (t ∷ ts) = (x ≡ t) ⊎ Among x ts

fold_among : (t : List ℕ) (ts : List (List ℕ)) → Among (fold lesser_text t ts) (t ∷ ts)
fold_among t [] = inl refl
fold_among t (u ∷ us) =
    elim (fold_among (lesser_text t u) us) [
      | inl e ↦ elim (lesser_one t u) [ inl f ↦ inl (e ∙ f) | inr f ↦ inr (inl (e ∙ f)) ]
      | inr later ↦ inr (inr later)
    ]

pub least_text-among : (t : List ℕ) (ts : List (List ℕ)) → Among (least_text (t ∷ ts)) (t ∷ ts)
least_text-among t ts = fold_among t ts

pub upto_among : (a x : List ℕ) (ts : List (List ℕ)) → AllByRecursion (IsUpto a) ts → Among x ts → IsUpto a x
upto_among a x [] all h = absurd h
upto_among a x (t ∷ ts) all h = elim h [
  | inl e ↦ subst (IsUpto a) (sym e) all.0
  | inr later ↦ upto_among a x ts all.1 later
]

-- two texts of which neither is greater are equal
pub upto_both : (a b : List ℕ) → IsUpto a b → IsUpto b a → a ≡ b
upto_both a b h k = shorter_exact a b (tied (shorter_cmp a b) (shorter_cmp b a) (shorter_total.antisymm b a) h k)
  where
    tied : (r s : Ordering) → s ≡ ordering_reverse r → is_gt r ≡ false → is_gt s ≡ false → r ≡ Equal
    tied Less s e h k = absurd (true≢false (ap is_gt (sym e) ∙ k))
    tied Equal s e h k = refl
    tied Greater s e h k = absurd (true≢false h)

-- a text that is one of these and no greater than each is the least
pub least_text_is : (x t : List ℕ) (ts : List (List ℕ)) → Among x (t ∷ ts) → AllByRecursion (IsUpto x) (t ∷ ts) → least_text (t ∷ ts) ≡ x
least_text_is x t ts h all =
    upto_both _ x (upto_among _ x (t ∷ ts) (least_text-least (t ∷ ts)) h) (upto_among x _ (t ∷ ts) all (least_text-among t ts))
