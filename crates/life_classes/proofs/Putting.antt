-- Two classes in a list become one, in the place of the first.
use Rattle.std.proofs.Common.{◌≡◌, ℕ, suc, ◌+◌, ◌<◌, ◌≤◌, List, ◌∷◌, length, get_or, take, drop, inl, inr, sym, subst, ◌∙◌, arith}
use Rattle.std.specs.List.{remove}
use Rattle.std.proofs.lemmas.Bool.{cases_lt}
use Rattle.std.proofs.lemmas.List.{same_lists}
use Rattle.std.proofs.lemmas.List.Edits.{get_or-remove_above, get_or-remove_below, length-remove}
use Rattle.life_model.specs.Generation.{empty}
use Rattle.life_objects.specs.Apart.{AreApart}
use Rattle.life_objects.specs.Union.{union}
use Rattle.life_classes.specs.declared.class.Class.{Class}
use Rattle.life_classes.specs.Tracking.{LeadTo}
use Rattle.life_classes.proofs.Leading.{lead_back, lead_gathered, parted, taken_first}
use Rattle.life_classes.proofs.Merging.{in_turn}
use Rattle.life_classes.proofs.Nobody.{lead_nobody}

pub put_back : (cs : List Class) (n : ℕ) (d : Class) → n < length cs → d ≡ get_or cs n d → LeadTo (d ∷ remove cs n) cs
put_back cs n d h at =
    subst (LeadTo (d ∷ remove cs n)) (sym (parted cs n d h at)) (lead_back d (take n cs) (drop (suc n) cs))

module _ (cs ds : List Class) (low high : ℕ) (lower : low < high) (h : high < length cs)
    (long : length ds ≡ length cs)
    (others : (k : ℕ) (d : Class) → k < length cs → (k ≡ low → ⊥) → (k ≡ high → ⊥) → get_or ds k d ≡ get_or cs k d) where
  at_rest : (es : List Class) (k : ℕ) (d : Class) → high < length es → k < low →
      get_or (remove (remove es high) low) k d ≡ get_or es k d
  at_rest es k d l below =
      let less = length-remove es high l in
      get_or-remove_below (remove es high) low d k below (omega arith) ∙ get_or-remove_below es high d k (omega arith) l

  at_middle : (es : List Class) (k : ℕ) (d : Class) → high < length es → low ≤ k → k + 1 < high →
      get_or (remove (remove es high) low) k d ≡ get_or es (k + 1) d
  at_middle es k d l from below =
      let less = length-remove es high l in
      get_or-remove_above (remove es high) low d k from (omega arith) ∙ get_or-remove_below es high d (k + 1) below l

  at_end : (es : List Class) (k : ℕ) (d : Class) → high < length es → low ≤ k → high ≤ k + 1 →
      get_or (remove (remove es high) low) k d ≡ get_or es (k + 1 + 1) d
  at_end es k d l from past =
      let less = length-remove es high l in
      get_or-remove_above (remove es high) low d k from (omega arith) ∙ get_or-remove_above es high d (k + 1) past l

  length-rest : (es : List Class) → high < length es → length (remove (remove es high) low) + 2 ≡ length es
  length-rest es l =
      let less = length-remove es high l in
      let least = length-remove (remove es high) low (omega arith) in
      omega arith

  same_rest : remove (remove cs high) low ≡ remove (remove ds high) low
  same_rest =
      let one = length-rest cs h in
      let two = length-rest ds (omega arith) in
      same_lists _ _ (omega arith) (λ k d inside.
      elim (cases_lt k low) [
        | inl below ↦
            at_rest cs k d h below
            ∙ sym (at_rest ds k d (omega arith) below
            ∙ others k d (omega arith) (λ (e : k ≡ low). omega arith) (λ (e : k ≡ high). omega arith))
        | inr from ↦ elim (cases_lt (k + 1) high) [
          | inl below ↦
              at_middle cs k d h from below
              ∙ sym (at_middle ds k d (omega arith) from below
              ∙ others (k + 1) d (omega arith) (λ (e : k + 1 ≡ low). omega arith) (λ (e : k + 1 ≡ high). omega arith))
          | inr past ↦
              at_end cs k d h from past
              ∙ sym (at_end ds k d (omega arith) from past
              ∙ others (k + 1 + 1) d (omega arith) (λ (e : k + 1 + 1 ≡ low). omega arith)
              (λ (e : k + 1 + 1 ≡ high). omega arith))
        ]
      ])

  pub lead_put : (x y e z : Class) → ((d : Class) → get_or cs high d ≡ x) → ((d : Class) → get_or cs low d ≡ y) →
      ((d : Class) → get_or ds low d ≡ e) → ((d : Class) → get_or ds high d ≡ z) → e.first ≡ union y.first x.first →
      e.last ≡ union y.last x.last → z.first ≡ empty → z.last ≡ empty → ¬ AreApart y.last x.last → LeadTo cs ds
  lead_put x y e z at_high at_low is_low is_high first last none gone meet =
      let less = length-remove cs high h in
      let fewer = length-remove ds high (omega arith) in
      in_turn cs (x ∷ remove cs high) ds (taken_first cs high x h (sym (at_high x)))
      (in_turn (x ∷ remove cs high) (e ∷ remove (remove cs high) low) ds
      (lead_gathered x y e (remove cs high) low (omega arith)
      (sym (get_or-remove_below cs high y low lower h ∙ at_low y)) first last meet)
      (in_turn (e ∷ remove (remove cs high) low) (remove ds high) ds
      (subst (λ es. LeadTo (e ∷ es) (remove ds high)) (sym same_rest)
      (put_back (remove ds high) low e (omega arith)
      (sym (get_or-remove_below ds high e low lower (omega arith) ∙ is_low e))))
      (in_turn (remove ds high) (z ∷ remove ds high) ds (lead_nobody z (remove ds high) none gone)
      (put_back ds high z (omega arith) (sym (is_high z))))))
