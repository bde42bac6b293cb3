-- Lists of classes that are replaced by others.
use Rattle.std.proofs.Common.{◌≡◌, ℕ, ◌≤◌, List, [], ◌∷◌, ◌++◌, length, sym, refl, subst}
use Rattle.std.proofs.Common.{append_assoc, arith}
use Rattle.std.proofs.lemmas.List.{append-nil}
use Rattle.life_model.specs.Rule.{Rule}
use Rattle.life_model.specs.Generation.{Generation}
use Rattle.life_classes.specs.declared.class.Class.{Class}
use Rattle.life_classes.specs.Tracking.{AreTracked, LeadTo}
use Rattle.life_classes.proofs.Tracked.{from_front}

pub emptied : (cs : List Class) → length cs ≡ 0 → cs ≡ []
emptied [] h = refl
emptied (c ∷ cs) h = absurd (omega arith)

module _ (R : Rule) (b n : ℕ) (G : Generation) where
  -- the order of two lists is swapped
  pub exchanged : (cs ds : List Class) → AreTracked R b n G (cs ++ ds) → AreTracked R b n G (ds ++ cs)
  exchanged [] ds t = subst (AreTracked R b n G) (sym (append-nil ds)) t
  exchanged (c ∷ cs) ds t =
      subst (AreTracked R b n G) (append_assoc ds (c ∷ []) cs)
      (exchanged cs (ds ++ (c ∷ []))
      (subst (AreTracked R b n G) (append_assoc cs ds (c ∷ []))
      (from_front R b n G c (cs ++ ds) []
      (subst (λ es. AreTracked R b n G (c ∷ es)) (sym (append-nil (cs ++ ds))) t))))

-- two lists, each of which is replaced by another
pub halves_tracked : (xs ys cs ds : List Class) → LeadTo xs cs → LeadTo ys ds → LeadTo (xs ++ ys) (cs ++ ds)
halves_tracked xs ys cs ds first second R b n G rest h t =
    let left = first R b n G (ys ++ rest) h (subst (AreTracked R b n G) (append_assoc xs ys rest) t) in
    let turned = subst (AreTracked R b n G) (append_assoc ys rest cs) (exchanged R b n G cs (ys ++ rest) left) in
    let both = subst (AreTracked R b n G) (sym (append_assoc ds rest cs)) (second R b n G (rest ++ cs) h turned) in
    subst (AreTracked R b n G) (sym (append_assoc cs ds rest)) (exchanged R b n G (ds ++ rest) cs both)

pub in_turn : (cs ds es : List Class) → LeadTo cs ds → LeadTo ds es → LeadTo cs es
in_turn cs ds es first second R b n G rest h t = second R b n G rest h (first R b n G rest h t)

-- with no other classes
pub led : (cs ds : List Class) → LeadTo cs ds → (R : Rule) (b n : ℕ) (G : Generation) → n ≤ b → AreTracked R b n G cs →
    AreTracked R b n G ds
led cs ds leads R b n G h t =
    subst (AreTracked R b n G) (append-nil ds)
    (leads R b n G [] h (subst (AreTracked R b n G) (sym (append-nil cs)) t))
