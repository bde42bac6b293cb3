-- Classes without a cell, which may be added and left out.
use Rattle.std.proofs.Common.{◌≡◌, ℕ, List, ◌∷◌, ◌++◌, get_or, inl, sym, ap, subst, ◌∙◌}
use Rattle.std.proofs.lemmas.List.Elements.{All-cons, All-tail}
use Rattle.std.proofs.lemmas.List.Kept.{AllPairs-cons}
use Rattle.life_model.specs.Rule.{Rule}
use Rattle.life_model.specs.Generation.{Generation, empty}
use Rattle.life_model.specs.Evolution.{generation}
use Rattle.life_objects.specs.Apart.{AreApart, AreApartBefore}
use Rattle.life_objects.specs.Union.{union, union_of}
use Rattle.life_objects.specs.Whole.{StaysWhole}
use Rattle.life_objects.proofs.Lists.{AllPairs-tail}
use Rattle.life_objects.proofs.Times.{generation-empty}
use Rattle.life_objects.proofs.Unions.{in_empty, union-comm, union-empty}
use Rattle.life_classes.specs.declared.class.Class.{Class}
use Rattle.life_classes.specs.Tracking.{AreTracked, LeadTo, first_sets}

none_with : (P Q : Generation) → P ≡ empty → union P Q ≡ Q
none_with P Q none = ap (λ H. union H Q) none ∙ union-comm empty Q ∙ union-empty Q

module _ (R : Rule) (b n : ℕ) (G : Generation) (z : Class) (cs : List Class) (first : z.first ≡ empty) where
  none_at : (m : ℕ) → generation R z.first m ≡ empty
  none_at m = ap (λ H. generation R H m) first ∙ generation-empty R m

  pub nobody_tracked : z.last ≡ empty → AreTracked R b n G cs → AreTracked R b n G (z ∷ cs)
  nobody_tracked last t = record {
    together = none_with z.first (union_of (first_sets cs)) first ∙ t.together;
    whole =
        All-cons (λ c. StaysWhole R b G c.first) z cs
        (subst (StaysWhole R b G) (sym first) (λ A B s. inl (λ c h. absurd (in_empty c h)))) t.whole;
    before =
        AllPairs-cons (λ c d. AreApartBefore R n c.first d.first) z cs
        (λ k f l m h. subst (λ H. AreApart H (generation R (get_or cs k f).first m)) (sym (none_at m)) (λ c d x y near. absurd (in_empty c x)))
        t.before;
    later = All-cons (λ c. c.last ≡ generation R c.first n) z cs (last ∙ sym (none_at n)) t.later;
  }

  pub dropped_tracked : AreTracked R b n G (z ∷ cs) → AreTracked R b n G cs
  dropped_tracked t = record {
    together = sym (none_with z.first (union_of (first_sets cs)) first) ∙ t.together;
    whole = All-tail (λ c. StaysWhole R b G c.first) z cs t.whole;
    before = AllPairs-tail (λ c d. AreApartBefore R n c.first d.first) z cs t.before;
    later = All-tail (λ c. c.last ≡ generation R c.first n) z cs t.later;
  }

pub lead_nobody : (z : Class) (cs : List Class) → z.first ≡ empty → z.last ≡ empty → LeadTo cs (z ∷ cs)
lead_nobody z cs first last R b n G rest h t = nobody_tracked R b n G z (cs ++ rest) first last t

pub lead_dropped : (z : Class) (cs : List Class) → z.first ≡ empty → LeadTo (z ∷ cs) cs
lead_dropped z cs first R b n G rest h t = dropped_tracked R b n G z (cs ++ rest) first t
