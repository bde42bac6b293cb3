-- The cells are undivided as soon as at most one class lives, and not before.
use Rattle.std.proofs.Common.{◌≡◌, ℕ, ◌<◌, ◌≤◌, ◌↔◌, List, length, refl, sym, ap, subst, ◌∙◌, arith}
use Rattle.std.specs.List.{All, AllPairs}
use Rattle.std.proofs.lemmas.List.{get_or-map, length-map}
use Rattle.std.proofs.lemmas.List.Elements.{All-map}
use Rattle.life_model.specs.Rule.{Rule}
use Rattle.life_model.specs.Generation.{Generation}
use Rattle.life_model.specs.Evolution.{generation}
use Rattle.life_objects.specs.Apart.{AreApartFor}
use Rattle.life_objects.specs.Piece.{IsUndivided}
use Rattle.life_objects.specs.Whole.{StaysWhole}
use Rattle.life_objects.proofs.Ashes.{IsUndivided-wider}
use Rattle.life_objects.proofs.Dividing.{few_by_undivided}
use Rattle.life_objects.proofs.Lists.{AllPairs-map}
use Rattle.life_objects.proofs.Staying.{NotBothLive, undivided_by_few}
use Rattle.life_classes.specs.declared.class.Class.{Class}
use Rattle.life_classes.specs.Tracking.{AreApartNow, AreFew, AreTracked, first_sets}
use Rattle.life_classes.proofs.Later.{end_apart}

-- ---- classes that are tracked

module _ (R : Rule) (b n : ℕ) (G : Generation) (cs : List Class)
    (t : (k : ℕ) → n ≤ k → AreTracked R k n G cs) (now : AreApartNow cs) where
  here : AreTracked R n n G cs
  here = t n (omega arith)

  whole : All (StaysWhole R n G) (first_sets cs)
  whole = All-map (StaysWhole R n G) (λ c. c.first) cs here.whole

  apart : AllPairs (AreApartFor R n) (first_sets cs)
  apart = end_apart R n n G cs here now refl

  few_firsts : AreFew cs → AllPairs (λ c d. NotBothLive R n c.first d.first) cs
  few_firsts few i j d h k live other =
      few i j d h k (λ gone. live (sym (here.later i d (omega arith)) ∙ gone)) (λ gone. other (sym (here.later j d k) ∙ gone))

  undivided_now : AreFew cs → IsUndivided R n G
  undivided_now few =
      undivided_by_few R n G (first_sets cs) here.together whole apart
      (AllPairs-map (NotBothLive R n) (λ c. c.first) cs (few_firsts few))

  pub undivided_soon : n ≤ b → AreFew cs → IsUndivided R b G
  undivided_soon le few = IsUndivided-wider R n b G le (undivided_now few)

  few_now : IsUndivided R n G → AreFew cs
  few_now undivided i j d h k live other =
      let below : i < length cs = omega arith in
      let P = get_or-map (λ (c : Class). c.first) cs i d d.first below in
      let Q = get_or-map (λ (c : Class). c.first) cs j d d.first k in
      let inside : j < length (first_sets cs) = omega (arith, length-map cs (λ (c : Class). c.first)) in
      few_by_undivided R n G (first_sets cs) here.together apart undivided i j d.first h inside
      (λ gone. live (here.later i d below ∙ ap (λ H. generation R H n) (sym P) ∙ gone))
      (λ gone. other (here.later j d k ∙ ap (λ H. generation R H n) (sym Q) ∙ gone))

  pub few_decide : n ≡ b → AreFew cs ↔ IsUndivided R b G
  few_decide e = (
    λ few. subst (λ m. IsUndivided R m G) e (undivided_now few),
    λ undivided. few_now (subst (λ m. IsUndivided R m G) (sym e) undivided),
  )
