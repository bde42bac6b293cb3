-- A plane on the way to a bound.
use Rattle.std.proofs.Common.{◌≡◌, ℕ, List, [], None, Option, sym, ap, subst, ◌∙◌, arith}
use Rattle.std.proofs.lemmas.List.Elements.{All-nil}
use Rattle.std.specs.List.{All}
use Rattle.life_model.specs.Evolution.{generation}
use Rattle.life_model.specs.Generation.{Generation}
use Rattle.life_model.specs.Rule.{Rule}
use Rattle.life_model.proofs.Recurrences.{generation-zero}
use Rattle.life_ash.specs.Allowed.{AreAllowedBefore}
use Rattle.life_ash.specs.Met.{Terms}
use Rattle.life_apart.specs.Onsets.Moments.{IsMomentOf, Moment}
use Rattle.life_census.specs.OnTheWay.{IsOnTheWay}

-- at the start
pub way_begins : (R : Rule) (G : Generation) (limit : Option ℕ) (H : Generation) (n : ℕ) (kept : List Moment) → H ≡ G →
    n ≡ 0 → kept ≡ [] → IsOnTheWay R G limit H n kept
way_begins R G limit H n kept cells start none = record {
  cells = cells ∙ sym (ap (generation R G) start ∙ generation-zero R G);
  few = λ m h. absurd (omega arith);
  trail = subst (All (IsMomentOf R G)) (sym none) (All-nil (IsMomentOf R G));
}

-- from any generation on, where none may have too many cells
pub way_goes_on : (R : Rule) (G H : Generation) (n : ℕ) (kept : List Moment) → H ≡ generation R G n → kept ≡ [] →
    IsOnTheWay R G None H n kept
way_goes_on R G H n kept cells none = record {
  cells = cells;
  few = λ m h. tt;
  trail = subst (All (IsMomentOf R G)) (sym none) (All-nil (IsMomentOf R G));
}

-- at the end
pub way_ends : (t s : Terms) (b : ℕ) (G : Generation) (limit : Option ℕ) (H : Generation) (n : ℕ) (kept : List Moment) →
    s ≡ t → t.bound ≡ b → n ≡ b → IsOnTheWay t.rule G limit H n kept →
    (H ≡ generation s.rule G s.bound) × AreAllowedBefore s.rule G limit s.bound
way_ends t s b G limit H n kept same bound ended way =
    subst (λ (u : Terms). (H ≡ generation u.rule G u.bound) × AreAllowedBefore u.rule G limit u.bound) (sym same) (
      way.cells ∙ ap (generation t.rule G) (ended ∙ sym bound),
      subst (AreAllowedBefore t.rule G limit) (ended ∙ sym bound) way.few,
    )
