-- The observations about patterns on the way to a bound.
use Rattle.std.specs.Prelude.{◌≡◌, ℕ, List, Option}
use Rattle.std.specs.List.{All}
use Rattle.life_model.specs.Evolution.{generation}
use Rattle.life_model.specs.Generation.{Generation}
use Rattle.life_model.specs.Rule.{Rule}
use Rattle.life_answer.specs.Growing.{allowed_bound}
use Rattle.life_ash.specs.Allowed.{AreAllowedBefore}
use Rattle.life_ash.specs.Fates.{IsFate, IsSmallEnough}
use Rattle.life_objects.specs.Ash.{HasFallenApart}
use Rattle.life_apart.specs.Onsets.Moments.{IsMomentOf, Moment}
use Rattle.life_census.specs.Grown.{IsGrownWithin, NeverGrowsThen}
use Rattle.life_census.specs.declared.seen.Seen.{Seen}
use Rattle.life_census.specs.declared.seen.Seen.TheVariants.{Becomes, Grows, Unresolved}

-- H is generation n of G, none before is past the limit, and these are some of G's generations.
pub record IsOnTheWay (R : Rule) (G : Generation) (limit : Option ℕ) (H : Generation) (n : ℕ) (kept : List Moment) :
    Type 0 where
  pub cells : H ≡ generation R G n
  pub few : AreAllowedBefore R G limit n
  pub trail : All (IsMomentOf R G) kept

-- G grows within the horizon, or this is its fate within b, or neither does it fall apart by then nor grow
abbrev pub IsSeen : Rule → Generation → ℕ → Option ℕ → ℕ → Seen → Type 0
IsSeen R G b limit horizon (Grows growth) = IsGrownWithin R G (allowed_bound limit R G b) horizon growth
IsSeen R G b limit horizon (Becomes fate) = IsFate R G b limit fate
IsSeen R G b limit horizon Unresolved =
    IsSmallEnough R G b limit × ((parts : List Generation) → HasFallenApart R b G parts → ⊥) × NeverGrowsThen R G b horizon
