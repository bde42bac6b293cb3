-- What settles has fallen apart, into parts of these kinds.
use Rattle.std.proofs.Common.{ℕ, ◌-◌, List, length, sym, ◌∙◌}
use Rattle.life_model.specs.Generation.{Generation}
use Rattle.life_model.specs.Rule.{Rule}
use Rattle.life_objects.specs.Ash.{HasFallenApart}
use Rattle.life_objects.specs.Kinds.{AreAlike}
use Rattle.life_objects.specs.Union.{generations}
use Rattle.life_objects.proofs.Ashes.{IsAsh-until}
use Rattle.life_growth.proofs.Alike.{ashes_are_alike, count_later}
use Rattle.life_apart.specs.Sets.{sets_of}
use Rattle.life_growing.specs.Settled.Settling.{IsSettling, Settling}

module _ (R : Rule) (b : ℕ) (P : Generation) (s : Settling) (settles : IsSettling R b P s) where
  abbrev since : ℕ
  since = b - length s.early

  pub parts_by_then : HasFallenApart R b P (generations R (sets_of s.parts) (b - length s.early))
  parts_by_then = IsAsh-until R b (length s.early) b P (sets_of s.parts) settles.sooner settles.ash

  pub parts_are_alike : (c : ℕ) (others : List Generation) → HasFallenApart R c P others →
      AreAlike R (sets_of s.parts) others
  parts_are_alike c others fallen kind fits =
      sym (count_later R kind fits b since (sets_of s.parts) settles.ash.objects)
      ∙ ashes_are_alike R b c P (generations R (sets_of s.parts) since) others parts_by_then fallen kind fits
