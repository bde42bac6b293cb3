-- The test of whether sets that make up a generation are held apart in it, and then through a period.
use Rattle.std.specs.Prelude.{ℕ, ◌==◌, Bool, ◌&&◌, ◌||◌, nat_le, List, count_by, if◌then◌else◌}
use Rattle.std.specs.List.{list_all, list_any}
use Rattle.life_model.specs.Cell.{Cell}
use Rattle.life_model.specs.Rule.{Rule}
use Rattle.life_model.specs.Generation.{Generation, contains}
use Rattle.life_model.specs.Evolution.{candidates, generation, next}
use Rattle.life_model.specs.Symmetry.{translate_of}
use Rattle.life_objects.specs.Union.{generations}
use Rattle.life_objects.specs.Decided.Tests.{each_below, same_set}
use Rattle.life_parts.specs.Independent.Groupings.{are_untouching, splittings, touches}

-- True where the sets that make up G, each alone, make of the place x what G makes of it: exactly one of them bears a cell
-- if one is born, and none does if none is.
unfoldable pub is_fair : Rule → Generation → List Generation → Cell → Bool
is_fair R G Hs x = count_by (λ H. contains (next R H) x) Hs == (if contains (next R G) x then 1 else 0)

-- true where the groups are fair at x, however H is split into groups that don't touch
unfoldable pub is_fair_within : Rule → Cell → Generation → Bool
is_fair_within R x H = list_all (λ groups. is_fair R H groups x) (splittings H)

-- true where at most one of the sets touches the place x, or they are fair there and each of them is fair within
unfoldable pub are_apart_at : Rule → Generation → List Generation → Cell → Bool
are_apart_at R G Hs x =
    nat_le (count_by (touches x) Hs) 1 || (is_fair R G Hs x && list_all (is_fair_within R x) Hs)

-- true where no two of the sets that make up G touch, and they are held apart at each dead cell beside a live one
unfoldable pub are_held_apart : Rule → Generation → List Generation → Bool
are_held_apart R G Hs =
    are_untouching Hs && list_all (λ x. contains G x || are_apart_at R G Hs x) (candidates G)

-- true where each of the sets, after p generations, is one of them again, moved by d
unfoldable pub come_again : Rule → ℕ → Cell → List Generation → Bool
come_again R p d Hs = list_all (λ A. list_any (λ H. same_set (generation R A p) (translate_of H d)) Hs) Hs

-- true where they are held apart in each of the first p generations of P, and are the same sets again after these, moved
-- by d
unfoldable pub are_held_apart_through : Rule → Generation → ℕ → Cell → List Generation → Bool
are_held_apart_through R P p d Hs =
    each_below (λ n. are_held_apart R (generation R P n) (generations R Hs n)) p && come_again R p d Hs
