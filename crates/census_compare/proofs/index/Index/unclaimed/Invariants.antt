use Rattle.std.proofs.Common.{◌≡◌, List, take}
use Rattle.std.specs.List.{list_all}
use Rattle.census_compare.specs.Claims.{Claim}
use Rattle.census_compare.specs.Index.{AreNoted, are_none, names_claimed, names_of}
use Rattle.census_compare.proofs.index.Index.unclaimed.Given as goal

abbrev pub invariant-loop-index : goal.invariant-loop-index
invariant-loop-index l =
    (claims : List Claim) → AreNoted claims l.self → are_none l.left.items ≡ list_all (λ spot. names_claimed claims (names_of spot)) (take l.index l.self.spots.items)
