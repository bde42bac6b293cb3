use Rattle.std.proofs.Common.{◌≡◌, ◌+◌, drop, map}
use Rattle.std.specs.List.{prefix_len}
use Rattle.census_compare.specs.Order.{has_key, key_of}
use Rattle.census_compare.proofs.listing.run_len.Given as goal

abbrev pub invariant-loop-index : goal.invariant-loop-index
invariant-loop-index g l =
    l.index + prefix_len (has_key (key_of l.told)) (map (g.S.AtPlaces.told l.source) (drop l.index l.places))
    ≡ prefix_len (has_key (key_of l.told)) (map (g.S.AtPlaces.told l.source) l.places)
