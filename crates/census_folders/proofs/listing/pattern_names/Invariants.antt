use Rattle.std.proofs.Common.{◌≡◌, ◌+◌, ◌++◌, length}
use Rattle.std.specs.List.{filter}
use Rattle.std.specs.Option.{option_map_or}
use Rattle.census_folders.specs.Listings.{is_pattern_name, pattern_names_in}
use Rattle.census_folders.proofs.Listings.{bytes_of, left_names}
use Rattle.census_folders.proofs.listing.pattern_names.Given as goal

abbrev pub invariant-loop-left : goal.invariant-loop-left
invariant-loop-left l = bytes_of l.names.items ++ filter is_pattern_name (left_names l.left) ≡ pattern_names_in l.listing

abbrev pub decreases-loop-left : goal.decreases-loop-left
decreases-loop-left l = option_map_or (λ rest. 1 + length rest.now) l.left 0
