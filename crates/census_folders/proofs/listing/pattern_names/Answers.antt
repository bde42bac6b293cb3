use Rattle.std.proofs.Common.{◌≡◌, ◌++◌, subst}
use Rattle.std.specs.List.{filter}
use Rattle.census_folders.specs.Listings.{is_pattern_name, pattern_names_in}
use Rattle.census_folders.proofs.Listings.{all_names, bytes_of, left_names}
use Rattle.census_folders.proofs.listing.pattern_names.Goals as goal

pub returns : goal.returns
returns c =
    let whole = subst (λ left. bytes_of c.loop-left.names.items ++ filter is_pattern_name (left_names left) ≡ pattern_names_in c.args.listing.now) c.in_default.is c.loop-left.invariant in
    all_names _ _ _ whole c.sort.ensures.permutation c.in_ok-sort.ensures.sorted
