use Rattle.std.proofs.Common.{◌≡◌, ◌++◌, map, string_bytes, ◌+◌, length}
use Rattle.std.specs.List.{filter}
use Rattle.std.specs.Option.{option_map_or}
use Rattle.std.specs.Str.{is_utf8}
use Rattle.census_folders.specs.declared.loss.OnLoss.TheVariants.{Stop}
use Rattle.census_folders.specs.Paths.{is_any, names_in, path_of}
use Rattle.census_folders.specs.Walks.{lost_names}
use Rattle.census_folders.proofs.Listings.{left_names}
use Rattle.census_folders.proofs.walking.add_names.Given as goal

abbrev pub invariant-loop-left : goal.invariant-loop-left
invariant-loop-left l = record {
  found_are : map string_bytes l.found.items ++ map (path_of l.folder) (filter is_utf8 (filter is_any (left_names l.left))) ≡ map string_bytes l.fn.found.items ++ map (path_of l.folder) (filter is_utf8 (names_in l.folders));
  lost_are : l.lost ++ lost_names l.folder (filter is_any (left_names l.left)) ≡ l.fn.lost ++ lost_names l.folder (names_in l.folders);
  none : l.on_loss ≡ Stop → l.lost ≡ l.fn.lost;
}

abbrev pub decreases-loop-left : goal.decreases-loop-left
decreases-loop-left l = option_map_or (λ rest. 1 + length rest.now) l.left 0
