use Rattle.std.proofs.Common.{◌+◌, List, arith, map, subst}
use Rattle.std.specs.List.Sorted.{IsPermutation}
use Rattle.std.proofs.lemmas.List.Sorted.{IsPermutation-map}
use Rattle.census_compare.specs.Index.{Known, spot_known}
use Rattle.census_compare.proofs.index.Index.of.Goals as goal

pub returns-clause-is : goal.returns-clause-is
returns-clause-is c =
    let sections = c.in_ok-sections.sections in
    let old = c.in_ok-spots.spots.items in
    let new = c.put_in_order.new.spots.items in
    let all = c.in_ok-noted.ensures.len in
    let one = c.len.ensures in
    let two = c.len-2.ensures in
    let held = c.in_ok-noted.noted.ok.0 in
    let own = c.put_in_order.new.spots.ok.0 in
    record {
      known = subst (λ (ks : List Known). IsPermutation ks (map (spot_known sections) new)) c.in_ok-spots.ensures
          (IsPermutation-map (spot_known sections) old new c.put_in_order.ensures.permutation);
      order = c.put_in_order.ensures.ordered;
      long = omega (arith, all, one, two, held, own);
    }
