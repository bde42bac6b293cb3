use Rattle.life_objects.specs.Apart.{AreDisjoint}
use Rattle.life_objects.proofs.Lists.{AllPairs-weaker}
use Rattle.life_parts.specs.Parts.Splittings.{AreUntouching}
use Rattle.life_parts.proofs.IndependentLemmas.Finer.{disjoint_if_far}
use Rattle.life_parts.proofs.IndependentLemmas.Listed.{listed}
use Rattle.life_parts.proofs.IndependentLemmas.Split.{groups_of_splitting, untouching_of_splitting}
use Rattle.life_parts.proofs.independent.splittings_are_all_ways.Goals as goal

pub returns : goal.returns
returns c = record {
  sets = λ G Hs one.
      let are = groups_of_splitting G Hs one in
      (are.together, untouching_of_splitting G Hs one, are.some);
  all = λ G Hs together far some.
      listed G Hs
      (record { together = together; once = AllPairs-weaker AreUntouching AreDisjoint disjoint_if_far Hs far; some = some }) far;
}
