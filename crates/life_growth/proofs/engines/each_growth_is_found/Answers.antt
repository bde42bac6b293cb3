use Rattle.life_growth.proofs.EnginesLemmas.Growths.{found_is_growth, growth_found}
use Rattle.life_growth.proofs.engines.each_growth_is_found.Goals as goal

pub returns : goal.returns
returns c = record {
  found = λ R b G S Es growth. growth_found R b G Es S growth;
  right = λ R b G S Es one each pairs. found_is_growth R b G Es S one each pairs;
}
