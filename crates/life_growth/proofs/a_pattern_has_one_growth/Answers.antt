use Rattle.life_growth.proofs.OneGrowth.{one_debris, one_list_of_engines, told_of_both}
use Rattle.life_growth.proofs.a_pattern_has_one_growth.Goals as goal

pub returns : goal.returns
returns c = record {
  engines = λ R b d G Es Fs S T. one_list_of_engines R b d G Es S Fs T;
  debris = λ R b d G Es Fs S T. one_debris R b d G Es S Fs T;
  told = λ R b d G E Es Fs S T growth too. told_of_both R b d G Es S Fs T growth too E;
}
