use Rattle.life_growth.proofs.FatesLemmas.Classes.{picked_growth}
use Rattle.life_growth.proofs.fates.classes_tell_growth.Goals as goal

pub returns : goal.returns
returns c R b far G S Es Ps Fs Os long classes picked growth = picked_growth R b G Es S growth far long Ps classes Fs Os picked
