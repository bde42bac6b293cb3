use Rattle.life_growth.proofs.Outgrowing.{outgrows_itself}
use Rattle.life_growth.proofs.engines_outgrow_themselves.Goals as goal

pub returns : goal.returns
returns c R b n E way engine = outgrows_itself R b E way engine n
