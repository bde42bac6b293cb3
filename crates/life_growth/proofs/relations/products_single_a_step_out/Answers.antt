use Rattle.life_growth.proofs.RelationsLemmas.Products.{product-times, singled_out}
use Rattle.life_growth.proofs.relations.products_single_a_step_out.Goals as goal

pub returns : goal.returns
returns c = record { out = singled_out; times = product-times }
