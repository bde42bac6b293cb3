use Rattle.life_growth.proofs.RelationsLemmas.Crosses.{square_first, square_second, three_square}
use Rattle.life_growth.proofs.relations.cross_products_are_square.Goals as goal

pub returns : goal.returns
returns c = record { first = square_first; second = square_second; three = λ u v w. three_square v w u }
