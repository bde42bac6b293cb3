use Rattle.life_advance.proofs.WidthLemmas.Narrow.{columns_stay, rows_stay}
use Rattle.life_advance.proofs.width.laws.what_settles_stays_narrow.Goals as goal

pub returns-clause-columns : goal.returns-clause-columns
returns-clause-columns c = λ R G bound g n t. columns_stay R G bound g n t

pub returns-clause-rows : goal.returns-clause-rows
returns-clause-rows c = λ R G bound g n t. rows_stay R G bound g n t
