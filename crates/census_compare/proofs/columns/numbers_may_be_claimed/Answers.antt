use Rattle.census_compare.proofs.Numbers.{numbers-claimed}
use Rattle.census_compare.proofs.columns.numbers_may_be_claimed.Goals as goal

pub returns : goal.returns
returns c = numbers-claimed
