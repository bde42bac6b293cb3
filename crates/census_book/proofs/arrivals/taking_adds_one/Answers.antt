use Rattle.census_book.proofs.Counting.{counts_step}
use Rattle.census_book.proofs.arrivals.taking_adds_one.Goals as goal

pub returns : goal.returns
returns c = counts_step
