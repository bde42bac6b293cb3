use Rattle.census_book.proofs.Orders.{arrivals_are_lawful}
use Rattle.census_book.proofs.arrivals.every_arrival_is_lawful.Goals as goal

pub returns : goal.returns
returns c = arrivals_are_lawful
