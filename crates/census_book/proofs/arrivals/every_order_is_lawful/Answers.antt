use Rattle.census_book.proofs.Orders.{orders_are_lawful}
use Rattle.census_book.proofs.arrivals.every_order_is_lawful.Goals as goal

pub returns : goal.returns
returns c = orders_are_lawful
