use Rattle.watched.proofs.Telling.{tells_none}
use Rattle.census_rows.proofs.write.put_optional.Goals as goal

pub returns-in-None : goal.returns-in-None
returns-in-None g c = rw c.in-None.is (tells_none _)
