use Rattle.census_errors.proofs.Telling.{words_told}
use Rattle.census_errors.proofs.saying.tell_shown.Goals as goal

pub returns : goal.returns
returns g c = words_told c.args.bytes.now c.args.errors.now.stream c.tell_bytes.new.errors.stream c.tell_bytes.ensures
